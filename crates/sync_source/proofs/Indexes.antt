-- The index that a thread's trap has to have is the one that the thread has ended with.
use Rattle.std.proofs.Common.{◌≡◌, ◌≢◌, ◌⊎◌, inl, inr, ℕ, List, [], ◌∷◌, map, Option, Some, None, option_and_then, slice_get, refl, sym, ap, ◌∙◌, subst}
use Rattle.std.proofs.lemmas.Bool.{cases_eq}
use Rattle.std.proofs.lemmas.Option.{none-some, same_Some}
use Rattle.plain_monitor.proofs.Lists.{get_set_other}
use Rattle.plain_monitor.specs.declared.entry.Ending.TheVariants as ending
use Rattle.plain_monitor.specs.declared.entry.Entry.{Entry}
use Rattle.plain_monitor.specs.declared.entry.Entry.TheVariants.{Trap}
use Rattle.plain_monitor.specs.declared.entry.Logged.{Logged}
use Rattle.plain_machine.specs.declared.monitor_call.Mode.{Mode}
use Rattle.plain_machine.specs.declared.monitor_call.Mode.TheVariants.{Ended}
use Rattle.plain_machine.specs.Thread.{ThreadState}
use Rattle.plain_machine.specs.Machine.{PlainMachine, take}
use Rattle.plain_machine.specs.Legal.{after_all}
use Rattle.sync_source.specs.SyncThread.{with_index}
use Rattle.sync_source.proofs.Machines.{index_of, aside_all}
use Rattle.plain_machine.specs.Asking.{ask_in}
use Rattle.machine_laws.proofs.ReachedAsked.{IsTaken, taken}
use Rattle.sync_source.proofs.Traps.{trapped}
use Rattle.sync_source.proofs.Orders.{placed}

abbrev HasEnded : Mode → Type 0
HasEnded (Ended e) = Unit {0}
HasEnded m = ⊥

-- the index of the trap that a thread in this mode has ended with
abbrev ended_index : Mode → ℕ
ended_index (Ended (ending.Trap f i)) = i
ended_index m = 0

abbrev final_of : Option ThreadState → ℕ
final_of None = 0
final_of (Some s) = ended_index s.mode

abbrev pub final_index : PlainMachine → ℕ → ℕ
final_index m t = final_of (slice_get m.threads t)

ended_asks_none : (s : ThreadState) (mode : Mode) → HasEnded mode → ask_in s mode ≡ None
ended_asks_none s (Ended x) h = refl
ended_asks_none s _ h = absurd h

-- a thread that has ended stays as it is
keeps_ended : (m n : PlainMachine) (u t : ℕ) (e : Entry) (s : ThreadState)
    → slice_get m.threads t ≡ Some s → HasEnded s.mode → take m u e ≡ Some n → slice_get n.threads t ≡ Some s
keeps_ended m n u t e s f h k = go (cases_eq u t) (taken m u e n k)
  where
    go : (u ≡ t) ⊎ (u ≢ t) → IsTaken m u e n → slice_get n.threads t ≡ Some s
    go (inl same) x =
        let one : Some s ≡ Some x.s = sym f ∙ ap (slice_get m.threads) (sym same) ∙ x.at in
        let ends : HasEnded (x.s).mode = subst (λ (y : ThreadState). HasEnded y.mode) (same_Some s x.s one) h in
        absurd (none-some x.asked (sym (ended_asks_none x.s (x.s).mode ends) ∙ x.asks))
    go (inr other) x =
        ap (λ (y : PlainMachine). slice_get y.threads t) (sym x.is) ∙ get_set_other m.threads u t _ other ∙ f

persists : (xs : List (ℕ × Logged)) (m n : PlainMachine) (t : ℕ) (s : ThreadState)
    → slice_get m.threads t ≡ Some s → HasEnded s.mode → aside_all m xs ≡ Some n → slice_get n.threads t ≡ Some s
persists [] m n t s f h k = ap (λ (x : PlainMachine). slice_get x.threads t) (sym (same_Some m n k)) ∙ f
persists (x ∷ xs) m n t s f h k = go (λ next e. persists xs next n t s e h) (take m x.0 (with_index (index_of (slice_get m.threads x.0)) x.1.entry)) refl k
  where
    go : ((next : PlainMachine) → slice_get next.threads t ≡ Some s → aside_all next xs ≡ Some n → slice_get n.threads t ≡ Some s)
        → (o : Option PlainMachine) → take m x.0 (with_index (index_of (slice_get m.threads x.0)) x.1.entry) ≡ o
        → option_and_then (λ next. aside_all next xs) o ≡ Some n → slice_get n.threads t ≡ Some s
    go ih None e l = absurd (none-some n l)
    go ih (Some next) e l = ih next (keeps_ended m next x.0 t _ s f h e) l

-- the index that a thread asks for where it takes a trap is the one that it ends with
final_is : (m next n : PlainMachine) (t : ℕ) (e : Entry) (xs : List (ℕ × Logged)) → take m t (with_index (index_of (slice_get m.threads t)) e)
    ≡ Some next → aside_all next xs ≡ Some n → with_index (final_index n t) e ≡ with_index (index_of (slice_get m.threads t)) e
final_is m next n t (Trap f j) xs h k =
    let x = trapped m next t f (index_of (slice_get m.threads t)) h in
    ap (λ i. Trap f i) (ap final_of (persists xs next n t _ x.after tt k))
final_is m next n t e xs h k = refl

pub indexed_all : (xs : List (ℕ × Logged)) (m n : PlainMachine) → aside_all m xs ≡ Some n → after_all m (map (placed (final_index n)) xs) ≡ Some n
indexed_all [] m n h = h
indexed_all (x ∷ xs) m n h = go (λ next k. indexed_all xs next n k) (take m x.0 (with_index (index_of (slice_get m.threads x.0)) x.1.entry)) refl h
  where
    go : ((next : PlainMachine) → aside_all next xs ≡ Some n → after_all next (map (placed (final_index n)) xs) ≡ Some n)
        → (o : Option PlainMachine) → take m x.0 (with_index (index_of (slice_get m.threads x.0)) x.1.entry) ≡ o
        → option_and_then (λ next. aside_all next xs) o ≡ Some n → after_all m (map (placed (final_index n)) (x ∷ xs)) ≡ Some n
    go ih None e k = absurd (none-some n k)
    go ih (Some next) e k =
        ap (λ y. option_and_then (λ z. after_all z (map (placed (final_index n)) xs)) (take m x.0 y)) (final_is m next n x.0 x.1.entry xs e k)
        ∙ ap (λ y. option_and_then (λ z. after_all z (map (placed (final_index n)) xs)) y) e ∙ ih next k
