-- A machine settles by entries that go alone.
use Rattle.std.proofs.Common.{◌≡◌, ℕ, zero, suc, ◌+◌, Bool, true, false, if◌then◌else◌, List, [], ◌∷◌, length, Option, Some, None, refl}
use Rattle.std.proofs.lemmas.Option.{none-some, same_Some, option_and_then_some}
use Rattle.plain_monitor.specs.declared.entry.Entry.{Entry}
use Rattle.plain_machine.specs.Machine.{PlainMachine, take}
use Rattle.plain_machine.specs.Offering.{offered}
use Rattle.every_outcome.specs.Alone.{goes_alone}
use Rattle.every_outcome.specs.Fuel.{refuelled, GoesAloneFull}
use Rattle.outcome_search.specs.Settled.{entry_in, after_alone, or_else, first_alone, go_on, settled}

-- some thread's entry that goes alone leads to this machine
pub record IsAfterAlone (m a : PlainMachine) : Type 0 where
  pub thread : ℕ
  pub entry : Entry
  pub alone : goes_alone m thread entry ≡ true
  pub takes : take m thread entry ≡ Some a

alone_at : (m a : PlainMachine) (t : ℕ) → after_alone m t ≡ Some a → IsAfterAlone m a
alone_at m a t h = option_and_then_some _ (entry_in (offered m t)) a h (λ e offers takes. go e (goes_alone m t e) refl takes)
  where
    go : (e : Entry) (b : Bool) → goes_alone m t e ≡ b → (if goes_alone m t e then take m t e else None) ≡ Some a → IsAfterAlone m a
    go e true own takes = record { thread = t; entry = e; alone = own; takes = rw own at takes }
    go e false own takes = absurd (none-some a (rw own at takes))

pub alone_among : (m a : PlainMachine) (t n : ℕ) → first_alone m t n ≡ Some a → IsAfterAlone m a
alone_among m a t zero h = absurd (none-some a h)
alone_among m a t (suc n) h = go (after_alone m t) refl h (alone_among m a (t + 1) n)
  where
    go : (r : Option PlainMachine) → after_alone m t ≡ r → or_else r (first_alone m (t + 1) n) ≡ Some a
        → (first_alone m (t + 1) n ≡ Some a → IsAfterAlone m a) → IsAfterAlone m a
    go (Some b) here takes ih = alone_at m a t (rw (same_Some b a takes) at here)
    go None here takes ih = ih takes

-- what holds of a machine, and after each entry that goes alone with the fuel given back, holds where it has settled
pub settles : (P : PlainMachine → Type 0) (fuel steps : ℕ) (m : PlainMachine)
    → ((m a : PlainMachine) → P m → IsAfterAlone m a → P (refuelled fuel a)) → P m → P (settled fuel steps m)
settles P fuel zero m each here = here
settles P fuel (suc steps) m each here = go (first_alone m 0 (length m.threads)) refl (λ a h. settles P fuel steps (refuelled fuel a) each h)
  where
    go : (r : Option PlainMachine) → first_alone m 0 (length m.threads) ≡ r
        → ((a : PlainMachine) → P (refuelled fuel a) → P (settled fuel steps (refuelled fuel a)))
        → P (go_on (settled fuel steps) (refuelled fuel) m r)
    go None e ih = here
    go (Some a) e ih = ih a (each m a here (alone_among m a 0 (length m.threads) e))

-- the entries that lead there
pub record Chain (fuel : ℕ) (m n : PlainMachine) : Type 0 where
  pub entries : List (ℕ × Entry)
  pub alone : GoesAloneFull fuel m entries n

pub chain : (fuel steps : ℕ) (m : PlainMachine) → Chain fuel m (settled fuel steps m)
chain fuel zero m = record { entries = []; alone = refl }
chain fuel (suc steps) m = go (first_alone m 0 (length m.threads)) refl (λ a. chain fuel steps (refuelled fuel a))
  where
    go : (r : Option PlainMachine) → first_alone m 0 (length m.threads) ≡ r
        → ((a : PlainMachine) → Chain fuel (refuelled fuel a) (settled fuel steps (refuelled fuel a)))
        → Chain fuel m (go_on (settled fuel steps) (refuelled fuel) m r)
    go None e ih = record { entries = []; alone = refl }
    go (Some a) e ih =
        let k = alone_among m a 0 (length m.threads) e in
        let rest = ih a in
        record { entries = (k.thread, k.entry) ∷ rest.entries; alone = (a, k.alone, k.takes, rest.alone) }
