-- The world after an exchange of a mark for a header, which logs the last Exit: nobody owns the object.
use Rattle.core_locks.proofs.Prelude.{◌≡◌, ℕ, ◌||◌, Bool, true, false, List, None, refl, sym, ap, ◌∙◌, mark_of, Locked, is_thread}
use Rattle.core_locks.proofs.Prelude.{PlainObject, Exit, Mark, StepPlan, Exits, is_neutral, bears, World, Open, lock, marks}
use Rattle.core_locks.proofs.Prelude.{owner_words, prototype_of, inflations, who, holder, hold_count, monitor_of, owner_at}
use Rattle.core_locks.proofs.Prelude.{CallContext, with_stage, logging_plan, Fits, CompareExchange, no_owner, with_word_there}
use Rattle.core_locks.proofs.MarkMeanings.{neutral_lock}
use Rattle.core_locks.proofs.RefutedSteps.{hit, swap_hits}

abbrev pub leave : (o t p header : ℕ) → CallContext → StepPlan
leave o t p header e = with_stage (Exits o p) (logging_plan (Exit o) e (Mark o) (CompareExchange (mark_of (Locked t p)) header))

-- where nobody has the lock there is no plain owner
unowned : (w : World) (P : List PlainObject) (o : ℕ) → Fits w P → who w o ≡ None → (monitor_of P o).owner ≡ None
unowned w P o fits nobody = no_owner (monitor_of P o).owner
    (λ u. first_fails (owner_at P o u) (bears (w.known u).stage o) (sym (fits.owners.same o u) ∙ ap (λ a. is_thread a u) nobody))
  where
    first_fails : (a b : Bool) → (a || b) ≡ false → a ≡ false
    first_fails true b h = absurd (cc h)
    first_fails false b h = refl

pub left_unowned : (w : World) (Q : List PlainObject) (o t p header : ℕ) (e : CallContext)
    → w.words (Mark o) ≡ mark_of (Locked t p) → is_neutral header ≡ true → Fits (hit (leave o t p header e) t w) Q
    → (monitor_of Q o).owner ≡ None
left_unowned w Q o t p header e mark neutral fits =
    let x = hit (leave o t p header e) t w in
    let word : marks x o ≡ header = with_word_there (Mark o) _ w.words ∙ (swap_hits (w.words (Mark o)) (mark_of (Locked t p)) header mark).1 in
    let opened : lock x o ≡ Open = neutral_lock (marks x o) (prototype_of x o) (owner_words x) (inflations x o) (ap is_neutral word ∙ neutral) in
    unowned x Q o fits (ap (λ k. holder k (λ u. hold_count o (x.known u).holds)) opened)
