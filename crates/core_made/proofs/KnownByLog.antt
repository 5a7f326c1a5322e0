-- What a thread knows by its log it knows by its last stamp, and it knows what an entry tells it.
use Rattle.std.proofs.Common.{◌≡◌, ◌⊎◌, ℕ, ◌≤◌, ◌||◌, nat_lt, eqb-true, Bool, true, false, List, [], ◌∷◌}
use Rattle.std.proofs.Common.{◌++◌, length, slice_get, Option, Some, None, refl, sym, ap, ◌∙◌, inl, inr}
use Rattle.std.proofs.Math.Bool.{or-true}
use Rattle.std.proofs.lemmas.List.Folds.{list_any-append}
use Rattle.std.proofs.lemmas.Option.{cond_some}
use Rattle.std.specs.List.{AllByRecursion}
use Rattle.plain_monitor.specs.declared.entry.Entry.{Entry}
use Rattle.plain_monitor.specs.declared.entry.Entry.TheVariants.{Get, New}
use Rattle.plain_monitor.specs.declared.entry.Logged.{Logged}
use Rattle.plain_monitor.specs.declared.entry.Value.{Value}
use Rattle.plain_monitor.specs.declared.entry.Value.TheVariants.{Ref}
use Rattle.plain_monitor.specs.History.{run_all}
use Rattle.plain_monitor.specs.Made.{Numbering, first_made, maker_of, place_of, made_by, creates, take_made, nothing_made, made_after}
use Rattle.plain_monitor.specs.Monitor.{owns}
use Rattle.plain_monitor.specs.Objects.{PlainObject, take_entry, has_value, same_value}
use Rattle.plain_monitor.specs.Order.{order}
use Rattle.plain_monitor.proofs.Lists.{all_weaker}
use Rattle.plain_history.specs.Known.{makes, IsKnownAt, IsKnown}
use Rattle.plain_history.proofs.MadeHistories.{made_new}
use Rattle.plain_history.proofs.MadeSteps.{all_there, both_hold, neither_holds}
use Rattle.plain_history.proofs.Passing.{first_run}
use Rattle.plain_history.proofs.Swaps.{taken_at}
use Rattle.core_world.proofs.enter_exit.ObjectHolds.{thread_is}
use Rattle.core_world.specs.Threads.References.{tells_of, is_told, knows_by_log}

-- DECLARED OBJECTS. No entry makes one: so each is known at any stamp.
none_declared : (n : Numbering) (xs : List (ℕ × Logged)) (before after : List (List ℕ)) (o : ℕ) → run_all (take_made n) before xs ≡ Some after
    → nat_lt o (first_made n) ≡ true → AllByRecursion (λ x. makes x.1.entry ≡ Some o → ⊥) xs
none_declared n [] before after o h d = tt
none_declared n (x ∷ xs) before after o h d =
    let a = first_run (take_made n) (take_made n before x.0 x.1.entry) xs after h in (
      λ e.
          let m = made_new n before a.0 x.0 x.1.entry o a.1 e in
          let f = neither_holds (nat_lt o (first_made n)) (nat_lt (place_of n o) (length (made_by before (maker_of n o)))) m.wasnt in
          absurd (cc (f.0, d)),
      none_declared n xs a.0 after o a.2 d,
    )

-- BY THE LOG, where these were made by the logs
module _ (n : Numbering) (made : List (List ℕ)) (logs : List (List Logged)) (in_time : made_after n logs ≡ Some made) where
  declared_known : (o s : ℕ) → nat_lt o (first_made n) ≡ true → IsKnownAt n made logs o s
  declared_known o s d = record {
    there = ap (λ b. b || nat_lt (place_of n o) (length (made_by made (maker_of n o)))) d;
    below = all_weaker (λ x. makes x.1.entry ≡ Some o → ⊥) (λ x. makes x.1.entry ≡ Some o → x.1.stamp ≤ s) (λ x f e. absurd (f e)) (order logs)
        (none_declared n (order logs) (nothing_made n) made o in_time d);
  }

  -- what the thread knows by its log, where it knows what the log tells
  pub by_log_known : (log : List Logged) (t : ℕ) → ((o : ℕ) → is_told log o ≡ true → IsKnown n made logs t o) → (o : ℕ) → knows_by_log n log o ≡ true
      → IsKnown n made logs t o
  by_log_known log t told o knows = by_test (nat_lt o (first_made n)) refl knows
    where
      by_test : (b : Bool) → nat_lt o (first_made n) ≡ b → (b || is_told log o) ≡ true → IsKnown n made logs t o
      by_test true e g = declared_known o _ e
      by_test false e g = told o g

-- what is known is there
pub all_are_there : (n : Numbering) (made : List (List ℕ)) (logs : List (List Logged)) (t : ℕ) (os : List ℕ) → AllByRecursion (IsKnown n made logs t) os
    → all_there n made os ≡ true
all_are_there n made logs t [] a = refl
all_are_there n made logs t (o ∷ os) a = let here = a.0.there in let rest = all_are_there n made logs t os a.1 in rw (here, rest) refl

-- ONE ENTRY MORE. A log tells what it told, and what its new entry tells.
pub told_more : (log : List Logged) (y : Logged) (o : ℕ) → is_told (log ++ y ∷ []) o ≡ true → (is_told log o ≡ true) ⊎ (tells_of o y.entry ≡ true)
told_more log y o h = by_tests (is_told log o) refl (tells_of o y.entry) refl (sym (list_any-append (λ l. tells_of o l.entry) log (y ∷ [])) ∙ h)
  where
    by_tests : (a : Bool) → is_told log o ≡ a → (b : Bool) → tells_of o y.entry ≡ b → (a || (b || false)) ≡ true
        → (is_told log o ≡ true) ⊎ (tells_of o y.entry ≡ true)
    by_tests true told b new g = inl told
    by_tests false told true new g = inr new
    by_tests false told false new g = absurd (cc g)

pub knows_new : (n : Numbering) (log : List Logged) (y : Logged) (o : ℕ) → tells_of o y.entry ≡ true → knows_by_log n (log ++ y ∷ []) o ≡ true
knows_new n log y o h =
    let told : is_told (log ++ y ∷ []) o ≡ true =
    list_any-append (λ l. tells_of o l.entry) log (y ∷ []) ∙ ap (λ (b : Bool). is_told log o || (b || false)) h ∙ or-true (is_told log o) in
    ap (λ (b : Bool). nat_lt o (first_made n) || b) told ∙ or-true (nat_lt o (first_made n))

-- WHAT AN ENTRY TELLS, which makes no object: what it got from a slot
pub record IsGot (e : Entry) (o : ℕ) : Type 0 where
  pub object : ℕ
  pub slot : ℕ
  pub is : e ≡ Get object slot (Ref o)

pub told_is_got : (e : Entry) (o : ℕ) → creates e ≡ None → tells_of o e ≡ true → IsGot e o
told_is_got (New object class) o none told = absurd (cc none)
told_is_got (Get object slot (Ref value)) o none told =
    record { object = object; slot = slot; is = ap (λ v. Get object slot (Ref v)) (sym (eqb-true o value told)) }
told_is_got e o none told = absurd (cc told)

-- the slot had it, and the thread owned the slot's object
pub record IsInSlot (objects : List PlainObject) (t object slot o : ℕ) : Type 0 where
  pub x : PlainObject
  pub at : slice_get objects object ≡ Some x
  pub owner : x.monitor.owner ≡ Some t
  pub has : slice_get x.slots slot ≡ Some (Ref o)

same_reference : (v : Value) (o : ℕ) → same_value v (Ref o) ≡ true → v ≡ Ref o
same_reference (Ref p) o h = ap Ref (eqb-true p o h)
same_reference v o h = absurd (cc h)

reference_there : (v : Option Value) (o : ℕ) → has_value v (Ref o) ≡ true → v ≡ Some (Ref o)
reference_there None o h = absurd (cc h)
reference_there (Some v) o h = ap Some (same_reference v o h)

pub got_from_slot : (objects after : List PlainObject) (t object slot o : ℕ) → take_entry objects t (Get object slot (Ref o)) ≡ Some after
    → IsInSlot objects t object slot o
got_from_slot objects after t object slot o h =
    let a = taken_at objects after t (Get object slot (Ref o)) object h in
    let b = both_hold (owns a.x.monitor t) (has_value (slice_get a.x.slots slot) (Ref o)) (cond_some _ a.x a.y a.step).0 in
    record { x = a.x; at = a.was; owner = thread_is a.x.monitor.owner t b.0; has = reference_there (slice_get a.x.slots slot) o b.1 }
