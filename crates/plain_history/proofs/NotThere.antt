-- An object that isn't there after a history is as it was at first: no entry names it.
use Rattle.std.proofs.Common.{◌≡◌, ◌≢◌, ℕ, true, false, List, [], ◌∷◌, ◌++◌, slice_get, refl, ap, sym, ◌∙◌, Option, Some, None}
use Rattle.std.proofs.lemmas.Option.{cond_some, same_Some}
use Rattle.std.specs.List.{AllByRecursion}
use Rattle.plain_monitor.specs.declared.entry.Entry.{Entry}
use Rattle.plain_monitor.specs.declared.entry.Entry.TheVariants.{New, Print, Dump, Trap, Spent, Done}
use Rattle.plain_monitor.specs.declared.entry.Logged.{Logged}
use Rattle.plain_monitor.specs.Objects.{PlainObject, new_objects, named, take_named, take_entry}
use Rattle.plain_monitor.specs.Order.{order}
use Rattle.plain_monitor.specs.History.{run_all, objects_after}
use Rattle.plain_monitor.specs.Made.{Numbering, is_there, creates, needs, one_or_none, hands_on, take_created, take_made, nothing_made, made_after}
use Rattle.plain_monitor.proofs.Lists.{get_set_other}
use Rattle.plain_history.proofs.Swaps.{taken_at}
use Rattle.plain_history.proofs.Passing.{first_run}
use Rattle.plain_history.proofs.MadeSteps.{all_there, both_hold}
use Rattle.plain_history.proofs.MadeHistories.{all_stay, there_stays}

-- an entry that makes an object names none
pub creates_unnamed : (e : Entry) (p : ℕ × ℕ) → creates e ≡ Some p → named e ≡ None
creates_unnamed (New o c) p h = refl
creates_unnamed (Print v) p h = refl
creates_unnamed (Dump k) p h = refl
creates_unnamed (Trap f k) p h = refl
creates_unnamed Spent p h = refl
creates_unnamed Done p h = refl
creates_unnamed _ p h = absurd (cc h)

-- an entry that is taken names an object that is there
pub named_there : (n : Numbering) (before after : List (List ℕ)) (t : ℕ) (e : Entry) (o : ℕ)
    → take_made n before t e ≡ Some after → named e ≡ Some o → is_there n before o ≡ true
named_there n before after t e o h is = by_made (creates e) refl h
  where
    by_made : (p : Option (ℕ × ℕ)) → creates e ≡ p → take_created n before t e p ≡ Some after → is_there n before o ≡ true
    by_made None c k =
        let a = cond_some (all_there n before (needs e)) before after k in
        let all : all_there n before (one_or_none (Some o) ++ hands_on e) ≡ true = ap (λ m. all_there n before (one_or_none m ++ hands_on e)) (sym is) ∙ a.0 in
        (both_hold (is_there n before o) (all_there n before (hands_on e)) all).0
    by_made (Some p) c k = let none = creates_unnamed e p c in absurd (cc (none, is))

unnamed_all : (n : Numbering) (xs : List (ℕ × Logged)) (before after : List (List ℕ)) (o : ℕ)
    → run_all (take_made n) before xs ≡ Some after → is_there n after o ≡ false
    → AllByRecursion (λ x. named x.1.entry ≢ Some o) xs
unnamed_all n [] before after o h none = tt
unnamed_all n (x ∷ xs) before after o h none =
    let a = first_run (take_made n) (take_made n before x.0 x.1.entry) xs after h in (
      λ is.
          let there = all_stay n xs a.0 after o a.2 (there_stays n before a.0 x.0 x.1.entry o a.1 (named_there n before a.0 x.0 x.1.entry o a.1 is)) in
          absurd (cc (there, none)),
      unnamed_all n xs a.0 after o a.2 none,
    )

unnamed_stays : (xs : List (ℕ × Logged)) (before after : List PlainObject) (o : ℕ)
    → run_all take_entry before xs ≡ Some after → AllByRecursion (λ x. named x.1.entry ≢ Some o) xs
    → slice_get after o ≡ slice_get before o
unnamed_stays [] before after o h a = ap (λ xs. slice_get xs o) (sym (same_Some before after h))
unnamed_stays (x ∷ xs) before after o h a =
    let k = first_run take_entry (take_entry before x.0 x.1.entry) xs after h in
    unnamed_stays xs k.0 after o k.2 a.1 ∙ by_name k.0 (named x.1.entry) refl k.1
  where
    by_name : (middle : List PlainObject) (m : Option ℕ) → named x.1.entry ≡ m
        → take_named before x.0 x.1.entry m ≡ Some middle → slice_get middle o ≡ slice_get before o
    by_name middle None e g = ap (λ ys. slice_get ys o) (sym (same_Some before middle g))
    by_name middle (Some i) e g =
        let b = taken_at before middle x.0 x.1.entry i g in
        ap (λ ys. slice_get ys o) b.is ∙ get_set_other before i o b.y (λ s. a.0 (e ∙ ap Some s))

-- what isn't there is as it was at first
pub not_there_is_new : (n : Numbering) (shape : List (ℕ × ℕ)) (logs : List (List Logged)) (made : List (List ℕ)) (objects : List PlainObject) (o : ℕ)
    → made_after n logs ≡ Some made
    → objects_after shape logs ≡ Some objects → is_there n made o ≡ false → slice_get objects o ≡ slice_get (new_objects shape) o
not_there_is_new n shape logs made objects o h k none =
    unnamed_stays (order logs) (new_objects shape) objects o k (unnamed_all n (order logs) (nothing_made n) made o h none)
