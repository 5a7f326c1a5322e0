-- An object of which the heap knows nothing has no entry in a legal history but hashes, and these aren't taken either.
use Rattle.std.proofs.Common.{◌≡◌, ℕ, ◌≤◌, ◌==◌, eqb-true, Bool, true, false, cond, List, [], ◌∷◌}
use Rattle.std.proofs.Common.{length, Option, Some, None, refl, sym, ap, ◌∙◌, arith, length-set}
use Rattle.std.proofs.lemmas.Option.{same_Some, slice_get_past}
use Rattle.plain_monitor.specs.declared.entry.Entry.{Entry}
use Rattle.plain_monitor.specs.declared.entry.Entry.TheVariants.{Enter, Exit, Get, Put, Wait, Resume, Notify, NotifyAll}
use Rattle.plain_monitor.specs.declared.entry.Logged.{Logged}
use Rattle.plain_monitor.specs.Objects.{PlainObject, named, take_named, take_entry}
use Rattle.plain_monitor.specs.History.{run_all}
use Rattle.plain_history.specs.EnterPaths.{entries_on}
use Rattle.plain_history.specs.Tied.{bound_to, is_same_object}
use Rattle.plain_history.proofs.Passing.{first_run}
use Rattle.plain_history.proofs.Swaps.{taken_at}

same_name : (i o : ℕ) → (i == o) ≡ true → Some i ≡ Some o
same_name i o h = ap Some (eqb-true i o h)

-- an entry that is bound to an object names it
bound_is_named : (e : Entry) (o : ℕ) → is_same_object (bound_to e) (Some o) ≡ true → named e ≡ Some o
bound_is_named (Enter i r) o h = same_name i o h
bound_is_named (Exit i) o h = same_name i o h
bound_is_named (Get i s v) o h = same_name i o h
bound_is_named (Put i s v) o h = same_name i o h
bound_is_named (Wait i) o h = same_name i o h
bound_is_named (Resume i) o h = same_name i o h
bound_is_named (Notify i w) o h = same_name i o h
bound_is_named (NotifyAll i w) o h = same_name i o h
bound_is_named _ o h = absurd (cc h)

length_kept : (before after : List PlainObject) (t : ℕ) (e : Entry) (m : Option ℕ) → take_named before t e m ≡ Some after → length after ≡ length before
length_kept before after t e None h = ap (λ (xs : List PlainObject). length xs) (sym (same_Some before after h))
length_kept before after t e (Some o) h = let a = taken_at before after t e o h in ap (λ (xs : List PlainObject). length xs) a.is ∙ length-set before o a.y

-- an object that there isn't takes no entry
unnamed : (before after : List PlainObject) (t : ℕ) (e : Entry) (o : ℕ)
    → length before ≤ o → take_named before t e (named e) ≡ Some after → named e ≡ Some o → ⊥
unnamed before after t e o far h is =
    let a = taken_at before after t e o (ap (take_named before t e) (sym is) ∙ h) in
    let none = slice_get_past before o far in
    absurd (cc (a.was, none))

-- so it has none in a history that is taken
pub none_on : (xs : List (ℕ × Logged)) (before after : List PlainObject) (o : ℕ)
    → run_all take_entry before xs ≡ Some after → length before ≤ o → entries_on o xs ≡ []
none_on [] before after o h far = refl
none_on (x ∷ xs) before after o h far =
    let k = first_run take_entry (take_entry before x.0 x.1.entry) xs after h in
    let long = length_kept before k.0 x.0 x.1.entry (named x.1.entry) k.1 in
    by_test k.0 k.1 (is_same_object (bound_to x.1.entry) (Some o)) refl ∙ none_on xs k.0 after o k.2 (omega (arith, long, far))
  where
    by_test : (middle : List PlainObject) → take_entry before x.0 x.1.entry ≡ Some middle → (b : Bool) → is_same_object (bound_to x.1.entry) (Some o) ≡ b
        → cond b (x.1.entry ∷ entries_on o xs) (entries_on o xs) ≡ entries_on o xs
    by_test middle taken true e = absurd (unnamed before middle x.0 x.1.entry o far taken (bound_is_named x.1.entry o e))
    by_test middle taken false e = refl
