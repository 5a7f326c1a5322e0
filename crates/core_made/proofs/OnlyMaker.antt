-- Each object that isn't declared is made by one entry alone, of the thread that has the object's number.
use Rattle.std.proofs.Common.{◌≡◌, ℕ, ◌≤◌, ◌==◌, ◌||◌, eq-eqb, eqb-true, Bool, true, false, cond, List}
use Rattle.std.proofs.Common.{[], ◌∷◌, length, option_map, Option, Some, None, refl, sym, ap, ◌∙◌}
use Rattle.std.proofs.Math.Bool.{or-false}
use Rattle.std.proofs.lemmas.Option.{cond_some, same_Some}
use Rattle.std.specs.List.{list_any}
use Rattle.plain_monitor.specs.declared.entry.Entry.{Entry}
use Rattle.plain_monitor.specs.declared.entry.Logged.{Logged}
use Rattle.plain_monitor.specs.History.{run_all}
use Rattle.plain_monitor.specs.Made.{Numbering, first_made, maker_of, made_by, is_there, creates, may_create, take_created, take_made}
use Rattle.plain_monitor.specs.Order.{is_before, insert_ordered}
use Rattle.plain_history.specs.Known.{makes, is_one_of}
use Rattle.plain_history.proofs.MadeHistories.{there_stays, all_stay, made_new}
use Rattle.plain_history.proofs.MadeSteps.{grown, creating, maker_of_new}
use Rattle.plain_history.proofs.Passing.{first_run}
use Rattle.core_made.proofs.NewsLogged.{makes_it, any_inserted}

-- whether it is this one
is_it : (m : Option ℕ) (o : ℕ) → is_one_of m (o ∷ []) ≡ true → m ≡ Some o
is_it None o h = absurd (cc h)
is_it (Some i) o h = ap Some (eqb-true i o (sym (or-false (i == o)) ∙ h))

it_is : (m : Option ℕ) (o : ℕ) → m ≡ Some o → is_one_of m (o ∷ []) ≡ true
it_is m o h = ap (λ k. is_one_of k (o ∷ [])) h ∙ or-false (o == o) ∙ eq-eqb o o refl

-- what is there already no entry makes
none_again : (n : Numbering) (xs : List (ℕ × Logged)) (before after : List (List ℕ)) (o : ℕ) → run_all (take_made n) before xs ≡ Some after
    → is_there n before o ≡ true → list_any (λ (x : ℕ × Logged). makes_it o x.1) xs ≡ false
none_again n [] before after o h there = refl
none_again n (x ∷ xs) before after o h there =
    let a = first_run (take_made n) (take_made n before x.0 x.1.entry) xs after h in
    by_test (makes_it o x.1) refl a.0 a.1 (none_again n xs a.0 after o a.2 (there_stays n before a.0 x.0 x.1.entry o a.1 there))
  where
    by_test : (b : Bool) → makes_it o x.1 ≡ b → (middle : List (List ℕ)) → take_made n before x.0 x.1.entry ≡ Some middle
        → list_any (λ (y : ℕ × Logged). makes_it o y.1) xs ≡ false → (b || list_any (λ (y : ℕ × Logged). makes_it o y.1) xs) ≡ false
    by_test true e middle one later =
        let new = made_new n before middle x.0 x.1.entry o one (is_it (makes x.1.entry) o e) in absurd (let wasnt = new.wasnt in cc (wasnt, there))
    by_test false e middle one later = later

-- the thread of an entry that makes the object
record IsNumberOf (n : Numbering) (t o : ℕ) : Type 0 where
  pub late : first_made n ≤ o
  pub maker : maker_of n o ≡ t

number_made : (n : Numbering) (before after : List (List ℕ)) (t : ℕ) (m : Option (ℕ × ℕ)) (e : Entry) (o : ℕ) → take_created n before t e m ≡ Some after
    → option_map (λ p. p.0) m ≡ Some o → IsNumberOf n t o
number_made n before after t None e o h is = absurd (cc is)
number_made n before after t (Some p) e o h is =
    let a = cond_some (may_create n before t p) (grown before t p.1) after h in
    let may = creating n before t p a.0 in
    let parts = maker_of_new (first_made n) t (length (made_by before t)) o may.room (sym (same_Some p.0 o is) ∙ may.number) in
    record { late = parts.2; maker = parts.0 }

-- AN ENTRY AMONG OTHERS that makes the object, where these were made by all of them: it alone does
pub record IsOnlyMaker (n : Numbering) (o : ℕ) (x : ℕ × Logged) (others : List (ℕ × Logged)) (made : List (List ℕ)) : Type 0 where
  pub late : first_made n ≤ o
  pub maker : maker_of n o ≡ x.0
  pub alone : list_any (λ (y : ℕ × Logged). makes_it o y.1) others ≡ false
  pub there : is_there n made o ≡ true

-- where it stands first
first_maker : (n : Numbering) (x : ℕ × Logged) (ys : List (ℕ × Logged)) (before after : List (List ℕ)) (o : ℕ) → makes x.1.entry ≡ Some o
    → run_all (take_made n) before (x ∷ ys) ≡ Some after → IsOnlyMaker n o x ys after
first_maker n x ys before after o is h =
    let a = first_run (take_made n) (take_made n before x.0 x.1.entry) ys after h in
    let number = number_made n before a.0 x.0 (creates x.1.entry) x.1.entry o a.1 is in
    let new = (made_new n before a.0 x.0 x.1.entry o a.1 is).is in
    record { late = number.late; maker = number.maker; alone = none_again n ys a.0 after o a.2 new; there = all_stay n ys a.0 after o a.2 new }

pub only_maker : (n : Numbering) (x : ℕ × Logged) (ys : List (ℕ × Logged)) (before after : List (List ℕ)) (o : ℕ) → makes x.1.entry ≡ Some o
    → run_all (take_made n) before (insert_ordered x ys) ≡ Some after → IsOnlyMaker n o x ys after
only_maker n x [] before after o is h = first_maker n x [] before after o is h
only_maker n x (y ∷ ys) before after o is h = by_test (is_before x y) h (λ middle. only_maker n x ys middle after o is)
  where
    -- an entry that stands before it makes another object, or none
    other_makes : (middle : List (List ℕ)) → take_made n before y.0 y.1.entry ≡ Some middle
        → run_all (take_made n) middle (insert_ordered x ys) ≡ Some after → (b : Bool) → makes_it o y.1 ≡ b → b ≡ false
    other_makes middle one rest true e =
        let new = (made_new n before middle y.0 y.1.entry o one (is_it (makes y.1.entry) o e)).is in
        let none = sym (any_inserted (λ (z : ℕ × Logged). makes_it o z.1) x ys) ∙ none_again n (insert_ordered x ys) middle after o rest new in
        let this = ap (λ b. b || list_any (λ (z : ℕ × Logged). makes_it o z.1) ys) (it_is (makes x.1.entry) o is) in
        absurd (cc (none, this))
    other_makes middle one rest false e = refl

    by_test : (b : Bool) → run_all (take_made n) before (cond b (x ∷ y ∷ ys) (y ∷ insert_ordered x ys)) ≡ Some after
        → ((middle : List (List ℕ)) → run_all (take_made n) middle (insert_ordered x ys) ≡ Some after → IsOnlyMaker n o x ys after)
        → IsOnlyMaker n o x (y ∷ ys) after
    by_test true g later = first_maker n x (y ∷ ys) before after o is g
    by_test false g later =
        let a = first_run (take_made n) (take_made n before y.0 y.1.entry) (insert_ordered x ys) after g in
        let k = later a.0 a.2 in
        let other : makes_it o y.1 ≡ false = other_makes a.0 a.1 a.2 (makes_it o y.1) refl in
        record { late = k.late; maker = k.maker; alone = ap (λ b. b || list_any (λ (z : ℕ × Logged). makes_it o z.1) ys) other ∙ k.alone; there = k.there }
