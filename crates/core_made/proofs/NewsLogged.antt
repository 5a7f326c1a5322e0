-- Which objects are there, by all logs: those that are declared, and those whose New some log has. And no entry is on an object that isn't there.
use Rattle.std.proofs.Common.{◌≡◌, ◌≢◌, ℕ, ◌+◌, ◌==◌, ◌||◌, nat_lt, eqb-true, Bool, true, false, cond, List, []}
use Rattle.std.proofs.Common.{◌∷◌, map, length, option_map, Option, Some, None, refl, sym, ap, ◌∙◌, arith}
use Rattle.std.proofs.Math.Bool.{or-true, or-false}
use Rattle.std.proofs.lemmas.Bool.Decides.{nat_tests}
use Rattle.std.proofs.lemmas.List.Folds.{list_any-append}
use Rattle.std.proofs.lemmas.Option.{cond_some, same_Some}
use Rattle.std.specs.List.{list_any}
use Rattle.plain_monitor.specs.declared.entry.Entry.{Entry}
use Rattle.plain_monitor.specs.declared.entry.Logged.{Logged}
use Rattle.plain_monitor.specs.History.{run_all}
use Rattle.plain_monitor.specs.Made.{Numbering, first_made, maker_of, place_of, is_there, creates, needs}
use Rattle.plain_monitor.specs.Made.{made_number, made_by, may_create, take_created, take_made, nothing_made}
use Rattle.plain_monitor.specs.Order.{is_before, insert_ordered, ordered, with_threads, order}
use Rattle.plain_history.specs.EnterPaths.{entries_on}
use Rattle.plain_history.specs.Known.{makes, is_one_of}
use Rattle.plain_history.specs.Tied.{bound_to, is_same_object}
use Rattle.plain_history.proofs.MadeHistories.{there_stays, all_stay, made_new}
use Rattle.plain_history.proofs.MadeSteps.{grown, all_there, there_more, there_less, MayCreate, creating}
use Rattle.plain_history.proofs.NotThere.{named_there}
use Rattle.plain_history.proofs.Passing.{first_run}
use Rattle.plain_history.proofs.Swaps.{bound_is_named}
use Rattle.core_world.specs.Threads.References.{numbering}
use Rattle.core_world.specs.Words.Shape.{IsInLimits}
use Rattle.core_world.specs.World.{World, logs}
use Rattle.core_law.specs.BiasLaw.{is_logged}
use Rattle.core_law.specs.MadeLaw.{MadeLawHolds, there_after}
use Rattle.core_made.specs.Steps.{is_there_in}
use Rattle.core_made.proofs.Numbers.{first_is_declared}
use Rattle.core_made.proofs.Opening.{none_by}

-- TESTS OF ENTRIES. Some entry of the logs passes a test exactly where some entry of their order does.
turned_or : (a b c : Bool) → (a || (b || c)) ≡ (b || (a || c))
turned_or true true c = refl
turned_or true false c = refl
turned_or false true c = refl
turned_or false false c = refl

joined_or : (a b c : Bool) → ((a || b) || c) ≡ (a || (b || c))
joined_or true b c = refl
joined_or false b c = refl

pub any_inserted : (f : ℕ × Logged → Bool) (x : ℕ × Logged) (ys : List (ℕ × Logged)) → list_any f (insert_ordered x ys) ≡ (f x || list_any f ys)
any_inserted f x [] = refl
any_inserted f x (y ∷ ys) = by_test (is_before x y) (any_inserted f x ys)
  where
    by_test : (b : Bool) → list_any f (insert_ordered x ys) ≡ (f x || list_any f ys)
        → list_any f (cond b (x ∷ y ∷ ys) (y ∷ insert_ordered x ys)) ≡ (f x || (f y || list_any f ys))
    by_test true later = refl
    by_test false later = ap (λ b. f y || b) later ∙ turned_or (f y) (f x) (list_any f ys)

any_ordered : (f : ℕ × Logged → Bool) (xs : List (ℕ × Logged)) → list_any f (ordered xs) ≡ list_any f xs
any_ordered f [] = refl
any_ordered f (x ∷ xs) = any_inserted f x (ordered xs) ∙ ap (λ b. f x || b) (any_ordered f xs)

any_of_one : (f : Logged → Bool) (t : ℕ) (log : List Logged) → list_any (λ (x : ℕ × Logged). f x.1) (map (λ l. (t, l)) log) ≡ list_any f log
any_of_one f t [] = refl
any_of_one f t (l ∷ log) = ap (λ b. f l || b) (any_of_one f t log)

any_of_all : (f : Logged → Bool) (t : ℕ) (all : List (List Logged))
    → list_any (λ (x : ℕ × Logged). f x.1) (with_threads t all) ≡ list_any (λ log. list_any f log) all
any_of_all f t [] = refl
any_of_all f t (log ∷ all) =
    let rest : Bool = list_any (λ (x : ℕ × Logged). f x.1) (with_threads (t + 1) all) in
    list_any-append (λ (x : ℕ × Logged). f x.1) (map (λ l. (t, l)) log) (with_threads (t + 1) all)
    ∙ ap (λ b. b || rest) (any_of_one f t log) ∙ ap (λ b. list_any f log || b) (any_of_all f (t + 1) all)

-- the entry makes this object
abbrev pub makes_it : ℕ → Logged → Bool
makes_it o l = is_one_of (makes l.entry) (o ∷ [])

-- ONE ENTRY more: what is there was there, or the entry makes it
same_by : (a b : Bool) → (a ≡ true → b ≡ true) → (b ≡ true → a ≡ true) → a ≡ b
same_by true b f g = sym (f refl)
same_by false true f g = g refl
same_by false false f g = refl

module _ (n : Numbering) (before after : List (List ℕ)) (t : ℕ) (e : Entry) (o : ℕ) (taken : take_made n before t e ≡ Some after) where
  -- the number of another new object
  not_this : (p : ℕ × ℕ) → (p.0 == o) ≡ false → MayCreate n before t p → is_there n (grown before t p.1) o ≡ is_there n before o
  not_this p isnt may =
      let number = may.number in
      let other : o ≢ made_number n t (length (made_by before t)) = λ s. absurd (grind (arith, nat_tests, isnt, s, number)) in
      same_by (is_there n (grown before t p.1) o) (is_there n before o)
      (there_less n before t p.1 o may.thread other) (there_more n before t p.1 o may.thread)

  by_made : (m : Option (ℕ × ℕ)) → creates e ≡ m → take_created n before t e m ≡ Some after
      → is_there n after o ≡ (is_there n before o || is_one_of (option_map (λ p. p.0) m) (o ∷ []))
  by_made None c h =
      let a = cond_some (all_there n before (needs e)) before after h in
      ap (λ m. is_there n m o) (sym a.1) ∙ sym (or-false (is_there n before o))
  by_made (Some p) c h = by_test (p.0 == o) refl
    where
      by_test : (b : Bool) → (p.0 == o) ≡ b → is_there n after o ≡ (is_there n before o || (b || false))
      by_test true is =
          (made_new n before after t e o taken (ap (λ m. option_map (λ q. q.0) m) c ∙ ap Some (eqb-true p.0 o is))).is ∙ sym (or-true (is_there n before o))
      by_test false isnt =
          let a = cond_some (may_create n before t p) (grown before t p.1) after h in
          ap (λ m. is_there n m o) (sym a.1) ∙ not_this p isnt (creating n before t p a.0) ∙ sym (or-false (is_there n before o))

  there_with_entry : is_there n after o ≡ (is_there n before o || is_one_of (makes e) (o ∷ []))
  there_with_entry = by_made (creates e) refl taken

pub there_with_all : (n : Numbering) (xs : List (ℕ × Logged)) (before after : List (List ℕ)) (o : ℕ) → run_all (take_made n) before xs ≡ Some after
    → is_there n after o ≡ (is_there n before o || list_any (λ (x : ℕ × Logged). makes_it o x.1) xs)
there_with_all n [] before after o h = ap (λ m. is_there n m o) (sym (same_Some before after h)) ∙ sym (or-false (is_there n before o))
there_with_all n (x ∷ xs) before after o h =
    let a = first_run (take_made n) (take_made n before x.0 x.1.entry) xs after h in
    there_with_all n xs a.0 after o a.2
    ∙ ap (λ b. b || list_any (λ (y : ℕ × Logged). makes_it o y.1) xs) (there_with_entry n before a.0 x.0 x.1.entry o a.1)
    ∙ joined_or (is_there n before o) (makes_it o x.1) (list_any (λ (y : ℕ × Logged). makes_it o y.1) xs)

-- at first the declared objects are there
pub first_there : (n : Numbering) (o : ℕ) → is_there n (nothing_made n) o ≡ nat_lt o (first_made n)
first_there n o =
    let none : nat_lt (place_of n o) 0 ≡ false = grind (arith, nat_tests) in
    ap (λ (row : List ℕ). nat_lt o (first_made n) || nat_lt (place_of n o) (length row)) (none_by n.threads (maker_of n o))
    ∙ ap (λ b. nat_lt o (first_made n) || b) none ∙ or-false (nat_lt o (first_made n))

-- IN A WORLD what is there is declared, or some log has its New
pub logged_are_there : (w : World) → IsInLimits w.shape → (law : MadeLawHolds w) (o : ℕ) → is_logged w.shape (logs w) o ≡ is_there_in w o
logged_are_there w limits law o =
    let n : Numbering = numbering w.shape in
    let told : Bool = list_any (λ log. list_any (makes_it o) log) (logs w) in
    let ordered_told : list_any (λ (x : ℕ × Logged). makes_it o x.1) (order (logs w)) ≡ told =
    any_ordered (λ (x : ℕ × Logged). makes_it o x.1) (with_threads 0 (logs w)) ∙ any_of_all (makes_it o) 0 (logs w) in
    ap (λ d. nat_lt o d || told) (sym (first_is_declared w.shape limits))
    ∙ ap (λ b. nat_lt o (first_made n) || b) (sym ordered_told)
    ∙ ap (λ b. b || list_any (λ (x : ℕ × Logged). makes_it o x.1) (order (logs w))) (sym (first_there n o))
    ∙ sym (there_with_all n (order (logs w)) (nothing_made n) law.made o law.in_time)
    ∙ sym (ap (λ m. there_after n m o) law.in_time)

-- NO ENTRY is on what isn't there in the end: each finds there what it names, and what is there stays
same_object_is : (b : Option ℕ) (o : ℕ) → is_same_object b (Some o) ≡ true → b ≡ Some o
same_object_is None o h = absurd (cc h)
same_object_is (Some i) o h = ap Some (eqb-true i o h)

pub unentered : (n : Numbering) (xs : List (ℕ × Logged)) (before after : List (List ℕ)) (o : ℕ) → run_all (take_made n) before xs ≡ Some after
    → is_there n after o ≡ false → entries_on o xs ≡ []
unentered n [] before after o h none = refl
unentered n (x ∷ xs) before after o h none =
    let a = first_run (take_made n) (take_made n before x.0 x.1.entry) xs after h in
    by_test (is_same_object (bound_to x.1.entry) (Some o)) refl a.0 a.1 a.2 (unentered n xs a.0 after o a.2 none)
  where
    by_test : (b : Bool) → is_same_object (bound_to x.1.entry) (Some o) ≡ b → (middle : List (List ℕ)) → take_made n before x.0 x.1.entry ≡ Some middle
        → run_all (take_made n) middle xs ≡ Some after → entries_on o xs ≡ []
        → cond b (x.1.entry ∷ entries_on o xs) (entries_on o xs) ≡ []
    by_test true e middle one rest later =
        let on = bound_is_named x.1.entry o (same_object_is (bound_to x.1.entry) o e) in
        let there = named_there n before middle x.0 x.1.entry o one on in
        let stays = all_stay n xs middle after o rest (there_stays n before middle x.0 x.1.entry o one there) in
        absurd (cc (stays, none))
    by_test false e middle one rest later = later
