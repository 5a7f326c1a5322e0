-- The counts that are listed after all entries are those of the objects that are entered.
use Rattle.std.proofs.Common.{◌≡◌, ℕ, zero, suc, ◌+◌, ◌≤◌, if◌then◌else◌, nat_le, Bool, true, false, List, [], ◌∷◌}
use Rattle.std.proofs.Common.{length, map, filter, slice_get, Some, IsSome, refl, sym, ap, ◌∙◌, subst, arith}
use Rattle.std.specs.List.{list_any, range_with_len}
use Rattle.std.proofs.lemmas.List.{get_or_past}
use Rattle.std.proofs.lemmas.Option.{none-some, get_or_from_slice_get}
use Rattle.plain_monitor.specs.declared.entry.Logged.{Logged}
use Rattle.plain_monitor.specs.Objects.{new_objects}
use Rattle.plain_monitor.specs.History.{take_all}
use Rattle.plain_monitor.specs.Monitor.{free_monitor}
use Rattle.object_program.specs.Program.{ProgramText, objects_total, shape_of}
use Rattle.plain_machine.specs.Sound.{monitor_in}
use Rattle.wait_report.specs.declared.tallies.Tally.{Tally}
use Rattle.wait_report.specs.Handovers.{handovers}
use Rattle.wait_report.specs.Counts.{paths, enters_by, is_entered, count_of, counts_of}
use Rattle.wait_report.specs.inner.Tallies.{new_tally, tally_at, after_entries, is_counted, count_in, counts_from}
use Rattle.wait_report.proofs.Tallied.{tally_through, through_at, none_yet}
use Rattle.wait_report.proofs.Takers.{through_handovers}
use Rattle.wait_report.proofs.Entered.{through_adds, counts_are, any_counted}

-- a tally is that of object o
record IsTallyOf (p : ProgramText) (xs : List (ℕ × Logged)) (o : ℕ) (y : Tally) : Type 0 where
  counted : is_counted y ≡ is_entered xs o
  is : count_in o y ≡ count_of p xs o

-- the tallies are those of the objects from number a on
abbrev AreTalliesOf : ProgramText → List (ℕ × Logged) → ℕ → List Tally → Type 0
AreTalliesOf p xs a ys = (k : ℕ) (y : Tally) → slice_get ys k ≡ Some y → IsTallyOf p xs (a + k) y

listed : (p : ProgramText) (xs : List (ℕ × Logged)) (a : ℕ) (ys : List Tally) → AreTalliesOf p xs a ys
    → counts_from a ys ≡ map (count_of p xs) (filter (is_entered xs) (range_with_len a (length ys)))
listed p xs a [] all = refl
listed p xs a (y ∷ ys) all = by_test (is_entered xs a) here.counted (listed p xs (a + 1) ys after) where
  here : IsTallyOf p xs a y
  here = let same : a + 0 ≡ a = omega arith in subst (λ (o : ℕ). IsTallyOf p xs o y) same (all 0 y refl)

  after : AreTalliesOf p xs (a + 1) ys
  after k z at = let same : a + suc k ≡ (a + 1) + k = omega arith in subst (λ (o : ℕ). IsTallyOf p xs o z) same (all (suc k) z at)

  by_test : (b : Bool) → is_counted y ≡ b → counts_from (a + 1) ys ≡ map (count_of p xs) (filter (is_entered xs) (range_with_len (a + 1) (length ys)))
      → counts_from a (y ∷ ys) ≡ map (count_of p xs)
      (if b then a ∷ filter (is_entered xs) (range_with_len (a + 1) (length ys)) else filter (is_entered xs) (range_with_len (a + 1) (length ys)))
  by_test true e rest = rw e (ap (λ z. z ∷ counts_from (a + 1) ys) here.is ∙ ap (λ zs. count_of p xs a ∷ zs) rest)
  by_test false e rest = rw e rest

-- each monitor is free at first
first_free : (p : List (ℕ × ℕ)) (o : ℕ) → monitor_in (new_objects p) o ≡ free_monitor
first_free [] o = refl
first_free (s ∷ ss) zero = refl
first_free (s ∷ ss) (suc o) = first_free ss o

tally_is : (p : ProgramText) (xs : List (ℕ × Logged)) (o : ℕ)
    → IsSome (take_all (new_objects (shape_of p)) xs) → IsTallyOf p xs o (tally_through o new_tally xs)
tally_is p xs o taken =
    let y = tally_through o new_tally xs in
    let adds = through_adds o xs new_tally refl in
    let by_path : y.paths ≡ map (enters_by xs o) paths = counts_are o xs y.paths adds.six (λ path. omega (arith, adds.counts path, none_yet path)) in
    let free = first_free (shape_of p) o in
    let passed : y.handovers ≡ handovers p xs o =
    through_handovers o xs (new_objects (shape_of p)) new_tally taken (λ u own. absurd (none-some u (ap (λ m. m.owner) (sym free) ∙ own))) ∙ omega arith in
    record {
      counted = ap (list_any (λ n. nat_le 1 n)) by_path ∙ any_counted o xs;
      is = ap (λ ns. record { object = o; paths = ns; handovers = y.handovers }) by_path
          ∙ ap (λ n. record { object = o; paths = map (enters_by xs o) paths; handovers = n }) passed;
    }

-- a test that nothing passes after the ends of both lists
same_filtered : (test : ℕ → Bool) (a m n : ℕ) → ((o : ℕ) → a + m ≤ o → test o ≡ false) → ((o : ℕ) → a + n ≤ o → test o ≡ false)
    → filter test (range_with_len a m) ≡ filter test (range_with_len a n)
same_filtered test a zero zero less more = refl
same_filtered test a zero (suc n) less more =
    rw (less a (omega arith)) (same_filtered test (a + 1) zero n (λ o h. less o (omega (arith, h))) (λ o h. more o (omega (arith, h))))
same_filtered test a (suc m) zero less more =
    rw (more a (omega arith)) (same_filtered test (a + 1) m zero (λ o h. less o (omega (arith, h))) (λ o h. more o (omega (arith, h))))
same_filtered test a (suc m) (suc n) less more =
    ap (λ os. if test a then a ∷ os else os) (same_filtered test (a + 1) m n (λ o h. less o (omega (arith, h))) (λ o h. more o (omega (arith, h))))

-- the counts after all entries
pub all_listed : (p : ProgramText) (xs : List (ℕ × Logged)) → IsSome (take_all (new_objects (shape_of p)) xs)
    → ((o : ℕ) → objects_total p ≤ o → is_entered xs o ≡ false)
    → counts_from 0 (after_entries [] xs) ≡ counts_of p xs
all_listed p xs taken within = listed p xs 0 ys all
    ∙ ap (map (count_of p xs)) (same_filtered (is_entered xs) 0 (length ys) (objects_total p) unreached (λ o h. within o (omega (arith, h)))) where
      ys : List Tally
      ys = after_entries [] xs

      at : (o : ℕ) → IsTallyOf p xs o (tally_at ys o)
      at o = subst (IsTallyOf p xs o) (sym (through_at [] o xs)) (tally_is p xs o taken)

      all : AreTalliesOf p xs 0 ys
      all k y there =
          let place : k ≡ 0 + k = omega arith in
          subst (λ (o : ℕ). IsTallyOf p xs o y) place (subst (IsTallyOf p xs k) (get_or_from_slice_get ys k y new_tally there) (at k))

      unreached : (o : ℕ) → 0 + length ys ≤ o → is_entered xs o ≡ false
      unreached o h = sym (at o).counted ∙ ap is_counted (get_or_past ys o new_tally (omega (arith, h)))
