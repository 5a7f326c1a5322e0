-- The places of a thread's hold words: a free one, and those of an object.
use Rattle.std.proofs.Common.{◌≡◌, ℕ, zero, suc, ◌+◌, ◌-◌, ◌<◌, ◌≤◌, ◌==◌, eqb-true, nat_lt, not, Bool, true}
use Rattle.std.proofs.Common.{false, cond, List, [], ◌∷◌, length, slice_index, sym, ap, ◌∙◌, subst, arith}
use Rattle.std.proofs.lemmas.Bool.Decides.{nat_tests}
use Rattle.std.proofs.lemmas.List.Sums.{passes_at_first}
use Rattle.std.specs.List.{position_or_len}
use Rattle.plain_monitor.specs.Limits.{most_holds}
use Rattle.core_world.specs.Words.Forms.{names, hold_word}
use Rattle.core_world.specs.Threads.Stages.{one_if}
use Rattle.core_world.specs.Threads.ThreadView.{ThreadView}
use Rattle.core_world.specs.Locks.{count_where, hold_count, depth_count}
use Rattle.core_world.specs.Trees.Plans.{free_place, top_place}
use Rattle.core_world.specs.RevocationRules.{first_place}
use Rattle.core_world.proofs.Readings.{names_none}
use Rattle.core_law.specs.Logic.{Heap, SoundWorldWith}
use Rattle.core_law.proofs.Standing.{home, fits_here, places_here}

-- the first word that passes a test
first_passes : (test : ℕ → Bool) (hs : List ℕ) → position_or_len test hs < length hs → test (slice_index hs (position_or_len test hs)) ≡ true
first_passes test hs h = passes_at_first test hs 0 h

some_passes : (test : ℕ → Bool) (i : ℕ) (hs : List ℕ) → 1 ≤ count_where (λ p h. test h) i hs → position_or_len test hs < length hs
some_passes test i [] h = absurd (omega arith)
some_passes test i (y ∷ hs) h = cases (test y) (some_passes test (i + 1) hs) h
  where
    cases : (b : Bool) → (1 ≤ count_where (λ p h. test h) (i + 1) hs → position_or_len test hs < length hs)
        → 1 ≤ one_if b + count_where (λ p h. test h) (i + 1) hs
        → cond (not b) (1 + position_or_len test hs) 0 < suc (length hs)
    cases true e h = omega arith
    cases false e h = let a = e (omega arith) in omega (arith, a)

first_within : (test : ℕ → Bool) (hs : List ℕ) → position_or_len test hs ≤ length hs
first_within test [] = omega arith
first_within test (y ∷ hs) = cases (test y) (first_within test hs)
  where
    cases : (b : Bool) → position_or_len test hs ≤ length hs → cond (not b) (1 + position_or_len test hs) 0 ≤ suc (length hs)
    cases true e = omega arith
    cases false e = omega (arith, e)

pub number_few : (test : ℕ → ℕ → Bool) (i : ℕ) (hs : List ℕ) → count_where test i hs ≤ length hs
number_few test i [] = omega arith
number_few test i (y ∷ hs) = let a = number_few test (i + 1) hs in cases (test i y) a
  where
    cases : (b : Bool) → count_where test (i + 1) hs ≤ length hs → one_if b + count_where test (i + 1) hs ≤ suc (length hs)
    cases true a = omega (arith, a)
    cases false a = omega (arith, a)

-- where one place is empty, there is room for one more hold word
number_room : (test : ℕ → ℕ → Bool) (i : ℕ) (hs : List ℕ) (p : ℕ) → ((q : ℕ) → test q 0 ≡ false)
    → p < length hs → slice_index hs p ≡ 0 → count_where test i hs + 1 ≤ length hs
number_room test i [] p none h e = absurd (omega arith)
number_room test i (y ∷ hs) zero none h e =
    let a = number_few test (i + 1) hs in
    let b : test i y ≡ false = ap (test i) e ∙ none i in
    subst (λ z. one_if z + count_where test (i + 1) hs + 1 ≤ suc (length hs)) (sym b) (omega (arith, a))
number_room test i (y ∷ hs) (suc p) none h e = let a = number_room test (i + 1) hs p none (omega arith) e in cases (test i y) a
  where
    cases : (b : Bool) → count_where test (i + 1) hs + 1 ≤ length hs → one_if b + count_where test (i + 1) hs + 1 ≤ suc (length hs)
    cases true a = omega (arith, a)
    cases false a = omega (arith, a)

module _ (heap : Heap) (k : ThreadView) (v : SoundWorldWith heap k) (runs : k.running ≡ true) where
  -- the lowest free place is empty
  pub empty_here : free_place k.holds < most_holds → slice_index k.holds (free_place k.holds) ≡ 0
  empty_here h = let n = places_here heap k v runs in eqb-true _ _ (first_passes (λ h. h == 0) k.holds (omega (arith, h, n)))

  -- there is one, unless all places are taken
  pub place_left : (free_place k.holds == most_holds) ≡ false → free_place k.holds < most_holds
  place_left h = let n = places_here heap k v runs in let a = first_within (λ h. h == 0) k.holds in grind (arith, nat_tests, h, n, a)

  pub room_here : (o : ℕ) → free_place k.holds < most_holds → hold_count o k.holds + 1 ≤ most_holds
  room_here o h =
      let n = places_here heap k v runs in
      let a = number_room (λ p h. names o h) 0 k.holds (free_place k.holds) (λ q. names_none o) (omega (arith, h, n)) (empty_here h) in
      omega (arith, a, n)

  pub few_here : (o : ℕ) → hold_count o k.holds ≤ most_holds
  few_here o = let n = places_here heap k v runs in let a = number_few (λ p h. names o h) 0 k.holds in omega (arith, a, n)

  each_here : (o d : ℕ) → d < most_holds → depth_count o (d + 1) k.holds ≡ one_if (nat_lt d (hold_count o k.holds))
  each_here o d h = home heap k v (λ s y. depth_count o (d + 1) y.holds ≡ one_if (nat_lt d (hold_count o y.holds)))
      ((fits_here heap k v runs).holds.each k.thread o d h)

  -- the place of the record of o at depth d + 1
  place_here : (o d : ℕ) → d < hold_count o k.holds
      → (slice_index k.holds (position_or_len (λ h. h == hold_word o (d + 1)) k.holds) ≡ hold_word o (d + 1))
      × (position_or_len (λ h. h == hold_word o (d + 1)) k.holds < most_holds)
  place_here o d h =
      let few = few_here o in
      let n = places_here heap k v runs in
      let yes : nat_lt d (hold_count o k.holds) ≡ true = grind (arith, nat_tests) in
      let once : depth_count o (d + 1) k.holds ≡ 1 = each_here o d (omega (arith, few, h)) ∙ ap one_if yes in
      let some = some_passes (λ h. h == hold_word o (d + 1)) 0 k.holds (omega (arith, once)) in
      (eqb-true _ _ (first_passes (λ h. h == hold_word o (d + 1)) k.holds some), omega (arith, some, n))

  pub top_here : (o : ℕ) → 1 ≤ hold_count o k.holds
      → (slice_index k.holds (top_place o k.holds) ≡ hold_word o (hold_count o k.holds)) × (top_place o k.holds < most_holds)
  top_here o h =
      let e : (hold_count o k.holds - 1) + 1 ≡ hold_count o k.holds = omega (arith, h) in
      subst (λ d. (slice_index k.holds (position_or_len (λ h. h == hold_word o d) k.holds) ≡ hold_word o d)
      × (position_or_len (λ h. h == hold_word o d) k.holds < most_holds)) e
      (place_here o (hold_count o k.holds - 1) (omega (arith, h)))

  pub bottom_here : (o : ℕ) → 1 ≤ hold_count o k.holds → (slice_index k.holds (first_place o k.holds) ≡ hold_word o 1) × (first_place o k.holds < most_holds)
  bottom_here o h = place_here o 0 (omega (arith, h))
