-- An entry that a state takes after all others, it also takes at its place in the order, where each entry after that place lets it pass. The
-- states are of any kind: what the plain objects are, and which are there.
use Rattle.std.proofs.Common.{◌≡◌, ℕ, Bool, true, false, List, [], ◌∷◌, refl, Option, Some, None, option_and_then}
use Rattle.std.specs.List.{AllByRecursion}
use Rattle.plain_monitor.specs.declared.entry.Entry.{Entry}
use Rattle.plain_monitor.specs.declared.entry.Logged.{Logged}
use Rattle.plain_monitor.specs.Order.{is_before, insert_ordered}
use Rattle.plain_monitor.specs.History.{run_all}
use Rattle.plain_monitor.proofs.Orders.{before_asym}
use Rattle.plain_monitor.proofs.Ordering.{IsOrdered, NoneBefore, not_before}

-- a state that takes several entries takes the first, and then the others
pub first_run : {S : Type 0} (take : S → ℕ → Entry → Option S) (first : Option S) (xs : List (ℕ × Logged)) (after : S)
    → option_and_then (λ s. run_all take s xs) first ≡ Some after
    → (middle : S) × (first ≡ Some middle) × (run_all take middle xs ≡ Some after)
first_run take None xs after h = absurd (cc h)
first_run take (Some middle) xs after h = (middle, refl, h)

-- a state that takes z and then x takes x and then z, and is the same
abbrev pub TakesTurned : {S : Type 0} → (S → ℕ → Entry → Option S) → ℕ × Logged → ℕ × Logged → Type 0
TakesTurned {S = S} take z x =
    (before middle after : S) → take before z.0 z.1.entry ≡ Some middle → take middle x.0 x.1.entry ≡ Some after
    → (other : S) × (take before x.0 x.1.entry ≡ Some other) × (take other z.0 z.1.entry ≡ Some after)

module _ {S : Type 0} (take : S → ℕ → Entry → Option S) (x : ℕ × Logged) where
  -- x may pass each of these
  abbrev pub Passes : List (ℕ × Logged) → Type 0
  Passes zs = AllByRecursion (λ z. TakesTurned take z x) zs

  -- x may pass each of these that doesn't stand before it
  abbrev pub PassesLater : List (ℕ × Logged) → Type 0
  PassesLater zs = AllByRecursion (λ z. is_before z x ≡ false → TakesTurned take z x) zs

  -- an entry that may pass all of those before it may be taken first
  to_front : (zs : List (ℕ × Logged)) (before middle after : S) → Passes zs → run_all take before zs ≡ Some middle → take middle x.0 x.1.entry ≡ Some after
      → run_all take before (x ∷ zs) ≡ Some after
  to_front [] before middle after free h k = let same : middle ≡ before = cc h in rw (← same, k) refl
  to_front (z ∷ zs) before middle after free h k =
      let a = first_run take (take before z.0 z.1.entry) zs middle h in
      let later = to_front zs a.0 middle after free.1 a.2 k in
      let b = first_run take (take a.0 x.0 x.1.entry) zs after later in
      let s = free.0 before a.0 b.0 a.1 b.1 in
      rw (s.1, s.2) b.2

  -- it passes all after its place
  pass_all : (y : ℕ × Logged) (zs : List (ℕ × Logged)) → is_before x y ≡ true → NoneBefore y zs → PassesLater zs → Passes zs
  pass_all y [] h a b = tt
  pass_all y (z ∷ zs) h a b = (b.0 (not_before x y z h a.0), pass_all y zs h a.1 b.1)

  -- the next lemma, by the test against the head
  inserted_at_head : (y : ℕ × Logged) (ys : List (ℕ × Logged)) (b : Bool) → is_before x y ≡ b
      → (before middle after : S) → IsOrdered (y ∷ ys) → PassesLater (y ∷ ys)
      → run_all take before (y ∷ ys) ≡ Some middle → take middle x.0 x.1.entry ≡ Some after
      → ((s : S) → run_all take s ys ≡ Some middle → run_all take s (insert_ordered x ys) ≡ Some after)
      → run_all take before (insert_ordered x (y ∷ ys)) ≡ Some after
  inserted_at_head y ys true hb before middle after up pass h k ih =
      rw hb (to_front (y ∷ ys) before middle after (pass.0 (before_asym x y hb), pass_all y ys hb up.0 pass.1) h k)
  inserted_at_head y ys false hb before middle after up pass h k ih =
      let a = first_run take (take before y.0 y.1.entry) ys middle h in
      rw (hb, a.1) (ih a.0 a.2)

  -- an entry that a state takes after these entries, and that may pass all after it, the state also takes at its place
  pub run_inserted : (ys : List (ℕ × Logged)) (before middle after : S) → IsOrdered ys → PassesLater ys → run_all take before ys ≡ Some middle
      → take middle x.0 x.1.entry ≡ Some after → run_all take before (insert_ordered x ys) ≡ Some after
  run_inserted [] before middle after up pass h k = let same : middle ≡ before = cc h in rw (← same, k) refl
  run_inserted (y ∷ ys) before middle after up pass h k =
      inserted_at_head y ys (is_before x y) refl before middle after up pass h k (λ s g. run_inserted ys s middle after up.1 pass.1 g k)
