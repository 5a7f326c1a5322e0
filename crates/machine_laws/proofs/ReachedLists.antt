-- What holds of each element of a list and its place, through writes.
use Rattle.std.proofs.Common.{if◌then◌else◌, ◌≡◌, ◌≢◌, ◌⊎◌, inl, inr, ℕ, zero, suc, ◌<◌, ◌≤◌, ◌==◌, List, [], ◌∷◌, length}
use Rattle.std.proofs.Common.{slice_get, slice_index_or, slice_set, Some, refl, sym, ◌∙◌, subst, arith, eq-eqb}
use Rattle.std.specs.List.{AllByRecursion}
use Rattle.std.proofs.lemmas.Bool.{cases_eq, cases_lt}
use Rattle.std.proofs.lemmas.Option.{same_Some, slice_get-get_or}
use Rattle.std.proofs.lemmas.List.{get_or_past}
use Rattle.plain_monitor.specs.Listed.{counts_in}
use Rattle.plain_monitor.proofs.Lists.{get_set_same, get_set_other}
use Rattle.machine_laws.specs.Reached.{AtEach}

-- what holds of each element and its place after a write: it holds of what was written, and of each other element
pub each_set : {X : Type 0} (Q : ℕ → X → Type 0) (xs : List X) (k : ℕ) (x y : X) → slice_get xs k ≡ Some x
    → Q k y → ((j : ℕ) (z : X) → j ≢ k → slice_get xs j ≡ Some z → Q j z) → AtEach Q (slice_set xs k y)
each_set Q xs k x y at here others j z e = go (cases_eq j k)
  where
    go : (j ≡ k) ⊎ (j ≡ k → ⊥) → Q j z
    go (inl same) =
        let it : y ≡ z = same_Some y z (sym (get_set_same xs k x y at) ∙ subst (λ (i : ℕ). slice_get (slice_set xs k y) i ≡ Some z) same e) in
        subst (λ (i : ℕ). Q i z) (sym same) (subst (Q k) it here)
    go (inr other) = others j z other (sym (get_set_other xs k j y (λ q. other (sym q))) ∙ e)

-- what holds of each element holds of the one that is read, or of what stands for one that isn't there
pub each_or : {X : Type 0} (P : ℕ → X → Type 0) (xs : List X) (k : ℕ) (d : X) → AtEach P xs → P k d → P k (slice_index_or xs k d)
each_or P xs k d each h = elim (cases_lt k (length xs)) [
  | inl within ↦ each k (slice_index_or xs k d) (slice_get-get_or xs k d within)
  | inr past ↦ subst (P k) (sym (get_or_past xs k d past)) h
]

-- the element at a place that is there
pub record IsAt {X : Type 0} (xs : List X) (k : ℕ) : Type 0 where
  pub element : X
  pub at : slice_get xs k ≡ Some element

pub at_within : {X : Type 0} (xs : List X) (k : ℕ) → k < length xs → IsAt xs k
at_within [] k l = absurd (omega arith)
at_within (x ∷ xs) zero l = record { element = x; at = refl }
at_within (x ∷ xs) (suc k) l = let r = at_within xs k (omega arith) in record { element = r.element; at = r.at }

-- no place has more than its thread's counts together
pub all_bounded : (n bound : ℕ) (ps : List (ℕ × ℕ)) → AllByRecursion (λ p. p.0 < n) ps
    → ((t : ℕ) → t < n → counts_in ps t ≤ bound) → AllByRecursion (λ p. (p.0 < n) × (p.1 ≤ bound)) ps
all_bounded n bound [] places h = tt
all_bounded n bound (p ∷ ps) places h =
    let here = h p.0 places.0 in
    let own : (if p.0 == p.0 then p.1 else 0) ≡ p.1 = rw (eq-eqb p.0 p.0 refl) refl in
    ((places.0, omega (arith, here, own)), all_bounded n bound ps places.1 (λ t l. let k = h t l in omega (arith, k)))
