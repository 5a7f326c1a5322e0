-- The passes of a heap that are all at home are those that close it.
use Rattle.std.proofs.Common.{◌≡◌, ◌⊎◌, ℕ, zero, suc, ◌+◌, false, true, List, [], ◌∷◌, Some, refl, sym, ap, ◌∙◌, arith, inl, inr, All, Any}
use Rattle.std.specs.Prelude.{slice_get}
use Rattle.std.proofs.lemmas.Option.{same_Some, slice_get-get_or, slice_get_within, get_or_from_slice_get}
use Rattle.heap_table.specs.Seen.{HeapSeen, PassSeen, IsOf, InOrder, knowns}
use Rattle.lending.specs.Lending.{AreAt}
use Rattle.lock_runtime_c.specs.Rest.{IsHome}

all_at : {P : PassSeen → Type 0} (h : HeapSeen) (ps : List PassSeen) → AreAt (IsHome h) ps → ((t : ℕ) (p : PassSeen) → IsHome h t p → P p) → All P ps
all_at h ps home each i d lt = each i _ (home i _ (slice_get-get_or ps i d lt))

pub all_of : (h : HeapSeen) (ps : List PassSeen) → AreAt (IsHome h) ps → All (IsOf h) ps
all_of h ps home = all_at h ps home (λ t p at. at.seated.kept.rests.is_of)

pub all_stopped : (h : HeapSeen) (ps : List PassSeen) → AreAt (IsHome h) ps → All (λ (p : PassSeen). p.known.running ≡ false) ps
all_stopped h ps home = all_at h ps home (λ t p at. at.stopped)

in_order : (t : ℕ) (ps : List PassSeen) → ((i : ℕ) (p : PassSeen) → slice_get ps i ≡ Some p → p.known.thread ≡ t + i) → InOrder t (knowns ps)
in_order t [] each = tt
in_order t (p ∷ ps) each =
    let here = each 0 p refl in
    (omega (arith, here), in_order (t + 1) ps (λ i q e. let there = each (suc i) q e in omega (arith, there)))

pub ordered : (h : HeapSeen) (ps : List PassSeen) → AreAt (IsHome h) ps → InOrder 0 (knowns ps)
ordered h ps home = in_order 0 ps (λ i p e. let thread = (home i p e).seated.thread in omega (arith, thread))

-- none asks, or one knows of the halt
all_or_one : (ps : List PassSeen) → ((i : ℕ) (p : PassSeen) → slice_get ps i ≡ Some p → (p.known.requesting ≡ false) ⊎ (p.known.halted ≡ true))
    → ((i : ℕ) (p : PassSeen) → slice_get ps i ≡ Some p → p.known.requesting ≡ false)
    ⊎ ((i : ℕ) × (p : PassSeen) × (slice_get ps i ≡ Some p) × (p.known.halted ≡ true))
all_or_one [] each = inl (λ i p e. absurd (none_there i p e))
  where
    none_there : (i : ℕ) (p : PassSeen) → slice_get [] i ≡ Some p → ⊥
    none_there i p e = let a = slice_get_within [] i p e in omega (arith, a)
all_or_one (p ∷ ps) each = elim (each 0 p refl) [
  | inr halt ↦ inr (0, p, refl, halt)
  | inl quiet ↦ elim (all_or_one ps (λ i q e. each (suc i) q e)) [
    | inr one ↦ inr (suc one.0, one.1, one.2, one.3)
    | inl all ↦ inl (λ i q e. by_place i q e quiet all)
  ]
]
  where
    by_place : (i : ℕ) (q : PassSeen) → slice_get (p ∷ ps) i ≡ Some q → p.known.requesting ≡ false
        → ((i : ℕ) (q : PassSeen) → slice_get ps i ≡ Some q → q.known.requesting ≡ false) → q.known.requesting ≡ false
    by_place zero q e quiet all = ap (λ (x : PassSeen). x.known.requesting) (sym (same_Some p q e)) ∙ quiet
    by_place (suc i) q e quiet all = all i q e

pub quiet : (h : HeapSeen) (ps : List PassSeen) → AreAt (IsHome h) ps
    → All (λ (p : PassSeen). p.known.requesting ≡ false) ps ⊎ Any (λ (p : PassSeen). p.known.halted ≡ true) ps
quiet h ps home = elim (all_or_one ps (λ i p e. (home i p e).quiet)) [
  | inl all ↦ inl (λ i d lt. all i _ (slice_get-get_or ps i d lt))
  | inr one ↦ inr (one.0, one.1, slice_get_within ps one.0 one.1 one.2, get_or_from_slice_get ps one.0 one.1 one.1 one.2, one.3)
]
