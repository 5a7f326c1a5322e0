-- The prototypes at a heap's end.
use Rattle.std.proofs.Common.{◌≡◌, ℕ, zero, suc, ◌<◌, true, false, List, [], ◌∷◌, Some, None, refl, sym, ap, ◌∙◌, inl, inr}
use Rattle.std.specs.Prelude.{slice_get, slice_index}
use Rattle.std.proofs.lemmas.Option.{same_Some}
use Rattle.core_world.specs.declared.word_id.WordId.TheVariants.{Prototype}
use Rattle.core_world.specs.Threads.ThreadView.{ThreadView}
use Rattle.core_law.specs.Logic.{Heap}
use Rattle.heap_table.specs.BiasesAtEnd.{counted_by}
use Rattle.heap_table.specs.Layout.{place_of}
use Rattle.closed_heap_laws.specs.OfARun.{IsEnd}
use Rattle.closed_heap_laws.specs.Prototypes.{prototype_by}
use Rattle.closed_heap_laws.proofs.LastWorlds.{IsListed, Settled, settled}

counted_there : (ks : List ThreadView) (t : ℕ) (k : ThreadView) → slice_get ks t ≡ Some k → k.counts ≡ counted_by ks t
counted_there [] t k h = absurd (cc h)
counted_there (x ∷ ks) zero k h = sym (ap (λ (z : ThreadView). z.counts) (same_Some x k h))
counted_there (x ∷ ks) (suc t) k h = counted_there ks t k h

counted_absent : (ks : List ThreadView) (t : ℕ) → slice_get ks t ≡ None → counted_by ks t ≡ []
counted_absent [] t h = refl
counted_absent (x ∷ ks) zero h = absurd (cc h)
counted_absent (x ∷ ks) (suc t) h = counted_absent ks t h

counted_listed : (ks : List ThreadView) (t : ℕ) (k : ThreadView) → IsListed ks t k → k.counts ≡ counted_by ks t
counted_listed ks t k (inl h) = counted_there ks t k h
counted_listed ks t k (inr h) = ap (λ (z : ThreadView). z.counts) h.1 ∙ sym (counted_absent ks t h.0)

module _ (heap : Heap) (words : List ℕ) (ks : List ThreadView) (e : IsEnd heap words ks) where
  s : Settled heap words ks
  s = settled heap words ks e

  biasing_is : s.world.biasing ≡ heap.biasing
  biasing_is = ap (λ (h : Heap). h.biasing) s.is_of

  pub biased_prototype : (c : ℕ) → c < heap.shape.classes → heap.biasing ≡ true
      → slice_index words (place_of heap.shape (Prototype c)) ≡ prototype_by heap.shape.threads (counted_by ks) c
  biased_prototype c within biasing =
      s.words_are (Prototype c) within
      ∙ s.fits.classes.prototypes (biasing_is ∙ biasing) c
      ∙ λ i. prototype_by (s.is_of i).shape.threads (λ t. counted_listed ks t (s.world.known t) (s.listed t) i) c

  pub plain_prototype : (c : ℕ) → c < heap.shape.classes → heap.biasing ≡ false
      → slice_index words (place_of heap.shape (Prototype c)) ≡ 1
  plain_prototype c within biasing = s.words_are (Prototype c) within ∙ (s.fits.classes.plain (biasing_is ∙ biasing) c).0
