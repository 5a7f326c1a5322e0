-- Where all threads of a heap are at rest, no bias is being revoked: all clauses hold of the last world, in which the
-- threads know what is listed.
use Rattle.std.proofs.Common.{◌≡◌, ◌⊎◌, ℕ, zero, suc, ◌+◌, ◌<◌, ◌≤◌, List, [], ◌∷◌, length, map, Some, None, refl, sym, ap, ◌∙◌, arith, inl, inr}
use Rattle.std.specs.Prelude.{slice_get, slice_index, slice_index_or}
use Rattle.std.proofs.lemmas.Bool.{cases_lt}
use Rattle.std.proofs.lemmas.Option.{same_Some}
use Rattle.plain_monitor.specs.History.{log_of}
use Rattle.plain_monitor.specs.Objects.{PlainObject}
use Rattle.plain_monitor.proofs.Lists.{all_at}
use Rattle.plain_history.proofs.Joined.{get_within}
use Rattle.core_world.specs.declared.word_id.WordId.{WordId}
use Rattle.core_world.specs.Opening.{first_known}
use Rattle.core_world.specs.There.{IsIn}
use Rattle.core_world.specs.Threads.AtRest.{AtRest}
use Rattle.core_world.specs.Threads.ThreadView.{ThreadView}
use Rattle.core_world.specs.Threads.Stages.{revocation_in}
use Rattle.core_world.specs.Valid.{Fits, IsRevoking}
use Rattle.core_world.specs.Words.Shape.{Shape}
use Rattle.core_world.specs.World.{World, logs, logs_from}
use Rattle.core_law.specs.Logic.{Heap, heap_of}
use Rattle.core_law.specs.MadeLaw.{MadeLawHolds}
use Rattle.core_law.specs.Reached.{IsReachable}
use Rattle.core_law.proofs.Wholes.{All as Whole, all_unless}
use Rattle.heap_table.specs.Layout.{place_of}
use Rattle.heap_table.specs.Seen.{InOrder}
use Rattle.closed_heap_laws.specs.OfARun.{IsEnd, logs_in, shots_in, shots_at, unfinished_in}

-- LISTS. What stands in one, and in a part of each that stands there.
get_none : (ks : List ThreadView) (i : ℕ) → length ks ≤ i → slice_get ks i ≡ None
get_none [] i h = refl
get_none (x ∷ ks) zero h = absurd (omega (arith, h))
get_none (x ∷ ks) (suc i) h = get_none ks i (omega (arith, h))

part_there : {A : Type 0} (f : ThreadView → A) (none : A) (ks : List ThreadView) (i : ℕ) (k : ThreadView)
    → slice_get ks i ≡ Some k → slice_index_or (map f ks) i none ≡ f k
part_there f none [] i k h = absurd (cc h)
part_there f none (x ∷ ks) zero k h = ap f (same_Some x k h)
part_there f none (x ∷ ks) (suc i) k h = part_there f none ks i k h

part_absent : {A : Type 0} (f : ThreadView → A) (none : A) (ks : List ThreadView) (i : ℕ)
    → slice_get ks i ≡ None → slice_index_or (map f ks) i none ≡ none
part_absent f none [] i h = refl
part_absent f none (x ∷ ks) zero h = absurd (cc h)
part_absent f none (x ∷ ks) (suc i) h = part_absent f none ks i h

in_order : (t : ℕ) (ks : List ThreadView) (i : ℕ) (k : ThreadView) → InOrder t ks → slice_get ks i ≡ Some k → k.thread ≡ t + i
in_order t [] i k order h = absurd (cc h)
in_order t (x ∷ ks) zero k order h =
    let e = ap (λ (z : ThreadView). z.thread) (same_Some x k h) in
    omega (arith, e, order.0)
in_order t (x ∷ ks) (suc i) k order h = let e = in_order (t + 1) ks i k order.1 h in omega (arith, e)

logs_listed : (f : ℕ → ThreadView) (t : ℕ) (ks : List ThreadView) → InOrder t ks
    → ((i : ℕ) (k : ThreadView) → slice_get ks i ≡ Some k → f k.thread ≡ k) → logs_in ks ≡ logs_from t (length ks) f
logs_listed f t [] order each = refl
logs_listed f t (k ∷ ks) order each =
    let here : k.log ≡ (f t).log = sym (ap (λ (x : ThreadView). x.log) (each 0 k refl)) ∙ ap (λ (u : ℕ). (f u).log) order.0 in
    λ i. here i ∷ logs_listed f (t + 1) ks order.1 (λ j x e. each (suc j) x e) i

-- k is the t-th of these, or there is no such one, and k is what a thread knows that has made no step
abbrev pub IsListed : List ThreadView → ℕ → ThreadView → Type 0
IsListed ks t k = (slice_get ks t ≡ Some k) ⊎ ((slice_get ks t ≡ None) × (k ≡ first_known t))

part_listed : {A : Type 0} (f : ThreadView → A) (ks : List ThreadView) (t : ℕ) (k : ThreadView) → IsListed ks t k
    → slice_index_or (map f ks) t (f (first_known t)) ≡ f k
part_listed f ks t k (inl h) = part_there f (f (first_known t)) ks t k h
part_listed f ks t k (inr h) = part_absent f (f (first_known t)) ks t h.0 ∙ sym (ap f h.1)

pub log_listed : (ks : List ThreadView) (t : ℕ) (k : ThreadView) → IsListed ks t k → log_of (logs_in ks) t ≡ k.log
log_listed ks t k h = part_listed (λ (x : ThreadView). x.log) ks t k h

pub shots_listed : (ks : List ThreadView) (t : ℕ) (k : ThreadView) → IsListed ks t k → shots_at (shots_in ks) t ≡ k.shots
shots_listed ks t k h = part_listed (λ (x : ThreadView). x.shots) ks t k h

pub unfinished_listed : (ks : List ThreadView) (t : ℕ) (k : ThreadView) → IsListed ks t k
    → unfinished_in (slice_get ks t) ≡ k.unfinished
unfinished_listed ks t k (inl h) = ap unfinished_in h
unfinished_listed ks t k (inr h) = ap unfinished_in h.0 ∙ sym (ap (λ (x : ThreadView). x.unfinished) h.1)

-- THE LAST WORLD. All clauses hold of it, the words are its own, and the threads know in it what is listed.
pub record Settled (heap : Heap) (words : List ℕ) (ks : List ThreadView) : Type 0 where
  pub world : World
  pub objects : List PlainObject
  pub fits : Fits world objects
  pub made : MadeLawHolds world
  pub is_of : heap_of world ≡ heap
  pub comes : IsReachable heap world
  pub words_are : (n : WordId) → IsIn heap.shape n → slice_index words (place_of heap.shape n) ≡ world.words n
  pub listed : (t : ℕ) → IsListed ks t (world.known t)
  pub logs_are : logs world ≡ logs_in ks

module _ (heap : Heap) (words : List ℕ) (ks : List ThreadView) (e : IsEnd heap words ks) where
  abbrev w : World
  w = e.last.world

  threads_are : w.shape.threads ≡ heap.shape.threads
  threads_are = ap (λ (h : Heap). h.shape.threads) e.last.is_of

  there : (t : ℕ) → t < heap.shape.threads → slice_get ks t ≡ Some (w.known t)
  there t within =
      let same : 0 + t ≡ t = omega arith in
      let g = get_within ks t (omega (arith, e.all, within)) in
      g.1 ∙ ap Some (sym (e.last.knows t g.0 g.1) ∙ ap w.known (in_order 0 ks t g.0 e.order g.1 ∙ same))

  -- no thread of the heap is in the middle of anything, and no other has reached a safepoint
  unrevoking : (P : List PlainObject) → IsRevoking w P → ⊥
  unrevoking P s = elim (cases_lt s.requester heap.shape.threads) [
    | inl within ↦
        let rests = all_at (AtRest heap.shape) ks s.requester (w.known s.requester) e.rest (there s.requester within) in
        let none = ap revocation_in rests.calm in
        absurd (cc (none, s.its_revocation))
    | inr far ↦
        let before = ap (λ (z : Shape). z.threads) s.shape in
        let absent = s.fits.absent s.requester (omega (arith, far, before, threads_are)) in
        let unreached = ap (λ (k : ThreadView). k.reached) absent in
        absurd (cc (s.reached, unreached))
  ]

  whole : Whole w e.last.sound.valid.objects
  whole = all_unless w e.last.sound.valid.objects (unrevoking e.last.sound.valid.objects) e.last.sound.valid.is

  known_listed : (t : ℕ) → IsListed ks t (w.known t)
  known_listed t = elim (cases_lt t heap.shape.threads) [
    | inl within ↦ inl (there t within)
    | inr far ↦
        inr (get_none ks t (omega (arith, e.all, far)), whole.fits.absent t (omega (arith, far, threads_are)))
  ]

  pub settled : Settled heap words ks
  settled =
      record {
        world = w;
        objects = e.last.sound.valid.objects;
        fits = whole.fits;
        made = whole.made;
        is_of = e.last.is_of;
        comes = e.last.comes;
        words_are = e.last.words_are;
        listed = known_listed;
        logs_are = sym (logs_listed w.known 0 ks e.order e.last.knows
            ∙ ap (λ n. logs_from 0 n w.known) (e.all ∙ sym threads_are));
      }
