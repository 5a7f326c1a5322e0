-- A world of a heap of one thread, in which that rests, is an end of the heap.
use Rattle.std.proofs.Common.{◌≡◌, ℕ, zero, suc, ◌+◌, ◌%◌, ◌^◌, ◌<◌, List, true, Some, refl, sym, ap, ◌∙◌, subst, arith}
use Rattle.std.specs.Prelude.{slice_index, slice_get}
use Rattle.core_world.specs.declared.word_id.WordId.TheVariants.{Hold, Safepoint}
use Rattle.core_world.specs.Steps.{is_idle}
use Rattle.core_world.specs.Threads.AtRest.{AtRest}
use Rattle.core_world.specs.Threads.ThreadView.{ThreadView}
use Rattle.core_world.specs.Words.Shape.{IsInLimits}
use Rattle.core_world.specs.World.{World}
use Rattle.core_law.specs.Logic.{Heap}
use Rattle.core_law.specs.Reached.{IsReachable}
use Rattle.core_law.proofs.Lawful.{sound_rests}
use Rattle.core_steps.proofs.ReachedWorlds.{comes_sound}
use Rattle.heap_table.specs.Layout.{place_of}
use Rattle.heap_table.specs.Resting.{Rests}
use Rattle.heap_table.specs.Seen.{HeapSeen}
use Rattle.closed_heap_laws.specs.OfARun.{IsEnd}
use Rattle.small_runs.specs.Runs.{all_known, pass_of}
use Rattle.small_runs.proofs.Reached.{AreWords, law_in, knows_in}

-- with the last words, of which the first is the safepoint word
pub ended : (heap : Heap) (w : World) → IsInLimits heap.shape → heap.shape.threads ≡ 1 → IsReachable heap w → is_idle heap.shape (w.known 0) ≡ true
    → (words : List ℕ) × AreWords heap.shape words w.words
    → (words : List ℕ) × IsEnd heap words (all_known w) × (slice_index words 0 ≡ w.words Safepoint)
ended heap w limits one c over a =
    let s = comes_sound heap w limits c in
    let k = knows_in heap w 0 limits c (omega (arith, one)) in (
      a.0,
      record {
        law = law_in heap limits;
        last = record { world = w; is_of = s.is_of; sound = s.sound; comes = c; words_are = a.1.are; knows = λ i k there. knows i k there };
        order = (k.thread, tt);
        all = sym one;
        rest = (rests, tt);
      },
      a.1.are Safepoint tt,
    )
  where
    rests : AtRest heap.shape (w.known 0)
    rests =
        let s = comes_sound heap w limits c in
        subst (λ (h : Heap). AtRest h.shape (w.known 0)) s.is_of
        (sound_rests w 0 s.sound (subst (λ (h : Heap). 0 < h.shape.threads) (sym s.is_of) (omega (arith, one)))
        (ap (λ (h : Heap). is_idle h.shape (w.known 0)) s.is_of ∙ over))

    knows : (i : ℕ) (k : ThreadView) → slice_get (all_known w) i ≡ Some k → w.known k.thread ≡ k
    knows zero k there =
        let same : w.known 0 ≡ k = cc there in
        ap w.known (ap (λ (l : ThreadView). l.thread) (sym same) ∙ (knows_in heap w 0 limits c (omega (arith, one))).thread) ∙ same
    knows (suc i) k there = absurd (cc there)

-- and its pass rests
pub resting : (h : HeapSeen) (t : ℕ) (w : World) → IsInLimits h.heap.shape → h.room ≡ 16 → t < h.heap.shape.threads → IsReachable h.heap w
    → is_idle h.heap.shape (w.known t) ≡ true → Rests h (pass_of h t w)
resting h t w limits room some c over =
    let k = knows_in h.heap w t limits c some in
    record {
      is_of = record {
        table = refl;
        room = refl;
        within = subst (λ (u : ℕ). u < h.heap.shape.threads) (sym k.thread) some;
        home = ap (λ (u : ℕ). place_of h.heap.shape (Hold u 0)) (sym k.thread);
        classes = refl;
        first = ap (λ (u : ℕ). (h.heap.start + u) % 2 ^ 32) (sym k.thread);
        threads = refl;
        objects = refl;
        real = k.real;
      };
      over = over;
    }
