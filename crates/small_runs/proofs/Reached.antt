-- A world to which a heap in the limits comes: the heap has its law, its words can be listed by their places, and what each thread knows there it came
-- to know by its own steps.
use Rattle.std.proofs.Common.{◌≡◌, ℕ, ◌<◌, ◌≤◌, List, length, get_or, set, Bool, true, false, cond, refl, sym, ap, ◌∙◌, subst, arith, length-set}
use Rattle.std.specs.Prelude.{slice_index, slice_set}
use Rattle.std.proofs.lemmas.List.{get_or-set_same, get_or-set_other}
use Rattle.core_world.specs.declared.plan.StepPlan.{StepPlan}
use Rattle.core_world.specs.declared.word_id.WordId.{WordId}
use Rattle.core_world.specs.Due.{IsNext}
use Rattle.core_world.specs.Opening.{opening, first_known}
use Rattle.core_world.specs.There.{IsIn}
use Rattle.core_world.specs.Threads.ThreadView.{ThreadView}
use Rattle.core_world.specs.Words.Acts.{word_after}
use Rattle.core_world.specs.Words.Names.{same_name, with_word}
use Rattle.core_world.specs.Words.Shape.{Shape, IsInLimits}
use Rattle.core_world.specs.Steps.{known_after, world_after}
use Rattle.core_world.specs.World.{World, with_known}
use Rattle.core_world.proofs.KnowledgeParts.{by_equal, with_known_here, with_known_else}
use Rattle.core_world.proofs.Naming.{same_named}
use Rattle.core_law.specs.HeapLaw.{HeapLaw}
use Rattle.core_law.specs.Logic.{Heap, heap_of}
use Rattle.core_law.specs.Reached.{IsReachable, opens, moves}
use Rattle.core_law.specs.Sound.{Sound}
use Rattle.core_steps.proofs.ExactWorlds.{reached_worlds_exact}
use Rattle.core_steps.proofs.hash.FirstDraws.{reached_worlds_drawn}
use Rattle.core_steps.proofs.ReachedWorlds.{opening_sound, comes_sound, next_step_sound, next_step_there}
use Rattle.core_steps.proofs.Table.{calls_begin}
use Rattle.heap_table.specs.Layout.{place_of, word_count}
use Rattle.heap_table.specs.Ruled.{IsReal, Stepped}
use Rattle.heap_table.proofs.Knows.{real_after, same_thread}
use Rattle.heap_table.proofs.Lawful.{by_law}
use Rattle.heap_table.proofs.Places.{within, apart}
use Rattle.turn_progress.proofs.Steps.{same_heap}

pub law_in : (heap : Heap) → IsInLimits heap.shape → HeapLaw heap
law_in heap limits = record {
  opens = opening_sound heap limits;
  begins = calls_begin heap;
  exact = λ w c. reached_worlds_exact heap w limits c;
  draws = λ w c. reached_worlds_drawn heap w limits c;
}

-- WORDS. Each word of the world lies at its place.
pub record AreWords (s : Shape) (words : List ℕ) (f : WordId → ℕ) : Type 0 where
  pub wide : length words ≡ word_count s
  pub are : (n : WordId) → IsIn s n → slice_index words (place_of s n) ≡ f n

words_set : (s : Shape) (words : List ℕ) (f : WordId → ℕ) (n : WordId) (x : ℕ) → IsIn s n → AreWords s words f
    → AreWords s (slice_set words (place_of s n) x) (with_word n x f)
words_set s words f n x here a = record { wide = length-set words (place_of s n) x ∙ a.wide; are = λ m there. cases m there (same_name m n) refl }
  where
    cases : (m : WordId) → IsIn s m → (b : Bool) → same_name m n ≡ b → slice_index (slice_set words (place_of s n) x) (place_of s m) ≡ cond b x (f m)
    cases m there true e =
        ap (λ (l : WordId). get_or (set words (place_of s n) x) (place_of s l) 0) (same_named m n e)
        ∙ get_or-set_same words (place_of s n) x 0 (let h = within s n here in let w = a.wide in omega (arith, h, w))
    cases m there false e = get_or-set_other words (place_of s n) (place_of s m) x 0 (λ p. apart s m n there here e p) ∙ a.are m there

-- a step sets its word
pub words_moved : (heap : Heap) (v : World) (t : ℕ) (p : StepPlan) (words : List ℕ) → IsInLimits heap.shape → IsReachable heap v → t < v.shape.threads
    → IsNext v.shape v.start v.biasing (v.known t) p → AreWords heap.shape words v.words
    → AreWords heap.shape (slice_set words (place_of heap.shape p.at) (word_after p.act (v.words p.at))) (world_after p t v).words
words_moved heap v t p words limits before few next a =
    let c = comes_sound heap v limits before in
    words_set heap.shape words v.words p.at (word_after p.act (v.words p.at))
    (subst (λ (h : Heap). IsIn h.shape p.at) c.is_of (next_step_there v t p few c.sound next).0) a

-- KNOWLEDGE
pub record KnowsIn (heap : Heap) (t : ℕ) (k : ThreadView) : Type 0 where
  pub thread : k.thread ≡ t
  pub real : IsReal heap k

pub knows_in : (heap : Heap) (w : World) (t : ℕ) → IsInLimits heap.shape → IsReachable heap w → t < heap.shape.threads → KnowsIn heap t (w.known t)
knows_in heap w t limits opens few = record {
  thread = refl;
  real = record {
    world = opening heap.shape heap.start heap.biasing;
    is_of = refl;
    sound = opening_sound heap limits;
    knew = refl;
    is = refl;
    made = tt;
    law = by_law (law_in heap limits);
  };
}
knows_in heap w t limits (moves v u p before within_threads next) few = now (knows_in heap v t limits before few)
  where
    n : ℕ
    n = v.words p.at

    l : ThreadView
    l = known_after v.shape v.start p n (v.known u)

    is_of : heap_of v ≡ heap
    is_of = (comes_sound heap v limits before).is_of

    stepped : (v.known u).thread ≡ u → Stepped heap (v.known u) p n
    stepped e = record {
      world = v;
      is_of = is_of;
      sound = (comes_sound heap v limits before).sound;
      knew = ap v.known e;
      was_there = refl;
      sound_after = subst (λ (x : ℕ). Sound (world_after p x v)) (sym e)
          (next_step_sound v u p within_threads (comes_sound heap v limits before).sound next);
    }

    mine : KnowsIn heap t (v.known t) → t ≡ u → KnowsIn heap t l
    mine old e =
        let was : KnowsIn heap t (v.known u) = subst (λ (x : ℕ). KnowsIn heap t (v.known x)) e old in
        let here : (v.known u).thread ≡ u = was.thread ∙ e in
        record {
          thread = same_thread v.shape v.start p n (v.known u) ∙ was.thread;
          real = real_after heap (v.known u) p n l was.real (stepped here)
              (λ i. known_after (is_of i).shape (is_of i).start p n (v.known u));
        }

    now : KnowsIn heap t (v.known t) → KnowsIn heap t (with_known u l v.known t)
    now old =
        by_equal t u
        (λ e. subst (KnowsIn heap t) (sym (ap (with_known u l v.known) e ∙ with_known_here u l v.known)) (mine old e))
        (λ d. subst (KnowsIn heap t) (sym (with_known_else u l v.known t d)) old)

-- and a thread that the heap doesn't have knows what it knew first
pub never_there : (heap : Heap) (w : World) → IsReachable heap w → (u : ℕ) → heap.shape.threads ≤ u → w.known u ≡ first_known u
never_there heap w opens u many = refl
never_there heap w (moves v t p before few next) u many =
    let same = ap (λ (h : Heap). h.shape.threads) (same_heap heap v before) in
    with_known_else t (known_after v.shape v.start p (v.words p.at) (v.known t)) v.known u (λ e. omega (arith, few, same, many, e))
    ∙ never_there heap v before u many
