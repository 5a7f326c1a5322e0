-- What a thread of a heap of two threads and two objects knows after one step more, and that it may resume.
use Rattle.std.proofs.Common.{◌≡◌, ℕ, Bool, refl, sym, ◌∙◌, subst}
use Rattle.mark_word.specs.Safe.{read_safe}
use Rattle.core_world.specs.declared.word_id.WordId.TheVariants.{Safepoint}
use Rattle.core_world.specs.declared.plan.LocalEffect.{LocalEffect}
use Rattle.core_world.specs.declared.plan.LocalEffect.TheVariants.{Unchanged}
use Rattle.core_world.specs.declared.plan.StepPlan.{StepPlan}
use Rattle.core_world.specs.Due.{steps_due, IsNext}
use Rattle.core_world.specs.Opening.{first_known}
use Rattle.core_world.specs.Steps.{known_after, is_idle}
use Rattle.core_world.specs.Threads.ThreadView.{ThreadView}
use Rattle.core_world.specs.Trees.Calls.{steps_of}
use Rattle.core_world.specs.Trees.Plans.{load, swap}
use Rattle.core_world.specs.Words.Shape.{Shape}
use Rattle.heap_table.specs.Drafts.{IsDrafted}
use Rattle.heap_table.specs.Kept.{LogHasRoom}
use Rattle.heap_table.specs.Seen.{HeapSeen, PassSeen}
use Rattle.heap_table.specs.Stepping.{CanStep, HasStepped}
use Rattle.heap_tests.specs.Known.{two, resuming, looked, Knows}

-- RESUMES, with biases or without
pub look_next : (b : Bool) (t : ℕ) → IsNext two 7 b (first_known t) (load resuming Safepoint)
unfolding steps_due is_idle steps_of
look_next b t = refl

pub first_next : (b : Bool) → IsNext two 7 b (looked 0 0) (swap resuming Safepoint 0 1)
unfolding steps_due is_idle steps_of read_safe
first_next b = refl

pub second_next : (b : Bool) → IsNext two 7 b (looked 1 1) (swap resuming Safepoint 1 3)
unfolding steps_due is_idle steps_of read_safe
second_next b = refl

-- STEPS
pub goes : (h : HeapSeen) (k : ThreadView) (p q : PassSeen) (plan : StepPlan) (n m : ℕ)
    → Knows h k p → HasStepped h p q plan n → n ≡ m → Knows h (known_after two 7 plan m k) q
goes h k p q plan n m a s e =
    record {
      is_of = s.heap;
      shape = a.shape;
      start = a.start;
      known = s.known ∙ λ i. known_after (a.shape i) (a.start i) plan (e i) (a.known i);
      limit = s.limit ∙ a.limit;
    }

-- it can make the step that is the next one, which takes no shot
pub can : (h : HeapSeen) (k : ThreadView) (p : PassSeen) (plan : StepPlan) → Knows h k p
    → IsNext two 7 h.heap.biasing k plan → LogHasRoom plan.note k.log 86 → plan.own ≡ Unchanged → CanStep h p plan
can h k p plan a next room own =
    record {
      heap = a.is_of;
      next =
          subst (λ (x : Shape × ℕ × ThreadView). IsNext x.0 x.1 h.heap.biasing x.2 plan)
          (λ i. (sym a.shape i, sym a.start i, sym a.known i)) next;
      room = subst (λ (x : ThreadView × ℕ). LogHasRoom plan.note x.0.log x.1) (λ i. (sym a.known i, sym a.limit i)) room;
      drafted = subst (λ (o : LocalEffect). IsDrafted o h.heap.shape p.known p.cut p.cells) (sym own) tt;
    }

-- the heap itself
pub heap_is : (h : HeapSeen) (k : ThreadView) (p : PassSeen) (b : Bool) → Knows h k p → h.heap.biasing ≡ b
    → h.heap ≡ record { shape = two; start = 7; biasing = b }
heap_is h k p b a e = λ i. record { shape = a.shape i; start = a.start i; biasing = e i }
