-- The threads of the tests may enter where they do.
use Rattle.std.proofs.Common.{◌≡◌, ℕ, ◌<◌, true, length, refl, sym, subst, arith, inr}
use Rattle.mark_word.specs.Hold.{read_hold}
use Rattle.mark_word.specs.Mark.{read_mark}
use Rattle.mark_word.specs.Safe.{read_safe}
use Rattle.mark_word.specs.Wait.{read_wait}
use Rattle.core_world.specs.declared.heap_call.HeapCall.TheVariants as task
use Rattle.core_world.specs.Due.{IsDue}
use Rattle.core_world.specs.Steps.{is_idle}
use Rattle.core_world.specs.Threads.ThreadView.{ThreadView, local_of, start_of}
use Rattle.core_world.specs.Threads.Stages.{Revocation}
use Rattle.core_world.specs.Trees.BiasSteps.{bias_enter_steps}
use Rattle.core_world.specs.Trees.Calls.{steps_of, end}
use Rattle.core_world.specs.Trees.Operations.{enter_tried, enter_going, answer}
use Rattle.core_world.proofs.CallRests.{part_due}
use Rattle.core_law.specs.Logic.{Heap}
use Rattle.heap_table.specs.Seen.{HeapSeen, PassSeen}
use Rattle.heap_tests.specs.Known.{two, resumed, Knows}
use Rattle.heap_tests.specs.Biased.{MayEnter, entering}
use Rattle.heap_tests.proofs.Known.{heap_is}

abbrev Due : ThreadView → Type 0
Due k = IsDue two 7 true k (task.Enter 0 0) (bias_enter_steps two entering (local_of k) 0)

abbrev of_first : Revocation
of_first = record { object = 0; rebias = true; now = 0 }

first_due : Due (resumed 0 0 1)
unfolding is_idle steps_of read_safe read_mark read_hold read_wait
first_due =
    let k = resumed 0 0 1 in
    part_due two 7 true k (task.Enter 0 0) (bias_enter_steps two entering (local_of k) 0) (λ tried. enter_tried tried two entering (start_of 7 k) of_first)
    (part_due two 7 true k (task.Enter 0 0) (enter_going two entering (start_of 7 k) of_first) answer
    (record { after = end; is = inr (record { over = refl; may = refl; is = refl }) }))

second_due : Due (resumed 1 1 3)
unfolding is_idle steps_of read_safe read_mark read_hold read_wait
second_due =
    let k = resumed 1 1 3 in
    part_due two 7 true k (task.Enter 0 0) (bias_enter_steps two entering (local_of k) 0) (λ tried. enter_tried tried two entering (start_of 7 k) of_first)
    (part_due two 7 true k (task.Enter 0 0) (enter_going two entering (start_of 7 k) of_first) answer
    (record { after = end; is = inr (record { over = refl; may = refl; is = refl }) }))

may_enter : (h : HeapSeen) (k : ThreadView) (p : PassSeen) → Knows h k p → h.heap.biasing ≡ true → Due k → length k.log < 86 → MayEnter h p
may_enter h k p a biased due room =
    let heap = heap_is h k p true a biased in
    record {
      is_of = a.is_of;
      object = subst (λ (x : Heap). 0 < length x.shape.objects) (sym heap) (omega arith);
      due =
          subst (λ (x : Heap × ThreadView). IsDue x.0.shape x.0.start x.0.biasing x.1 (task.Enter 0 0) (bias_enter_steps x.0.shape entering (local_of x.1) 0))
          (λ i. (sym heap i, sym a.known i)) due;
      room = subst (λ (x : ThreadView × ℕ). length x.0.log < x.1) (λ i. (sym a.known i, sym a.limit i)) room;
    }

pub first_enters : (h : HeapSeen) (p : PassSeen) → Knows h (resumed 0 0 1) p → h.heap.biasing ≡ true → MayEnter h p
first_enters h p a biased = may_enter h (resumed 0 0 1) p a biased first_due (omega arith)

pub second_enters : (h : HeapSeen) (p : PassSeen) → Knows h (resumed 1 1 3) p → h.heap.biasing ≡ true → MayEnter h p
second_enters h p a biased = may_enter h (resumed 1 1 3) p a biased second_due (omega arith)
