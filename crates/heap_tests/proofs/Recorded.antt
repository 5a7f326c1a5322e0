-- The threads of the tests may enter where they do.
use Rattle.std.proofs.Common.{◌≡◌, ℕ, ◌<◌, ◌==◌, ◌&&◌, eqb-true, if◌then◌else◌, Bool, true, false, length, refl, sym, ap, ◌∙◌, subst, arith, inr}
use Rattle.mark_word.specs.Hold.{read_hold}
use Rattle.mark_word.specs.Mark.{read_mark}
use Rattle.mark_word.specs.Safe.{read_safe}
use Rattle.mark_word.specs.Wait.{read_wait}
use Rattle.plain_monitor.specs.declared.entry.Path.{Path}
use Rattle.plain_monitor.specs.declared.entry.Path.TheVariants.{StackFirst}
use Rattle.core_world.specs.declared.answer.Progress.{Progress}
use Rattle.core_world.specs.declared.answer.Progress.TheVariants.{Done}
use Rattle.core_world.specs.declared.answer.PendingCause.TheVariants as why
use Rattle.core_world.specs.declared.stage.Stage.TheVariants.{Settled}
use Rattle.core_world.specs.declared.heap_call.HeapCall.TheVariants as task
use Rattle.core_world.specs.Due.{Runs}
use Rattle.core_world.specs.Steps.{known_after, is_idle}
use Rattle.core_world.specs.Threads.ThreadView.{ThreadView, local_of, start_of}
use Rattle.core_world.specs.Threads.Stages.{is_calm}
use Rattle.core_world.specs.Trees.Calls.{steps_of, may_begin, end}
use Rattle.core_world.specs.Trees.LockSteps.{displace_plan, seize_plan, hold_plan, log_enter_plan, hold_steps, stack_enter_steps}
use Rattle.core_world.specs.Trees.Operations.{lone_context}
use Rattle.core_world.specs.Trees.Plans.{CallContext, done_with, pending_for}
use Rattle.core_world.specs.Trees.StepTree.{◌>>=◌}
use Rattle.core_world.specs.Words.Shape.{Shape}
use Rattle.core_law.specs.Logic.{Heap}
use Rattle.heap_table.specs.Parts.{IsDueOn, HasMadeSteps}
use Rattle.heap_table.specs.Seen.{HeapSeen, PassSeen}
use Rattle.heap_tests.specs.Known.{two, resumed, Knows}
use Rattle.heap_tests.specs.Recorded.{MayEnter}
use Rattle.heap_tests.proofs.Known.{heap_is}

-- What such a thread may begin is due.
abbrev pub entering : ℕ → CallContext
entering mark = lone_context (task.StackEnter 0 mark)

abbrev pub May : ThreadView → ℕ → Type 0
May k mark = (is_idle two k ≡ true) × ((is_calm k.stage && may_begin two false k (task.StackEnter 0 mark)) ≡ true) × (length k.log < 86)

steps_are : (s : Shape) (start : ℕ) (k : ThreadView) (mark : ℕ)
    → steps_of s (task.StackEnter 0 mark) (start_of start k) ≡ (stack_enter_steps (entering mark) (local_of k) 0 mark >>= end)
unfolding steps_of
steps_are s start k mark = refl

pub due : (h : HeapSeen) (p : PassSeen) (mark : ℕ) → MayEnter h p mark
    → IsDueOn h p (task.StackEnter 0 mark) (stack_enter_steps (entering mark) (local_of p.known) 0 mark)
due h p mark a =
    record {
      after = end;
      is = inr (record {
        over = ap (λ (x : Heap). is_idle x.shape p.known) a.heap ∙ a.over;
        may = ap (λ (x : Heap). is_calm p.known.stage && may_begin x.shape x.biasing p.known (task.StackEnter 0 mark)) a.heap ∙ a.may;
        is = steps_are h.heap.shape h.heap.start p.known mark;
      });
    }

first_may : May (resumed 0 0 1) 1
unfolding is_idle steps_of read_safe read_mark read_hold
first_may = (refl, refl, omega arith)

second_may : May (resumed 1 1 3) 1
unfolding is_idle steps_of read_safe read_mark read_hold
second_may = (refl, refl, omega arith)

may_enter : (h : HeapSeen) (k : ThreadView) (p : PassSeen) (mark : ℕ) → Knows h k p → h.heap.biasing ≡ false → May k mark → MayEnter h p mark
may_enter h k p mark a plain may =
    let there = subst (λ (x : ThreadView). May x mark) (sym a.known) may in
    record {
      is_of = a.is_of;
      heap = heap_is h k p false a plain;
      over = there.0;
      may = there.1;
      room = subst (λ n. length p.known.log < n) (sym a.limit) there.2;
    }

pub first_enters : (h : HeapSeen) (p : PassSeen) → Knows h (resumed 0 0 1) p → h.heap.biasing ≡ false → MayEnter h p 1
first_enters h p a plain = may_enter h (resumed 0 0 1) p 1 a plain first_may

pub second_enters : (h : HeapSeen) (p : PassSeen) → Knows h (resumed 1 1 3) p → h.heap.biasing ≡ false → MayEnter h p 1
second_enters h p a plain = may_enter h (resumed 1 1 3) p 1 a plain second_may

-- and then the first thread may enter once more
abbrev seized : ℕ → ℕ → ThreadView
seized a b = known_after two 7 (seize_plan (entering 1) 0 0 1 0) b (known_after two 7 (displace_plan (entering 1) Settled 0 0 1) a (resumed 0 0 1))

abbrev held : ℕ → ℕ → ℕ → ThreadView
held a c d = known_after two 7 (log_enter_plan (entering 1) 0 StackFirst) d (known_after two 7 (hold_plan (entering 1) 0 0 1 0 StackFirst) c (seized a 1))

again_may : (a c d : ℕ) → May (held a c d) 4096
unfolding is_idle steps_of read_safe read_mark read_hold read_wait
again_may a c d = (refl, refl, omega arith)

first_ran : (l : ThreadView) (path : Path)
    → Runs two 7 (stack_enter_steps (entering 1) (local_of (resumed 0 0 1)) 0 1) (resumed 0 0 1) l (Done path) → May l 4096
unfolding read_safe read_mark read_hold read_wait
first_ran l path (a, (b, rest)) = by (b == 1) refl rest
  where
    by : (t : Bool) → (b == 1) ≡ t
        → Runs two 7 (if t then (hold_steps (entering 1) (local_of (resumed 0 0 1)) 0 StackFirst >>= done_with) else pending_for (why.Raced 1 b))
        (seized a b) l (Done path) → May l 4096
    by false e run = let no = run.1 in absurd (cc no)
    by true e (c, (d, run)) =
        let one : b ≡ 1 = eqb-true b 1 e in
        let is : l ≡ held a c d = run.0 ∙ λ i. known_after two 7 (log_enter_plan (entering 1) 0 StackFirst) d
        (known_after two 7 (hold_plan (entering 1) 0 0 1 0 StackFirst) c (seized a (one i))) in
        subst (λ (x : ThreadView). May x 4096) (sym is) (again_may a c d)

pub first_again : (h : HeapSeen) (p q : PassSeen) (r : Progress Path) → Knows h (resumed 0 0 1) p → h.heap.biasing ≡ false
    → HasMadeSteps h (stack_enter_steps (entering 1) (local_of p.known) 0 1) p q r
    → (path : Path) → r ≡ Done path → MayEnter h q 4096
first_again h p q r a plain run path e =
    let ran = subst (λ (x : Shape × ℕ × ThreadView × Progress Path). Runs x.0 x.1 (stack_enter_steps (entering 1) (local_of x.2) 0 1) x.2 q.known x.3)
    (λ i. (a.shape i, a.start i, a.known i, e i)) run.ran.by in
    let may = first_ran q.known path ran in
    record {
      is_of = run.heap;
      heap = heap_is h (resumed 0 0 1) p false a plain;
      over = may.0;
      may = may.1;
      room = subst (λ n. length q.known.log < n) (sym (run.limit ∙ a.limit)) may.2;
    }
