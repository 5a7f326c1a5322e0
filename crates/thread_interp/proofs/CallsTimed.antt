-- The calls around a turn take no moment: they leave their pass timed.
use Rattle.std.proofs.Common.{ℕ, Bool, refl}
use Rattle.core_world.specs.declared.answer.Progress.{Progress}
use Rattle.core_world.specs.declared.heap_call.HeapCall.TheVariants as task
use Rattle.core_world.specs.Trees.Calls.{side_context}
use Rattle.core_world.specs.Trees.Operations.{check_steps}
use Rattle.core_world.specs.Trees.SafepointSteps.{poll_steps, stop_steps, resume_steps}
use Rattle.heap_table.specs.Parts.{HasMadeSteps}
use Rattle.heap_table.specs.Resting.{start_now}
use Rattle.heap_table.specs.Seen.{HeapSeen, PassSeen}
use Rattle.core_calls.proofs.Called.{called}
use Rattle.core_calls.proofs.NamedCalls.{check_named, poll_named, stop_named, resume_named}
use Rattle.thread_calls.specs.Timed.{StaysTimed}
use Rattle.thread_calls.proofs.OnTime.{timed_still}

module _ (h : HeapSeen) (p q : PassSeen) where
  pub poll_timed : (turn : Progress (Unit {0})) → HasMadeSteps h (poll_steps (side_context task.Poll (start_now h p))) p q turn → (tick : ℕ)
      → StaysTimed tick p q
  poll_timed turn run tick =
      timed_still tick task.Poll p.known q.known refl (called (poll_named (side_context task.Poll (start_now h p))) run.ran)

  pub stop_timed : HasMadeSteps h (stop_steps (side_context task.Stop (start_now h p)) (start_now h p).local) p q tt → (tick : ℕ)
      → StaysTimed tick p q
  stop_timed run tick =
      timed_still tick task.Stop p.known q.known refl
      (called (stop_named (side_context task.Stop (start_now h p)) (start_now h p).local) run.ran)

  pub resume_timed : (turn : Progress (Unit {0}))
      → HasMadeSteps h (resume_steps (side_context task.Resume (start_now h p)) (start_now h p).local) p q turn → (tick : ℕ)
      → StaysTimed tick p q
  resume_timed turn run tick =
      timed_still tick task.Resume p.known q.known refl
      (called (resume_named (side_context task.Resume (start_now h p)) (start_now h p).local) run.ran)

  pub check_timed : (turn : Progress Bool) → HasMadeSteps h (check_steps h.heap.shape (start_now h p)) p q turn → (tick : ℕ) → StaysTimed tick p q
  check_timed turn run tick =
      timed_still tick task.Check p.known q.known refl (called (check_named h.heap.shape (start_now h p)) run.ran)
