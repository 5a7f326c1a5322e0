-- A call is of one thread.
use Rattle.std.proofs.Common.{◌≡◌, ℕ, List, Option, Some, None, ap, ◌∙◌}
use Rattle.core_world.specs.Due.{Runs}
use Rattle.core_world.specs.Steps.{known_after}
use Rattle.core_world.specs.Threads.ThreadView.{ThreadView, StepMade}
use Rattle.core_world.specs.Trees.StepTree.{StepTree, done, unreachable, step}
use Rattle.core_world.specs.Words.Shape.{Shape}
use Rattle.core_world.specs.declared.heap_call.HeapCall.{HeapCall}
use Rattle.core_world.specs.declared.heap_call.HeapCall.TheVariants as task
use Rattle.heap_table.specs.Seen.{HeapSeen, PassSeen}
use Rattle.heap_table.proofs.Knows.{same_thread}
use Rattle.lock_runtime_c.specs.Told.{barred, HasResult, IsMade, Told, ToldBy}
use Rattle.lock_runtime_c.specs.declared.outcome.Outcome.{Outcome}

steps_thread : {A : Type 0} (s : Shape) (start : ℕ) (d : StepTree A) (k l : ThreadView) (a : A) → Runs s start d k l a → l.thread ≡ k.thread
steps_thread s start (done b) k l a run = ap (λ (x : ThreadView). x.thread) run.0
steps_thread s start unreachable k l a run = absurd run
steps_thread s start (step p f) k l a run = steps_thread s start (f run.0) (known_after s start p run.0 k) l a run.1 ∙ same_thread s start p run.0 k

module _ (h : HeapSeen) (p q : PassSeen) (out : Outcome) where
  of_result : {R : Type 0} (d : StepTree R) (says : List StepMade → R → Type 0) (leaves : R → Type 0) (told : R → Outcome)
      → HasResult h d says leaves told p q out
      → q.known.thread ≡ p.known.thread
  of_result d says leaves told m = steps_thread h.heap.shape h.heap.start d p.known q.known m.0 m.2.by

  made_thread : (t : HeapCall) → IsMade h t p q out → q.known.thread ≡ p.known.thread
  made_thread (task.Enter o now) m = of_result _ _ _ _ m
  made_thread (task.Exit o) m = of_result _ _ _ _ m
  made_thread (task.Wait o now) m = of_result _ _ _ _ m
  made_thread (task.Notify o now) m = of_result _ _ _ _ m
  made_thread (task.NotifyAll o now) m = of_result _ _ _ _ m
  made_thread (task.Hash o now) m = of_result _ _ _ _ m
  made_thread (task.Get o slot) m = of_result _ _ _ _ m
  made_thread (task.Put o slot v) m = of_result _ _ _ _ m
  made_thread (task.Print v) m = of_result _ _ _ _ m
  made_thread task.Dump m = of_result _ _ _ _ m
  made_thread (task.Create c) m = absurd m
  made_thread (task.Finish e) m = of_result _ _ _ _ m
  made_thread task.Poll m = of_result _ _ _ _ m
  made_thread task.Stop m = of_result _ _ _ _ m
  made_thread task.Resume m = of_result _ _ _ _ m
  made_thread task.Check m = of_result _ _ _ _ m
  made_thread (task.StackEnter o mark) m = absurd m
  made_thread (task.StackExit o) m = absurd m
  made_thread task.Request m = absurd m
  made_thread task.Reached m = absurd m
  made_thread task.Release m = absurd m

  told_by : (why : Option Outcome) (t : HeapCall) → ToldBy why h t p q out → q.known.thread ≡ p.known.thread
  told_by (Some why) t told = ap (λ (x : PassSeen). x.known.thread) told.1
  told_by None t told = made_thread t told.1

  pub told_thread : (t : HeapCall) → Told h t p q out → q.known.thread ≡ p.known.thread
  told_thread t told = told_by (barred h p t) t told
