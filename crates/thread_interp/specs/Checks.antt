-- What a runner's check does, and how its thread stands after it.
use Rattle.std.specs.Prelude.{◌≡◌, ◌⊎◌, Bool, true, false}
use Rattle.core_calls.specs.Paths.{Tells}
use Rattle.core_calls.specs.Stuck.{CheckFinds}
use Rattle.core_world.specs.declared.answer.Progress.{Progress}
use Rattle.core_world.specs.declared.answer.Progress.TheVariants.{Done, Pending}
use Rattle.core_world.specs.declared.answer.PendingCause.TheVariants.{Stopping}
use Rattle.core_world.specs.declared.heap_call.HeapCall.TheVariants as task
use Rattle.core_world.specs.Threads.ThreadView.{ThreadView}
use Rattle.core_world.specs.Trees.Operations.{check_steps}
use Rattle.heap_table.specs.Resting.{start_now}
use Rattle.heap_table.specs.Seen.{HeapSeen, PassSeen}
use Rattle.lock_runtime.specs.Standing.{IsStopped, IsAsking, HasHalted}
use Rattle.thread_calls.specs.Advances.{RanFrom, DoneIn, PendedIn}
use Rattle.thread_interp.specs.Moves.{IsSetStill}

-- HOW IT LOOKS. The thread, which is stopped, is set running by a resume, unless its request stands.
abbrev pub IsSetRunning : Bool → HeapSeen → PassSeen → PassSeen → Type 0
IsSetRunning true h p q = q ≡ p
IsSetRunning false h p q = DoneIn h p q task.Resume

-- Then the steps of a check came to this answer, which says what they found; and a thread that runs after them is stopped.
pub record HasLooked (h : HeapSeen) (p q : PassSeen) (answer : Progress Bool) : Type 0 where
  pub ready : PassSeen
  pub after : PassSeen
  pub set_running : IsSetRunning p.known.requesting h p ready
  pub ran : RanFrom h (check_steps h.heap.shape (start_now h ready)) ready after answer
  pub finds : Tells ready.known after.known (λ ms. CheckFinds h.heap.shape ms answer)
  pub set_still : IsSetStill after.known.running h after q

-- or the resume was pending for this, and nothing else was done
abbrev pub IsBarred : HeapSeen → PassSeen → PassSeen → Progress Bool → Type 0
IsBarred h p q (Done stuck) = ⊥
IsBarred h p q (Pending why) = (p.known.requesting ≡ false) × PendedIn h why p q task.Resume

abbrev pub LooksOrBarred : HeapSeen → PassSeen → PassSeen → Progress Bool → Type 0
LooksOrBarred h p q answer = HasLooked h p q answer ⊎ IsBarred h p q answer

-- HOW IT STANDS. Pending for running threads, its request stands, and the check is unfinished;
pub record IsChecking (k : ThreadView) : Type 0 where
  pub asking : IsAsking k
  pub unfinished : k.checking ≡ true

-- else it is over, and the thread stopped
pub record HasChecked (k : ThreadView) : Type 0 where
  pub stopped : IsStopped k
  pub over : k.checking ≡ false

abbrev pub StandsAfterCheck : ThreadView → Progress Bool → Type 0
StandsAfterCheck k (Done true) = HasHalted k × HasChecked k
StandsAfterCheck k (Done false) = HasChecked k
StandsAfterCheck k (Pending (Stopping word)) = IsChecking k
StandsAfterCheck k (Pending _) = HasChecked k
