-- What a turn does.
use Rattle.std.specs.Prelude.{◌≡◌, ℕ, ◌+◌, ◌≤◌, Bool, true, false, List, [], ◌∷◌, ◌++◌}
use Rattle.core_world.specs.declared.answer.PendingCause.TheVariants.{Stopping}
use Rattle.core_world.specs.declared.heap_call.HeapCall.{HeapCall}
use Rattle.core_world.specs.declared.heap_call.HeapCall.TheVariants as task
use Rattle.core_world.specs.Threads.ThreadView.{ThreadView, StepMade}
use Rattle.core_world.specs.Threads.Stages.{one_if}
use Rattle.heap_table.specs.Resting.{Rests}
use Rattle.heap_table.specs.Seen.{HeapSeen, PassSeen}
use Rattle.lock_runtime.specs.Standing.{IsAsking, IsStopped}
use Rattle.thread_calls.specs.Advances.{DoneIn, PendedIn, HasStepped, MadeCall}
use Rattle.thread_frame.specs.Frames.{unspent, has_ended}
use Rattle.thread_interp.specs.declared.moved.Moved.{Moved}
use Rattle.thread_interp.specs.declared.moved.RunState.{RunState}
use Rattle.thread_interp.specs.declared.moved.RunState.TheVariants.{Live, Blocked, Ended}
use Rattle.thread_interp.specs.Runners.{RunnerSeen}

-- after a turn the request stands exactly where the thread is blocked for running threads
abbrev pub StandsAfter : ThreadView → RunState → Type 0
StandsAfter k (Blocked (Stopping word)) = IsAsking k
StandsAfter k _ = IsStopped k

-- the pass was p, and is q after a stop, which is made where the thread runs
abbrev pub IsSetStill : Bool → HeapSeen → PassSeen → PassSeen → Type 0
IsSetStill true h p q = DoneIn h p q task.Stop
IsSetStill false h p q = q ≡ p

-- From the pass p to q the thread's last call was one of which this holds. It was begun at rest, after all steps that the thread had made at p.
pub record CalledLast (Is : PassSeen → PassSeen → HeapCall → Type 0) (h : HeapSeen) (p q : PassSeen) : Type 0 where
  pub before : PassSeen
  pub rests : Rests h before
  pub call : MadeCall Is before q
  pub earlier : List StepMade
  pub begun : before.known.steps ≡ earlier ++ p.known.steps

-- a turn's last call, but for a stop after it
pub record LastCall (Is : PassSeen → PassSeen → HeapCall → Type 0) (h : HeapSeen) (p q : PassSeen) : Type 0 where
  pub after : PassSeen
  pub called : CalledLast Is h p after
  pub still : IsSetStill after.known.running h after q

-- A turn that is live did as many instructions as it might; it has ended exactly where the thread has. Its last call was done then, and it is blocked
-- where its last call was pending, for that.
abbrev pub IsState : HeapSeen → ℕ → ℕ → PassSeen → RunnerSeen → RunState → Type 0
IsState h quantum count p q Live = (count ≡ quantum) × (has_ended q.frame ≡ false) × LastCall (DoneIn h) h p q.pass
IsState h quantum count p q (Blocked why) = (has_ended q.frame ≡ false) × LastCall (PendedIn h why) h p q.pass
IsState h quantum count p q Ended = (has_ended q.frame ≡ true) × LastCall (DoneIn h) h p q.pass

-- how many of these steps are polls, each of which is one load
abbrev pub is_poll : HeapCall → Bool
is_poll task.Poll = true
is_poll _ = false

abbrev pub polls_in : List StepMade → ℕ
polls_in [] = 0
polls_in (m ∷ ms) = one_if (is_poll m.plan.task) + polls_in ms

-- At most so many instructions were done, and for these fuel was spent. The turn made a step at least, and as many polls as instructions, or one less
-- where its thread's request stood.
pub record HasMoved (h : HeapSeen) (quantum : ℕ) (r q : RunnerSeen) (m : Moved) : Type 0 where
  pub most : m.instructions ≤ quantum
  pub spent : unspent r.frame ≡ unspent q.frame + m.instructions
  pub stepped : HasStepped r.pass q.pass
  pub polls : m.instructions ≤ polls_in stepped.steps + one_if r.pass.known.requesting
  pub state : IsState h quantum m.instructions r.pass q m.state
  pub stands : StandsAfter q.pass.known m.state
