-- What the parts of a turn do.
use Rattle.std.specs.Prelude.{◌≡◌, ◌⊎◌, ℕ, ◌+◌, ◌<◌, ◌≤◌, Bool, true, false, List, ◌++◌}
use Rattle.core_calls.specs.Causes.{is_stopping}
use Rattle.core_world.specs.declared.answer.Progress.{Progress}
use Rattle.core_world.specs.declared.answer.Progress.TheVariants.{Done, Pending}
use Rattle.core_world.specs.declared.answer.PendingCause.{PendingCause}
use Rattle.core_world.specs.declared.answer.PendingCause.TheVariants.{Stopping}
use Rattle.core_world.specs.declared.heap_call.HeapCall.TheVariants as task
use Rattle.core_world.specs.Threads.ThreadView.{ThreadView, StepMade}
use Rattle.core_world.specs.Threads.Stages.{one_if}
use Rattle.heap_table.specs.Seen.{HeapSeen, PassSeen}
use Rattle.lock_runtime.specs.Standing.{IsRunning, IsAsking, IsStopped, StandsAfterTurn}
use Rattle.object_program.specs.Program.{ProgramText}
use Rattle.thread_calls.specs.Advances.{DoneIn, PendedIn, HasStepped, HasSpent, HasFallen, MayAdvance}
use Rattle.thread_calls.specs.Between.{IsOn}
use Rattle.thread_frame.specs.Frames.{FrameSeen, unspent, has_ended}
use Rattle.thread_interp.specs.declared.moved.Moved.{Moved}
use Rattle.thread_interp.specs.declared.moved.RunState.{RunState}
use Rattle.thread_interp.specs.declared.moved.RunState.TheVariants.{Live, Blocked, Ended}
use Rattle.thread_interp.specs.Checks.{IsSetRunning}
use Rattle.thread_interp.specs.Moves.{CalledLast, polls_in}

-- the thread made steps, or none, which are now the first of its list
pub record HasAdded (p q : PassSeen) : Type 0 where
  pub steps : List StepMade
  pub added : q.known.steps ≡ steps ++ p.known.steps

-- SET RUNNING. It runs, or its request stands;
pub record IsSet (h : HeapSeen) (p q : PassSeen) : Type 0 where
  pub goes : IsRunning q.known ⊎ IsAsking q.known
  pub set : IsSetRunning p.known.requesting h p q
  pub added : HasAdded p q

-- or its resume was pending for this, and left the thread stopped
pub record StaysStopped (h : HeapSeen) (p q : PassSeen) (why : PendingCause) : Type 0 where
  pub stopped : IsStopped q.known
  pub other : is_stopping why ≡ false
  pub free : p.known.requesting ≡ false
  pub pended : PendedIn h why p q task.Resume
  pub stepped : HasStepped p q

abbrev pub StandsReady : HeapSeen → PassSeen → PassSeen → Progress (Unit {0}) → Type 0
StandsReady h p q (Done x) = IsSet h p q
StandsReady h p q (Pending why) = StaysStopped h p q why

-- the pass was p, and is q
pub record HasTriedToRun (h : HeapSeen) (text : ProgramText) (fuel : ℕ) (p q : PassSeen) (f : FrameSeen)
    (turn : Progress (Unit {0})) : Type 0 where
  pub on : IsOn h text fuel q f
  pub checking : q.known.checking ≡ p.known.checking
  pub asking : q.known.requesting ≡ p.known.requesting
  pub thread : q.known.thread ≡ p.known.thread
  pub log : q.known.log ≡ p.known.log
  pub stands : StandsReady h p q turn

-- A STEP OF A TURN: a poll where the thread runs, and then one instruction or entry. The pass and the frame were p and f, and are q and g.
abbrev pub CalledBy : HeapSeen → PassSeen → PassSeen → Progress Bool → Type 0
CalledBy h p q (Done b) = CalledLast (DoneIn h) h p q
CalledBy h p q (Pending why) = CalledLast (PendedIn h why) h p q

pub record HasPolled (h : HeapSeen) (text : ProgramText) (fuel : ℕ) (p q : PassSeen) (f g : FrameSeen)
    (turn : Progress Bool) : Type 0 where
  pub on : IsOn h text fuel q g
  pub unchecked : q.known.checking ≡ false
  pub thread : q.known.thread ≡ p.known.thread
  pub stands : StandsAfterTurn q.known turn
  pub spent : HasSpent f g turn
  pub fallen : HasFallen p q f g turn
  pub stepped : HasStepped p q
  pub polls : 1 ≤ polls_in stepped.steps + one_if p.known.requesting
  pub called : CalledBy h p q turn

-- GOING ON. The pass and the frame were p and f; so many instructions were done, and more may be.
pub record IsGoing (h : HeapSeen) (text : ProgramText) (fuel quantum : ℕ) (p q : PassSeen) (f g : FrameSeen)
    (count : ℕ) : Type 0 where
  pub may : MayAdvance h text fuel q g
  pub thread : q.known.thread ≡ p.known.thread
  pub spent : unspent f ≡ unspent g + count
  pub few : count < quantum
  pub added : HasAdded p q
  pub polls : count + one_if q.known.requesting ≤ polls_in added.steps + one_if p.known.requesting

-- GONE ON. As `IsState`, and the thread wasn't stopped yet.
abbrev pub IsGoneTo : HeapSeen → ℕ → ℕ → PassSeen → PassSeen → FrameSeen → RunState → Type 0
IsGoneTo h quantum count p q g Live = (count ≡ quantum) × (has_ended g ≡ false) × CalledLast (DoneIn h) h p q
IsGoneTo h quantum count p q g (Blocked why) = (has_ended g ≡ false) × CalledLast (PendedIn h why) h p q
IsGoneTo h quantum count p q g Ended = (has_ended g ≡ true) × CalledLast (DoneIn h) h p q

-- it runs, unless it is blocked for running threads: then its request stands
abbrev pub StandsGone : ThreadView → RunState → Type 0
StandsGone k (Blocked (Stopping word)) = IsAsking k
StandsGone k _ = IsRunning k

-- the pass and the frame were p and f, and are q and g
pub record HasGone (h : HeapSeen) (text : ProgramText) (fuel quantum : ℕ) (p q : PassSeen) (f g : FrameSeen)
    (m : Moved) : Type 0 where
  pub on : IsOn h text fuel q g
  pub unchecked : q.known.checking ≡ false
  pub thread : q.known.thread ≡ p.known.thread
  pub most : m.instructions ≤ quantum
  pub spent : unspent f ≡ unspent g + m.instructions
  pub stepped : HasStepped p q
  pub polls : m.instructions ≤ polls_in stepped.steps + one_if p.known.requesting
  pub state : IsGoneTo h quantum m.instructions p q g m.state
  pub stands : StandsGone q.known m.state

-- STOPPED. It didn't run, and nothing was done; or a stop was made, and it is stopped.
pub record HasKept (p q : PassSeen) : Type 0 where
  pub still : p.known.running ≡ false
  pub same : q ≡ p

pub record HasBeenStopped (h : HeapSeen) (p q : PassSeen) : Type 0 where
  pub ran_before : p.known.running ≡ true
  pub stopped : IsStopped q.known
  pub ran : DoneIn h p q task.Stop

pub record IsSetStopped (h : HeapSeen) (text : ProgramText) (fuel : ℕ) (p q : PassSeen) (f : FrameSeen) : Type 0 where
  pub on : IsOn h text fuel q f
  pub checking : q.known.checking ≡ p.known.checking
  pub thread : q.known.thread ≡ p.known.thread
  pub log : q.known.log ≡ p.known.log
  pub added : HasAdded p q
  pub stands : HasKept p q ⊎ HasBeenStopped h p q
