-- Turns of the thread of a small program: it refers to its object, enters it and leaves it, and has fuel for these three instructions.
use Rattle.std.specs.Prelude.{ℕ, List, [], ◌∷◌, ◌++◌, replicate, Some}
use Rattle.atomic_table.specs.Seated.{TableId}
use Rattle.mark_word.specs.declared.wait.WaitForm.TheVariants as form
use Rattle.mark_word.specs.Wait.{wait_of}
use Rattle.plain_monitor.specs.declared.entry.Ending.TheVariants.{Spent}
use Rattle.plain_monitor.specs.declared.entry.Value.TheVariants.{Nil, Ref}
use Rattle.core_world.specs.declared.answer.PendingCause.{PendingCause}
use Rattle.core_world.specs.declared.answer.PendingCause.TheVariants.{NotNotified, Halted}
use Rattle.core_world.specs.declared.heap_call.HeapCall.{HeapCall}
use Rattle.core_world.specs.declared.heap_call.HeapCall.TheVariants.{Enter, Exit, Wait, Finish, Poll, Stop, Resume}
use Rattle.core_world.specs.World.{World}
use Rattle.plain_machine.specs.declared.monitor_call.Mode.TheVariants.{Ended, Waiting}
use Rattle.step_history.specs.Examples.{lone, world_of, halts}
use Rattle.step_history.specs.Turns.{after_turns}
use Rattle.thread_frame.specs.Frames.{FrameSeen, first_frame}
use Rattle.thread_interp.specs.declared.moved.Moved.{Moved}
use Rattle.thread_interp.specs.declared.moved.RunState.TheVariants.{Blocked, Ended as Has_ended}
use Rattle.thread_interp.specs.Runners.{RunnerSeen}
use Rattle.small_runs.specs.Runs.{lone_in, pass_in}

-- these calls of thread t, one for each of their steps
abbrev pub turns_of : ℕ → List HeapCall → List (ℕ × HeapCall)
turns_of t [] = []
turns_of t (c ∷ cs) = (t, c) ∷ turns_of t cs

-- A turn of two instructions, before each of which the thread polls. It has resumed, and referred to the object; then it has entered that; and then
-- it stands still after the turn.
unfoldable pub polled : World
polled = world_of lone (turns_of 0 (Resume ∷ Resume ∷ Poll ∷ Poll ∷ []))

unfoldable pub entered : World
entered = after_turns (turns_of 0 (replicate 5 (Enter 0 0))) polled

unfoldable pub turned : World
turned = after_turns (turns_of 0 (replicate 2 Stop)) entered

-- And the next turn, its last: the thread has left the object, and polled; then it has ended, as its fuel is spent; and then it stands still.
unfoldable pub left : World
left = after_turns (turns_of 0 (Resume ∷ Resume ∷ Poll ∷ replicate 7 (Exit 0) ++ Poll ∷ [])) turned

unfoldable pub finished : World
finished = after_turns (turns_of 0 (replicate 2 (Finish Spent))) left

unfoldable pub ended : World
ended = after_turns (turns_of 0 (replicate 2 Stop)) finished

-- Or it waits instead of leaving: it has resumed, and polled; then its wait has let go, and is pending; and then it stands still.
unfoldable pub resumed : World
resumed = after_turns (turns_of 0 (Resume ∷ Resume ∷ Poll ∷ [])) turned

unfoldable pub let_go : World
let_go = after_turns (turns_of 0 (replicate 20 (Wait 0 0))) resumed

unfoldable pub waited : World
waited = after_turns (turns_of 0 (replicate 2 Stop)) let_go

-- The run is halted, where the thread waits; and then it has made one step of a resume.
unfoldable pub halted : World
halted = world_of lone (halts 0)

unfoldable pub barred : World
barred = after_turns (turns_of 0 (Resume ∷ [])) halted

-- its frame before the first turn, after it, and after the last one; and where it waits instead of leaving
abbrev pub begun : FrameSeen
begun = first_frame 3

abbrev pub halfway : FrameSeen
halfway = record begun { place = 2; locals = Ref 0 ∷ replicate 31 Nil; fuel = 1 }

abbrev pub spent : FrameSeen
spent = record halfway { place = 3; fuel = 0; mode = Some (Ended Spent) }

abbrev pub waiting : FrameSeen
waiting = record halfway { place = 3; fuel = 0; mode = Some (Waiting 0) }

-- the runner of the heap's thread, with this frame, where the thread knows what it does in this world
abbrev pub runner_in : TableId → World → FrameSeen → RunnerSeen
runner_in table w frame = record { pass = pass_in (lone_in table) w; frame = frame; fuel = 3 }

-- before the first turn, after it, and after the last one; after the wait; and before and after the step that finds the halt
abbrev pub runner_at_first : TableId → RunnerSeen
runner_at_first table = runner_in table (world_of lone []) begun

abbrev pub runner_halfway : TableId → RunnerSeen
runner_halfway table = runner_in table turned halfway

abbrev pub runner_at_end : TableId → RunnerSeen
runner_at_end table = runner_in table ended spent

abbrev pub runner_waiting : TableId → RunnerSeen
runner_waiting table = runner_in table waited waiting

abbrev pub runner_halted : TableId → RunnerSeen
runner_halted table = runner_in table halted waiting

abbrev pub runner_barred : TableId → RunnerSeen
runner_barred table = runner_in table barred waiting

-- for what the wait is pending: the thread still waits, since the wait with this stamp
abbrev pub not_notified : PendingCause
not_notified = NotNotified (wait_of (form.Waiting 0 2))

-- what the last turn did, the one that waits, and the one that finds the halt
abbrev pub ends : Moved
ends = record { instructions = 1; state = Has_ended }

abbrev pub lets_go : Moved
lets_go = record { instructions = 0; state = Blocked not_notified }

abbrev pub finds_the_halt : Moved
finds_the_halt = record { instructions = 0; state = Blocked Halted }
