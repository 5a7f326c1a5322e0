-- A turn of a thread of a small program in a heap of two threads: it refers to the object, which the other thread holds, and is to enter it.
use Rattle.std.specs.Prelude.{[], ◌∷◌, ◌++◌, replicate}
use Rattle.atomic_table.specs.Seated.{TableId}
use Rattle.mark_word.specs.declared.owner.OwnerForm.TheVariants.{ByRecord}
use Rattle.mark_word.specs.Owner.{owner_of}
use Rattle.core_world.specs.declared.answer.PendingCause.{PendingCause}
use Rattle.core_world.specs.declared.answer.PendingCause.TheVariants.{Owned}
use Rattle.core_world.specs.declared.heap_call.HeapCall.TheVariants.{Enter, Poll, Stop, Resume}
use Rattle.core_world.specs.World.{World}
use Rattle.plain_machine.specs.declared.monitor_call.MonitorCall.TheVariants as call
use Rattle.step_history.specs.Examples.{world_of, enters}
use Rattle.step_history.specs.Race.{rivals}
use Rattle.step_history.specs.Turns.{after_turns}
use Rattle.heap_table.specs.Seen.{HeapSeen}
use Rattle.thread_frame.specs.Frames.{FrameSeen, before_call}
use Rattle.thread_interp.specs.declared.moved.Moved.{Moved}
use Rattle.thread_interp.specs.declared.moved.RunState.TheVariants.{Blocked}
use Rattle.thread_interp.specs.Runners.{RunnerSeen}
use Rattle.small_runs.specs.Runs.{pass_of}
use Rattle.small_runs.specs.Turns.{turns_of, begun, halfway}

-- the heap in this table, with 16 entries a page
abbrev pub rivals_in : TableId → HeapSeen
rivals_in table = record { table = table; heap = rivals; room = 16 }

-- Thread 0 has entered the object, and stands still.
unfoldable pub taken : World
taken = world_of rivals (enters 0 ++ replicate 2 (0, Stop))

-- Thread 1 has resumed, polled, referred to the object, and polled; then its enter is pending, for which it has inflated the lock; and then it
-- stands still after the turn.
unfoldable pub arrived : World
arrived = after_turns (turns_of 1 (Resume ∷ Resume ∷ Poll ∷ Poll ∷ [])) taken

unfoldable pub pended : World
pended = after_turns (turns_of 1 (replicate 13 (Enter 0 0))) arrived

unfoldable pub kept_out : World
kept_out = after_turns (turns_of 1 (replicate 2 Stop)) pended

-- its frame after the turn: it stands before its enter
abbrev pub before_enter : FrameSeen
before_enter = before_call (record halfway { place = 1; fuel = 2 }) (call.Enter 0)

-- the runner of thread 1 before the turn, and after it
abbrev pub runner_of_rival : TableId → RunnerSeen
runner_of_rival table = record { pass = pass_of (rivals_in table) 1 taken; frame = begun; fuel = 3 }

abbrev pub runner_kept_out : TableId → RunnerSeen
runner_kept_out table = record { pass = pass_of (rivals_in table) 1 kept_out; frame = before_enter; fuel = 3 }

-- for what it is pending: a lock record of thread 0 owns the object; and what the turn did
abbrev pub other_owns : PendingCause
other_owns = Owned (owner_of (ByRecord 0 0))

abbrev pub finds_the_owner : Moved
finds_the_owner = record { instructions = 1; state = Blocked other_owns }
