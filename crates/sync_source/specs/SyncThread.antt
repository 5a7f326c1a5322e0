-- How a thread of a program with blocks runs: what is left for it to do, and what one unit of fuel does of that. What an instruction does is
-- said by the plain machine, and so are calls, entries, holds and endings.
use Rattle.std.specs.Prelude.{ℕ, zero, suc, ◌+◌, ◌-◌, int_lt, Bool, if◌then◌else◌, Option, option_and_then}
use Rattle.plain_monitor.specs.declared.entry.Value.{Value}
use Rattle.plain_monitor.specs.declared.entry.Value.TheVariants.{Int}
use Rattle.plain_monitor.specs.declared.entry.Fault.TheVariants.{NotInt}
use Rattle.plain_monitor.specs.declared.entry.Ending.{Ending}
use Rattle.plain_monitor.specs.declared.entry.Ending.TheVariants as ending
use Rattle.plain_monitor.specs.declared.entry.Entry.{Entry}
use Rattle.plain_monitor.specs.declared.entry.Entry.TheVariants.{Trap}
use Rattle.plain_monitor.specs.Monitor.{only_if}
use Rattle.plain_monitor.specs.Objects.{same_value}
use Rattle.object_program.specs.Program.{ProgramText}
use Rattle.object_program.specs.declared.program.Code.TheVariants as instr
use Rattle.plain_machine.specs.declared.monitor_call.MonitorCall.{MonitorCall}
use Rattle.plain_machine.specs.declared.monitor_call.MonitorCall.TheVariants as call
use Rattle.plain_machine.specs.declared.monitor_call.Mode.TheVariants.{Calling, Waiting, Unwinding, Ended}
use Rattle.plain_machine.specs.declared.monitor_call.NextEntry.{NextEntry}
use Rattle.plain_machine.specs.declared.monitor_call.NextEntry.TheVariants.{Calls, Resumes, Leaves, Ends}
use Rattle.plain_machine.specs.Thread.{ThreadState, Step, Goes, Stops, local, step_of}
use Rattle.plain_machine.specs.Thread as thread
use Rattle.plain_machine.specs.Asking.{ask, fits, answered, holds_less}
use Rattle.sync_source.specs.declared.source.Test.{Test}
use Rattle.sync_source.specs.Source.{Statements, Nothing, Plain, Sync, If, While}

-- what is left for a thread to do
pub data Left : Type 0 where
  -- nothing
  Over : Left
  -- these statements, and then the rest
  Runs : Statements → Left → Left
  -- to exit the monitor that a `sync` on this local entered, and then the rest
  Exits : ℕ → Left → Left
  -- to pay one fuel, and then the rest
  Pays : Left → Left

-- a thread: what is left for it to do, after the call that it stands before if it stands before one, and its locals, fuel, holds, dumps and
-- mode. It has no place in code, so the place is 0
pub record SyncState : Type 0 where
  pub left : Left
  pub thread : ThreadState

-- what a unit, which costs one fuel, leads to: what is left then, a call that the thread stands before with what is left after it, or its end
pub data SyncStep : Type 0 where
  GoesOn : Left → ThreadState → SyncStep
  StandsBefore : MonitorCall → Left → SyncStep
  StopsBy : Ending → SyncStep

-- an ending without the index of a trap: there are no instructions that an index could number
abbrev pub unplaced : Ending → Ending
unplaced (ending.Trap f i) = ending.Trap f 0
unplaced ending.Spent = ending.Spent
unplaced ending.Done = ending.Done

-- the entry with this index, where it is a trap
abbrev pub with_index : ℕ → Entry → Entry
with_index i (Trap f j) = Trap f i
with_index i e = e

-- what an instruction does, and then this is left
abbrev pub then_left : Left → Step → SyncStep
then_left left (Goes next) = GoesOn left (record next { place = 0 })
then_left left (thread.Calls c) = StandsBefore c left
then_left left (Stops e) = StopsBy (unplaced e)

-- what is left where a test holds, or where it is missed
abbrev pub chooses : Bool → ThreadState → Left → Left → SyncStep
chooses holds s held missed = GoesOn (if holds then held else missed) s

-- whether one value is below another is a question of numbers alone
abbrev pub chooses_below : ThreadState → Value → Value → Left → Left → SyncStep
chooses_below s (Int y) (Int z) held missed = chooses (int_lt y z) s held missed
chooses_below s v w held missed = StopsBy (ending.Trap NotInt 0)

abbrev pub chooses_by : Bool → ThreadState → Value → Value → Left → Left → SyncStep
chooses_by equal s v w held missed =
    if equal then chooses (same_value v w) s held missed else chooses_below s v w held missed

abbrev pub tests : Test → ThreadState → Left → Left → SyncStep
tests t s held missed = chooses_by t.equal s (local s t.x) (local s t.y) held missed

-- one unit of what is left. An empty block is none. Where an `if` is missed, one more is paid after its `else`; and one more for each pass
-- of a `while`, and where it is missed
abbrev pub sync_step : ProgramText → ThreadState → Left → SyncStep
sync_step p s Over = StopsBy ending.Done
sync_step p s (Runs Nothing left) = sync_step p s left
sync_step p s (Runs (Plain c rest) left) = then_left (Runs rest left) (step_of p s c)
sync_step p s (Runs (Sync x body rest) left) =
    then_left (Runs body (Exits x (Runs rest left))) (step_of p s (instr.Enter x))
sync_step p s (Runs (If t body other rest) left) =
    tests t s (Runs body (Runs rest left)) (Runs other (Pays (Runs rest left)))
sync_step p s (Runs (While t body rest) left) =
    tests t s (Runs body (Pays (Runs (While t body rest) left))) (Pays (Runs rest left))
sync_step p s (Exits x left) = then_left left (step_of p s (instr.Exit x))
sync_step p s (Pays left) = GoesOn left s

-- the thread after a unit, with n fuel left then; a call is paid for when it is made
abbrev pub after_sync_step : ThreadState → ℕ → SyncStep → (Left → ThreadState → SyncState) → SyncState
after_sync_step s n (GoesOn left next) go_on = go_on left next
after_sync_step s n (StandsBefore c left) go_on =
    record { left = left; thread = record s { fuel = n + 1; mode = Calling c } }
after_sync_step s n (StopsBy e) go_on = record { left = Over; thread = record s { fuel = n; mode = Unwinding e } }

-- runs a thread that has this much fuel, up to the call that it stands before, or to its end: where no fuel is left before a unit it is spent
unfoldable pub sync_run : ProgramText → ℕ → Left → ThreadState → SyncState
sync_run p zero left s = record { left = Over; thread = record s { fuel = 0; mode = Unwinding ending.Spent } }
sync_run p (suc n) left s = after_sync_step s n (sync_step p s left) (λ next t. sync_run p n next t)

-- after the call, which is paid for: a thread that waits stands still, each other runs on
abbrev pub sync_after_call : ProgramText → SyncState → MonitorCall → Entry → SyncState
sync_after_call p s (call.Wait o) e =
    record s { thread = record (s.thread) { fuel = s.thread.fuel - 1; mode = Waiting o } }
sync_after_call p s c e = sync_run p (s.thread.fuel - 1) s.left (answered s.thread c e)

-- the thread after an entry that is what it asked
abbrev pub sync_after_entry : ProgramText → SyncState → NextEntry → Entry → SyncState
sync_after_entry p s (Calls c) e = sync_after_call p s c e
sync_after_entry p s (Resumes o) e = sync_run p s.thread.fuel s.left s.thread
sync_after_entry p s (Leaves o) e = record s { thread = holds_less s.thread o }
sync_after_entry p s (Ends e) entry = record s { thread = record (s.thread) { mode = Ended e } }

-- the thread after an entry whose trap has no index, where it asks for it
abbrev pub sync_accepts : ProgramText → SyncState → Entry → Option SyncState
sync_accepts p s e = option_and_then (λ asked. only_if (fits asked e) (sync_after_entry p s asked e)) (ask s.thread)

-- the thread after an entry, where it asks for it; the index of a trap isn't looked at
abbrev pub sync_thread_after : ProgramText → SyncState → Entry → Option SyncState
sync_thread_after p s e = sync_accepts p s (with_index 0 e)
