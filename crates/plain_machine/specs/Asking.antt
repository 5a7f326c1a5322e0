-- What a thread has to make next, which entries fit that, and the thread after an entry.
use Rattle.std.specs.Prelude.{ℕ, pos, ◌+◌, ◌-◌, Bool, true, false, ◌&&◌, ◌==◌, nat_le, if◌then◌else◌}
use Rattle.std.specs.Prelude.{List, [], ◌∷◌, slice_set, Option, Some, None, option_and_then}
use Rattle.plain_monitor.specs.declared.entry.Value.TheVariants.{Int, Ref}
use Rattle.plain_monitor.specs.declared.entry.Fault.{Fault}
use Rattle.plain_monitor.specs.declared.entry.Fault.TheVariants.{IllegalMonitorState, Unguarded, NotRef, NotInt}
use Rattle.plain_monitor.specs.declared.entry.Fault.TheVariants.{Range, Overflow, TooDeep, TooManyDumps, TooMany}
use Rattle.plain_monitor.specs.declared.entry.Ending.{Ending}
use Rattle.plain_monitor.specs.declared.entry.Ending.TheVariants as ending
use Rattle.plain_monitor.specs.declared.entry.Entry.{Entry}
use Rattle.plain_monitor.specs.declared.entry.Entry.TheVariants.{Enter, Exit, Get, Put, Wait, Resume, Notify, NotifyAll}
use Rattle.plain_monitor.specs.declared.entry.Entry.TheVariants.{Hash, New, Print, Dump, Trap, Spent, Done}
use Rattle.plain_monitor.specs.Monitor.{only_if}
use Rattle.plain_monitor.specs.Objects.{same_value}
use Rattle.object_program.specs.declared.program.Code.{Code}
use Rattle.object_program.specs.Program.{ProgramText}
use Rattle.plain_machine.specs.declared.monitor_call.MonitorCall.{MonitorCall}
use Rattle.plain_machine.specs.declared.monitor_call.MonitorCall.TheVariants as call
use Rattle.plain_machine.specs.declared.monitor_call.Mode.{Mode}
use Rattle.plain_machine.specs.declared.monitor_call.Mode.TheVariants.{Calling, Waiting, Unwinding, Ended}
use Rattle.plain_machine.specs.declared.monitor_call.NextEntry.{NextEntry}
use Rattle.plain_machine.specs.declared.monitor_call.NextEntry.TheVariants.{Calls, Resumes, Leaves, Ends}
use Rattle.plain_machine.specs.Thread.{ThreadState, with_local, past, holds_of}
use Rattle.plain_machine.specs.Running.{run_on}

-- the least object that is held, where the first of these has number o
abbrev pub held_from : ℕ → List ℕ → Option ℕ
held_from o [] = None
held_from o (n ∷ ns) = if nat_le 1 n then Some o else held_from (o + 1) ns

-- a thread that unwinds leaves its holds, objects by rising number, and then ends
abbrev pub unwinds : Ending → Option ℕ → NextEntry
unwinds e None = Ends e
unwinds e (Some o) = Leaves o

abbrev pub ask_in : ThreadState → Mode → Option NextEntry
ask_in s (Calling c) = Some (Calls c)
ask_in s (Waiting o) = Some (Resumes o)
ask_in s (Unwinding e) = Some (unwinds e (held_from 0 s.holds))
ask_in s (Ended e) = None

-- what the thread has to make next; nothing where it has ended
abbrev pub ask : ThreadState → Option NextEntry
ask s = ask_in s s.mode

abbrev pub fault_number : Fault → ℕ
fault_number IllegalMonitorState = 0
fault_number Unguarded = 1
fault_number NotRef = 2
fault_number NotInt = 3
fault_number Range = 4
fault_number Overflow = 5
fault_number TooDeep = 6
fault_number TooManyDumps = 7
fault_number TooMany = 8

-- the entry is this call; what the objects answer is open, and so is the number of a new one, which is its maker's next by the objects that are
-- there
abbrev pub is_call : MonitorCall → Entry → Bool
is_call (call.Enter o) (Enter object path) = o == object
is_call (call.Exit o) (Exit object) = o == object
is_call (call.Wait o) (Wait object) = o == object
is_call (call.Notify o) (Notify object woken) = o == object
is_call (call.NotifyAll o) (NotifyAll object woken) = o == object
is_call (call.Get x o k) (Get object slot value) = (o == object) && (k == slot)
is_call (call.Put o k v) (Put object slot value) = (o == object) && (k == slot) && same_value v value
is_call (call.Hash x o) (Hash object value drawn) = o == object
is_call (call.New x c) (New object class) = c == class
is_call (call.Print v) (Print value) = same_value v value
is_call (call.Dump n) (Dump number) = n == number
is_call c e = false

abbrev pub is_ending : Ending → Entry → Bool
is_ending (ending.Trap f i) (Trap fault index) = (fault_number f == fault_number fault) && (i == index)
is_ending ending.Spent Spent = true
is_ending ending.Done Done = true
is_ending e l = false

abbrev pub is_resume : ℕ → Entry → Bool
is_resume o (Resume object) = o == object
is_resume o e = false

abbrev pub is_exit : ℕ → Entry → Bool
is_exit o (Exit object) = o == object
is_exit o e = false

-- the entry is what is asked
abbrev pub fits : NextEntry → Entry → Bool
fits (Calls c) e = is_call c e
fits (Resumes o) e = is_resume o e
fits (Leaves o) e = is_exit o e
fits (Ends ending) e = is_ending ending e

-- one hold more, or one less
abbrev pub holds_more : ThreadState → ℕ → ThreadState
holds_more s o = record s { holds = slice_set s.holds o (holds_of s o + 1) }

abbrev pub holds_less : ThreadState → ℕ → ThreadState
holds_less s o = record s { holds = slice_set s.holds o (holds_of s o - 1) }

-- what the call's answer makes of the thread
abbrev pub answered : ThreadState → MonitorCall → Entry → ThreadState
answered s (call.Enter o) e = holds_more s o
answered s (call.Exit o) e = holds_less s o
answered s (call.Get x o k) (Get object slot value) = with_local s x value
answered s (call.Hash x o) (Hash object value drawn) = with_local s x (Int (pos value))
answered s (call.New x c) (New object class) = with_local (record s { made = s.made + 1 }) x (Ref object)
answered s (call.Dump n) e = record s { dumps = n }
answered s c e = s

-- after the call, which is paid for: a thread that waits stands still, each other runs on
abbrev pub after_call : ProgramText → List Code → ThreadState → MonitorCall → Entry → ThreadState
after_call p instructions s (call.Wait o) e = record (past s) { fuel = s.fuel - 1; mode = Waiting o }
after_call p instructions s c e = run_on p instructions (s.fuel - 1) (past (answered s c e))

-- the thread after an entry that is what it asked
abbrev pub after_entry : ProgramText → List Code → ThreadState → NextEntry → Entry → ThreadState
after_entry p instructions s (Calls c) e = after_call p instructions s c e
after_entry p instructions s (Resumes o) e = run_on p instructions s.fuel s
after_entry p instructions s (Leaves o) e = holds_less s o
after_entry p instructions s (Ends ending) e = record s { mode = Ended ending }

-- the thread after an entry, where it asks for it
abbrev pub thread_after : ProgramText → List Code → ThreadState → Entry → Option ThreadState
thread_after p instructions s e =
    option_and_then (λ asked. only_if (fits asked e) (after_entry p instructions s asked e)) (ask s)
