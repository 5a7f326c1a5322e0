-- The plain machine: the plain objects and the threads. It takes an entry where the thread asks for it and the objects take it.
use Rattle.std.specs.Prelude.{ℕ, ◌+◌, Bool, true, false, not, ◌&&◌, ◌||◌, List, [], ◌∷◌, map, if◌then◌else◌, slice_get}
use Rattle.std.specs.Prelude.{slice_set, slice_index_or, Option, Some, None, option_and_then, is_some, is_none}
use Rattle.std.specs.List.{list_any}
use Rattle.plain_monitor.specs.declared.entry.Value.{Value}
use Rattle.plain_monitor.specs.declared.entry.Value.TheVariants.{Nil}
use Rattle.plain_monitor.specs.declared.entry.Ending.{Ending}
use Rattle.plain_monitor.specs.declared.entry.Entry.{Entry}
use Rattle.plain_monitor.specs.Monitor.{PlainMonitor, is_listed, is_thread}
use Rattle.plain_monitor.specs.Objects.{PlainObject, new_object, new_objects, take_entry}
use Rattle.plain_monitor.specs.Made.{class_if_there, nothing_made, take_made}
use Rattle.object_program.specs.declared.program.Code.{Code}
use Rattle.object_program.specs.Program.{ProgramText, shape_of, numbering_of}
use Rattle.plain_machine.specs.declared.monitor_call.MonitorCall.TheVariants as call
use Rattle.plain_machine.specs.declared.monitor_call.Mode.{Mode}
use Rattle.plain_machine.specs.declared.monitor_call.Mode.TheVariants.{Waiting, Ended}
use Rattle.plain_machine.specs.declared.monitor_call.NextEntry.{NextEntry}
use Rattle.plain_machine.specs.declared.monitor_call.NextEntry.TheVariants.{Calls, Resumes}
use Rattle.plain_machine.specs.Thread.{ThreadState}
use Rattle.plain_machine.specs.Running.{first_state}
use Rattle.plain_machine.specs.Asking.{ask, thread_after}

pub record PlainMachine : Type 0 where
  pub program : ProgramText
  -- by their numbers, whether they are there or not
  pub objects : List PlainObject
  -- the classes of the objects that each thread has made
  pub made : List (List ℕ)
  pub threads : List ThreadState

-- before the first entry
abbrev pub new_machine : ProgramText → ℕ → PlainMachine
new_machine p fuel = record {
  program = p;
  objects = new_objects (shape_of p);
  made = nothing_made (numbering_of p);
  threads = map (λ t. first_state p t fuel) p.threads;
}

-- the instructions of thread t
abbrev pub code_of : ProgramText → ℕ → List Code
code_of p t = slice_index_or (map (λ d. d.code) p.threads) t []

-- the thread, what is made, and the objects move on, where all do
abbrev pub moved : PlainMachine → ℕ → Option ThreadState → Option (List (List ℕ)) → Option (List PlainObject) → Option PlainMachine
moved m t None made objects = None
moved m t (Some s) None objects = None
moved m t (Some s) (Some made) None = None
moved m t (Some s) (Some made) (Some objects) =
    Some (record m { objects = objects; made = made; threads = slice_set m.threads t s })

-- what is made after an entry of thread t, where each object is there that the entry needs
abbrev pub made_after_entry : PlainMachine → ℕ → Entry → Option (List (List ℕ))
made_after_entry m t e = take_made (numbering_of m.program) m.made t e

-- the machine after an entry of thread t, where it takes it
abbrev pub take : PlainMachine → ℕ → Entry → Option PlainMachine
take m t e =
    option_and_then
    (λ s. moved m t (thread_after m.program (code_of m.program t) s e) (made_after_entry m t e) (take_entry m.objects t e))
    (slice_get m.threads t)

-- the class of object o, where it is there
abbrev pub class_at : PlainMachine → ℕ → Option ℕ
class_at m o = class_if_there (numbering_of m.program) m.made o

abbrev pub object_at : PlainMachine → ℕ → PlainObject
object_at m o = slice_index_or m.objects o (new_object 0)

abbrev pub monitor_at : PlainMachine → ℕ → PlainMonitor
monitor_at m o = (object_at m o).monitor

abbrev pub slot_at : PlainMachine → ℕ → ℕ → Value
slot_at m o k = slice_index_or (object_at m o).slots k Nil

-- how a thread ended
abbrev pub ending_in : Mode → Option Ending
ending_in (Ended e) = Some e
ending_in m = None

abbrev pub ending_of : PlainMachine → ℕ → Option Ending
ending_of m t = option_and_then (λ s. ending_in s.mode) (slice_get m.threads t)

-- another thread has the monitor
abbrev pub other_owner : PlainMonitor → ℕ → Option ℕ
other_owner m t = if is_thread m.owner t then None else m.owner

-- the object whose monitor the thread asks to have, by an enter or a resume
abbrev pub wanted : Option NextEntry → Option ℕ
wanted (Some (Calls (call.Enter o))) = Some o
wanted (Some (Resumes o)) = Some o
wanted a = None

-- the thread asks to have a monitor that another thread has
abbrev pub is_blocked : PlainMachine → ℕ → Option ℕ → Bool
is_blocked m t None = false
is_blocked m t (Some o) = is_some (other_owner (monitor_at m o) t)

-- the thread waits, and was not notified
abbrev pub is_waiting : PlainMachine → ℕ → Mode → Bool
is_waiting m t (Waiting o) = is_listed (monitor_at m o).waits t
is_waiting m t mode = false

-- thread t can't go on by itself
abbrev pub is_barred : PlainMachine → ℕ → ThreadState → Bool
is_barred m t s = is_waiting m t s.mode || is_blocked m t (wanted (ask s))

abbrev pub is_live : ThreadState → Bool
is_live s = is_none (ending_in s.mode)

-- each of these that is live is barred, where the first is thread t
abbrev pub all_barred : PlainMachine → ℕ → List ThreadState → Bool
all_barred m t [] = true
all_barred m t (s ∷ ss) = (not (is_live s) || is_barred m t s) && all_barred m (t + 1) ss

-- some thread is live, and none that is can go on
abbrev pub is_stuck : PlainMachine → Bool
is_stuck m = list_any is_live m.threads && all_barred m 0 m.threads
