-- Two programs that come to stand still: one whose only thread waits, and one of two threads that each enter the object which the other one has.
use Rattle.std.specs.Prelude.{ℕ, false, List, [], ◌∷◌, Some, None}
use Rattle.object_program.specs.Program.{ProgramText}
use Rattle.object_program.specs.declared.program.Code.TheVariants as code
use Rattle.object_program.specs.declared.program.ObjectDef.{ObjectDef}
use Rattle.object_program.specs.declared.program.ThreadDef.{ThreadDef}
use Rattle.plain_machine.specs.Machine.{PlainMachine}
use Rattle.plain_machine.specs.Thread.{ThreadState}
use Rattle.plain_machine.specs.declared.monitor_call.MonitorCall.TheVariants as call
use Rattle.plain_machine.specs.declared.monitor_call.Mode.TheVariants.{Calling, Waiting}
use Rattle.plain_monitor.specs.Monitor.{PlainMonitor}
use Rattle.plain_monitor.specs.Objects.{PlainObject}
use Rattle.plain_monitor.specs.declared.entry.Entry.TheVariants.{Enter, Wait}
use Rattle.plain_monitor.specs.declared.entry.Logged.{Logged}
use Rattle.plain_monitor.specs.declared.entry.Path.TheVariants.{StackFirst}
use Rattle.plain_monitor.specs.declared.entry.Value.TheVariants.{Ref}

-- an object of the only class, with this name and number
abbrev pub object_named : ℕ → ℕ → ObjectDef
object_named letter first = record { name = letter ∷ []; class = 0; first = first; size = 1; array = false }

-- an object without slots and hash
abbrev pub with_monitor : PlainMonitor → PlainObject
with_monitor m = record { monitor = m; slots = []; hash = None }

abbrev pub stuck_fuel : ℕ
stuck_fuel = 10

-- WAITING. Thread t enters object o and waits on it.
abbrev pub waiting_program : ProgramText
waiting_program =
    record {
      classes = record { name = 67 ∷ []; slots = 0 } ∷ [];
      objects = object_named 111 0 ∷ [];
      threads =
          record {
            name = 116 ∷ [];
            locals = (120 ∷ []) ∷ [];
            labels = [];
            code = code.Ref 0 0 ∷ code.Enter 0 ∷ code.Wait 0 ∷ code.Exit 0 ∷ code.End ∷ [];
          } ∷ [];
    }

abbrev pub waiting_logs : List (List Logged)
waiting_logs = (record { stamp = 1; entry = Enter 0 StackFirst } ∷ record { stamp = 2; entry = Wait 0 } ∷ []) ∷ []

-- the machine after the logs, where this is the monitor
abbrev pub waiting_by : PlainMonitor → PlainMachine
waiting_by m =
    record {
      program = waiting_program;
      objects = with_monitor m ∷ [];
      made = [] ∷ [];
      threads =
          record {
            place = 3;
            locals = Ref 0 ∷ [];
            fuel = 7;
            holds = 1 ∷ [];
            dumps = 0;
            made = 0;
            mode = Waiting 0;
          } ∷ [];
    }

-- the thread is in the wait set
abbrev pub waiting_end : PlainMachine
waiting_end = waiting_by (record { owner = None; count = 0; waits = (0, 1) ∷ []; called = [] })

-- A CIRCLE. Thread t enters object a and then b, and thread u b and then a.
abbrev pub entering_thread : ℕ → ℕ → ℕ → ThreadDef
entering_thread letter first second =
    record {
      name = letter ∷ [];
      locals = (120 ∷ []) ∷ (121 ∷ []) ∷ [];
      labels = [];
      code = code.Ref 0 first ∷ code.Ref 1 second ∷ code.Enter 0 ∷ code.Enter 1 ∷ code.End ∷ [];
    }

abbrev pub circle_program : ProgramText
circle_program =
    record {
      classes = record { name = 67 ∷ []; slots = 0 } ∷ [];
      objects = object_named 97 0 ∷ object_named 98 1 ∷ [];
      threads = entering_thread 116 0 1 ∷ entering_thread 117 1 0 ∷ [];
    }

abbrev pub circle_logs : List (List Logged)
circle_logs =
    (record { stamp = 1; entry = Enter 0 StackFirst } ∷ []) ∷ (record { stamp = 1; entry = Enter 1 StackFirst } ∷ []) ∷ []

-- a thread that has entered its first object and stands before its second enter
abbrev pub entering_end : ℕ → ℕ → List ℕ → ThreadState
entering_end first second holds =
    record {
      place = 3;
      locals = Ref first ∷ Ref second ∷ [];
      fuel = 7;
      holds = holds;
      dumps = 0;
      made = 0;
      mode = Calling (call.Enter second);
    }

-- the machine after the logs
abbrev pub circle_end : PlainMachine
circle_end =
    record {
      program = circle_program;
      objects =
          with_monitor (record { owner = Some 0; count = 1; waits = []; called = [] })
          ∷ with_monitor (record { owner = Some 1; count = 1; waits = []; called = [] }) ∷ [];
      made = [] ∷ [] ∷ [];
      threads = entering_end 0 1 (1 ∷ 0 ∷ []) ∷ entering_end 1 0 (0 ∷ 1 ∷ []) ∷ [];
    }
