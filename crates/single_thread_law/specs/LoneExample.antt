-- A program of one thread, which enters its object, dumps, prints the object, leaves it and ends; and the run of it.
use Rattle.std.specs.Prelude.{ℕ, false, List, [], ◌∷◌, Some, None}
use Rattle.lock_journal.specs.declared.record.Shot.{Shot}
use Rattle.object_program.specs.Program.{ProgramText}
use Rattle.object_program.specs.declared.program.Code.TheVariants as code
use Rattle.plain_machine.specs.Machine.{PlainMachine}
use Rattle.plain_machine.specs.declared.monitor_call.Mode.TheVariants.{Ended}
use Rattle.plain_monitor.specs.Monitor.{free_monitor}
use Rattle.plain_monitor.specs.declared.entry.Ending.TheVariants as ending
use Rattle.plain_monitor.specs.declared.entry.Entry.TheVariants.{Enter, Exit, Print, Dump, Done}
use Rattle.plain_monitor.specs.declared.entry.Logged.{Logged}
use Rattle.plain_monitor.specs.declared.entry.Path.TheVariants.{StackFirst}
use Rattle.plain_monitor.specs.declared.entry.Value.TheVariants.{Ref}

-- class C, object o of it, and thread t with the local x
abbrev pub lone_program : ProgramText
lone_program =
    record {
      classes = record { name = 67 ∷ []; slots = 0 } ∷ [];
      objects = record { name = 111 ∷ []; class = 0; first = 0; size = 1; array = false } ∷ [];
      threads =
          record {
            name = 116 ∷ [];
            locals = (120 ∷ []) ∷ [];
            labels = [];
            code = code.Ref 0 0 ∷ code.Enter 0 ∷ code.Dump ∷ code.Print 0 ∷ code.Exit 0 ∷ code.End ∷ [];
          } ∷ [];
    }

-- more than its six instructions cost
abbrev pub lone_fuel : ℕ
lone_fuel = 10

abbrev pub lone_logs : List (List Logged)
lone_logs =
    (record { stamp = 1; entry = Enter 0 StackFirst }
    ∷ record { stamp = 2; entry = Dump 1 }
    ∷ record { stamp = 3; entry = Print (Ref 0) }
    ∷ record { stamp = 4; entry = Exit 0 }
    ∷ record { stamp = 5; entry = Done } ∷ []) ∷ []

-- the dump saw that the thread has the object
abbrev pub lone_shots : List (List Shot)
lone_shots = (record { number = 1; cut = 1 ∷ []; cells = record { owner = Some 0; count = 1 } ∷ [] } ∷ []) ∷ []

-- the machine after the logs
abbrev pub lone_end : PlainMachine
lone_end =
    record {
      program = lone_program;
      objects = record { monitor = free_monitor; slots = []; hash = None } ∷ [];
      made = [] ∷ [];
      threads =
          record {
            place = 5;
            locals = Ref 0 ∷ [];
            fuel = 4;
            holds = 0 ∷ [];
            dumps = 1;
            made = 0;
            mode = Ended ending.Done;
          } ∷ [];
    }
