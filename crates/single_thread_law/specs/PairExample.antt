-- A program of two threads, each of which enters the object, writes its number into the slot, prints it, leaves and ends; and two runs of it, by who
-- enters first.
use Rattle.std.specs.Prelude.{ℕ, ℤ, pos, ◌+◌, false, List, [], ◌∷◌, None}
use Rattle.object_program.specs.Program.{ProgramText}
use Rattle.object_program.specs.declared.program.Code.TheVariants as code
use Rattle.object_program.specs.declared.program.ThreadDef.{ThreadDef}
use Rattle.plain_machine.specs.Machine.{PlainMachine}
use Rattle.plain_machine.specs.Thread.{ThreadState}
use Rattle.plain_machine.specs.declared.monitor_call.Mode.TheVariants.{Ended}
use Rattle.plain_monitor.specs.Monitor.{free_monitor}
use Rattle.plain_monitor.specs.declared.entry.Ending.TheVariants as ending
use Rattle.plain_monitor.specs.declared.entry.Entry.TheVariants.{Enter, Exit, Put, Print, Done}
use Rattle.plain_monitor.specs.declared.entry.Logged.{Logged}
use Rattle.plain_monitor.specs.declared.entry.Path.TheVariants.{StackFirst}
use Rattle.plain_monitor.specs.declared.entry.Value.TheVariants.{Int, Ref}

-- a thread with this name, the locals o and n, and this number
abbrev pub writing_thread : ℕ → ℤ → ThreadDef
writing_thread letter n =
    record {
      name = letter ∷ [];
      locals = (111 ∷ []) ∷ (110 ∷ []) ∷ [];
      labels = [];
      code =
          code.Ref 0 0 ∷ code.Set 1 n ∷ code.Enter 0 ∷ code.Put 0 0 1 ∷ code.Print 1 ∷ code.Exit 0 ∷ code.End ∷ [];
    }

-- class C of one slot, object o of it, and the threads t with the number 1 and u with the number 2
abbrev pub pair_program : ProgramText
pair_program =
    record {
      classes = record { name = 67 ∷ []; slots = 1 } ∷ [];
      objects = record { name = 111 ∷ []; class = 0; first = 0; size = 1; array = false } ∷ [];
      threads = writing_thread 116 (pos 1) ∷ writing_thread 117 (pos 2) ∷ [];
    }

abbrev pub pair_fuel : ℕ
pair_fuel = 10

-- the log of a thread with this number, after stamp n
abbrev pub writing_log : ℕ → ℤ → List Logged
writing_log n value =
    record { stamp = n + 1; entry = Enter 0 StackFirst }
    ∷ record { stamp = n + 2; entry = Put 0 0 (Int value) }
    ∷ record { stamp = n + 3; entry = Print (Int value) }
    ∷ record { stamp = n + 4; entry = Exit 0 }
    ∷ record { stamp = n + 5; entry = Done } ∷ []

-- t enters first, or u does: the other one's enter stands after the exit with stamp 4
abbrev pub first_then_second : List (List Logged)
first_then_second = writing_log 0 (pos 1) ∷ writing_log 4 (pos 2) ∷ []

abbrev pub second_then_first : List (List Logged)
second_then_first = writing_log 4 (pos 1) ∷ writing_log 0 (pos 2) ∷ []

abbrev pub writing_end : ℤ → ThreadState
writing_end n =
    record {
      place = 6;
      locals = Ref 0 ∷ Int n ∷ [];
      fuel = 3;
      holds = 0 ∷ [];
      dumps = 0;
      made = 0;
      mode = Ended ending.Done;
    }

-- the machine after such logs, where this is the last number written
abbrev pub pair_end : ℤ → PlainMachine
pair_end last =
    record {
      program = pair_program;
      objects = record { monitor = free_monitor; slots = Int last ∷ []; hash = None } ∷ [];
      made = [] ∷ [] ∷ [];
      threads = writing_end (pos 1) ∷ writing_end (pos 2) ∷ [];
    }
