-- A program of two threads, each of which asks for the hash of the object, prints it and ends; and a run of it in which the first draws the hash.
use Rattle.std.specs.Prelude.{ℕ, pos, false, List, [], ◌∷◌, Option, Some, None}
use Rattle.object_program.specs.Program.{ProgramText}
use Rattle.object_program.specs.declared.program.Code.TheVariants as code
use Rattle.object_program.specs.declared.program.ThreadDef.{ThreadDef}
use Rattle.plain_machine.specs.Machine.{PlainMachine}
use Rattle.plain_machine.specs.Thread.{ThreadState}
use Rattle.plain_machine.specs.declared.monitor_call.Mode.TheVariants.{Ended}
use Rattle.plain_monitor.specs.Monitor.{free_monitor}
use Rattle.plain_monitor.specs.declared.entry.Ending.TheVariants as ending
use Rattle.plain_monitor.specs.declared.entry.Entry.TheVariants.{Hash, Print, Done}
use Rattle.plain_monitor.specs.declared.entry.Logged.{Logged}
use Rattle.plain_monitor.specs.declared.entry.Value.TheVariants.{Int, Ref}

-- a thread with this name, and the locals o and h
abbrev pub hashing_thread : ℕ → ThreadDef
hashing_thread letter =
    record {
      name = letter ∷ [];
      locals = (111 ∷ []) ∷ (104 ∷ []) ∷ [];
      labels = [];
      code = code.Ref 0 0 ∷ code.Hash 1 0 ∷ code.Print 1 ∷ code.End ∷ [];
    }

-- class C, object o of it, and the threads t and u
abbrev pub hash_program : ProgramText
hash_program =
    record {
      classes = record { name = 67 ∷ []; slots = 0 } ∷ [];
      objects = record { name = 111 ∷ []; class = 0; first = 0; size = 1; array = false } ∷ [];
      threads = hashing_thread 116 ∷ hashing_thread 117 ∷ [];
    }

abbrev pub hash_fuel : ℕ
hash_fuel = 10

-- the first draw of the generator of thread 0, where it begins with the word 0
abbrev pub first_hash : ℕ
first_hash = 273327012

abbrev pub hashing_log : Option ℕ → List Logged
hashing_log drawn =
    record { stamp = 1; entry = Hash 0 first_hash drawn }
    ∷ record { stamp = 2; entry = Print (Int (pos first_hash)) }
    ∷ record { stamp = 3; entry = Done } ∷ []

abbrev pub hash_logs : List (List Logged)
hash_logs = hashing_log (Some 1) ∷ hashing_log None ∷ []

abbrev pub hashing_end : ThreadState
hashing_end =
    record {
      place = 3;
      locals = Ref 0 ∷ Int (pos first_hash) ∷ [];
      fuel = 6;
      holds = 0 ∷ [];
      dumps = 0;
      made = 0;
      mode = Ended ending.Done;
    }

-- the machine after the logs
abbrev pub hash_end : PlainMachine
hash_end =
    record {
      program = hash_program;
      objects = record { monitor = free_monitor; slots = []; hash = Some first_hash } ∷ [];
      made = [] ∷ [] ∷ [];
      threads = hashing_end ∷ hashing_end ∷ [];
    }
