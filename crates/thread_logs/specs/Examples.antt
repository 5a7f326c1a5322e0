-- A program of two threads that do the same, and their logs where one goes after the other; and one of a thread that makes an object.
use Rattle.std.specs.Prelude.{ℕ, ◌+◌, false, List, [], ◌∷◌, codes}
use Rattle.object_program.specs.Program.{ProgramText}
use Rattle.object_program.specs.declared.program.ClassDef.{ClassDef}
use Rattle.object_program.specs.declared.program.Code.{Code}
use Rattle.object_program.specs.declared.program.Code.TheVariants as code
use Rattle.object_program.specs.declared.program.ThreadDef.{ThreadDef}
use Rattle.plain_monitor.specs.declared.entry.Entry.TheVariants.{Enter, Exit, Print, Done}
use Rattle.plain_monitor.specs.declared.entry.Logged.{Logged}
use Rattle.plain_monitor.specs.declared.entry.Path.TheVariants.{StackFirst}
use Rattle.plain_monitor.specs.declared.entry.Value.TheVariants.{Ref}

abbrev pub classes : List ClassDef
classes = record { name = codes "C"; slots = 0 } ∷ []

abbrev pub thread : List ℕ → List Code → ThreadDef
thread name instructions = record { name = name; locals = codes "x" ∷ []; labels = []; code = instructions }

-- each enters the object, prints it and leaves it
abbrev pub printing : List Code
printing = code.Ref 0 0 ∷ code.Enter 0 ∷ code.Print 0 ∷ code.Exit 0 ∷ code.End ∷ []

abbrev pub printers : ProgramText
printers =
    record {
      classes = classes;
      objects = record { name = codes "a"; class = 0; first = 0; size = 1; array = false } ∷ [];
      threads = thread (codes "t1") printing ∷ thread (codes "t2") printing ∷ [];
    }

abbrev pub entered : ℕ → Logged
entered stamp = record { stamp = stamp; entry = Enter 0 StackFirst }

abbrev pub printed : ℕ → Logged
printed stamp = record { stamp = stamp; entry = Print (Ref 0) }

-- the log of one of them, from this stamp on
abbrev pub prints_from : ℕ → List Logged
prints_from n =
    entered n ∷ printed (n + 1) ∷ record { stamp = n + 2; entry = Exit 0 } ∷ record { stamp = n + 3; entry = Done } ∷ []

abbrev pub in_turn : List (List Logged)
in_turn = prints_from 1 ∷ prints_from 4 ∷ []
