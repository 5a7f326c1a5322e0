-- A program of one thread, which enters its object, prints it, leaves it and ends; its text, and a run of it.
use Rattle.std.specs.Prelude.{ℕ, false, List, [], ◌∷◌, codes, drop, map}
use Rattle.plain_monitor.specs.declared.entry.Entry.TheVariants.{Enter, Exit, Print, Done}
use Rattle.plain_monitor.specs.declared.entry.Logged.{Logged}
use Rattle.plain_monitor.specs.declared.entry.Path.TheVariants.{StackFirst}
use Rattle.plain_monitor.specs.declared.entry.Value.TheVariants.{Ref}
use Rattle.object_program.specs.Program.{ProgramText}
use Rattle.object_program.specs.declared.program.Code.TheVariants as code
use Rattle.object_program.specs.declared.program.ThreadDef.{ThreadDef}

-- without the line feed of its last line
abbrev pub example_lines : List ℕ
example_lines = codes "class C 0\nobject o C\nthread t\nlocal x\nref x o\nenter x\nprint x\nexit x\nend"

abbrev pub example_program : ProgramText
example_program =
    record {
      classes = record { name = codes "C"; slots = 0 } ∷ [];
      objects = record { name = codes "o"; class = 0; first = 0; size = 1; array = false } ∷ [];
      threads =
          record {
            name = codes "t";
            locals = codes "x" ∷ [];
            labels = [];
            code = code.Ref 0 0 ∷ code.Enter 0 ∷ code.Print 0 ∷ code.Exit 0 ∷ code.End ∷ [];
          } ∷ [];
    }

abbrev pub example_logs : List (List Logged)
example_logs =
    (record { stamp = 1; entry = Enter 0 StackFirst }
    ∷ record { stamp = 2; entry = Print (Ref 0) }
    ∷ record { stamp = 3; entry = Exit 0 }
    ∷ record { stamp = 4; entry = Done } ∷ []) ∷ []

-- its last entry, with the first stamp
abbrev pub done_logs : List (List Logged)
done_logs = (record { stamp = 1; entry = Done } ∷ []) ∷ []

-- the same without the enter
abbrev pub later_logs : List (List Logged)
later_logs = map (λ (log : List Logged). drop 1 log) example_logs

-- the same program, but that its object has this name; and but that its thread has
abbrev pub nil_program : ProgramText
nil_program = record example_program {
  objects = record { name = codes "nil"; class = 0; first = 0; size = 1; array = false } ∷ [];
}

abbrev pub split_program : ProgramText
split_program = record example_program { threads = map (λ (t : ThreadDef). record t { name = codes "t\nu" }) example_program.threads }
