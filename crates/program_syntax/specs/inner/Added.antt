-- What a line adds to a program or to a thread.
use Rattle.std.specs.Prelude.{ℕ, Bool, List, [], ◌∷◌, ◌++◌}
use Rattle.object_program.specs.Program.{ProgramText}
use Rattle.program_syntax.specs.Reading.{operand, count_at, declared_objects}

-- the class of a `class` line with these operands
abbrev pub class_added : ProgramText → List (List ℕ) → ProgramText
class_added p ws = record p { classes = p.classes ++ record { name = operand ws 0; slots = count_at ws 1 } ∷ [] }

-- the objects of an `object` or an `array` line
abbrev pub objects_added : ProgramText → List (List ℕ) → ℕ → Bool → ProgramText
objects_added p ws size array = record p { objects = p.objects ++ declared_objects p ws size array ∷ [] }
