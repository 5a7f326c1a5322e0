-- The heap that a program is run on, and its threads before their first turn.
use Rattle.std.specs.Prelude.{length}
use Rattle.core_law.specs.Logic.{Heap}
use Rattle.core_world.specs.Words.Shape.{Shape}
use Rattle.object_program.specs.Program.{ProgramText, declared_total, shape_of}
use Rattle.program_run.specs.declared.settings.Settings.{Settings}

-- it has a place for each thread and each class, and the program's objects, of which the declared ones have the first numbers; the others are those
-- that threads may make
abbrev pub shape_for : ProgramText → Shape
shape_for p = record { threads = length p.threads; classes = length p.classes; declared = declared_total p; objects = shape_of p }

abbrev pub heap_for : Settings → ProgramText → Heap
heap_for s p = record { shape = shape_for p; start = s.start; biasing = s.bias }
