-- The texts of a program's parts.
use Rattle.std.specs.Prelude.{ℕ, List}
use Rattle.object_program.specs.declared.program.ClassDef.{ClassDef}
use Rattle.object_program.specs.declared.program.ObjectDef.{ObjectDef}
use Rattle.object_program.specs.declared.program.ThreadDef.{ThreadDef}
use Rattle.program_syntax.specs.Written.{lines_text}
use Rattle.sync_source.specs.Source.{Statements}
use Rattle.sync_syntax.specs.Canonical.{statement_lines}

abbrev pub statements_text : List ClassDef → List ObjectDef → ThreadDef → Statements → List ℕ
statements_text classes objects thread s = lines_text (statement_lines classes objects thread s)
