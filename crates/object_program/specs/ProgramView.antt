-- What contracts see of a `Program`.
use Rattle.object_program.specs.declared.program.Program.TheInside.{Inside}
use Rattle.object_program.specs.Program.{ProgramText}
use Rattle.object_program.specs.Valid.{IsProgram}

abbrev pub program_text : Inside → ProgramText
program_text a = record { classes = a.classes; objects = a.objects; threads = a.threads }

abbrev pub IsAllowed : Inside → Type 0
IsAllowed a = IsProgram (program_text a)
