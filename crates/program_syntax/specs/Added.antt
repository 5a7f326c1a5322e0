-- What a line adds to a program or to a thread.
use Rattle.std.specs.Prelude.{ℕ, List, [], ◌∷◌, ◌++◌}
use Rattle.object_program.specs.Program.{ProgramText}
use Rattle.program_syntax.specs.Reading.{operand}
use Rattle.object_program.specs.declared.program.ThreadDef.{ThreadDef}
use Rattle.object_program.specs.declared.program.Code.{Code}

abbrev pub thread_added : ProgramText → ThreadDef → ProgramText
thread_added p t = record p { threads = p.threads ++ t ∷ [] }

-- the local of a `local` line
abbrev pub local_added : ThreadDef → List (List ℕ) → ThreadDef
local_added t ws = record t { locals = t.locals ++ operand ws 0 ∷ [] }

abbrev pub code_added : ThreadDef → Code → ThreadDef
code_added t code = record t { code = t.code ++ code ∷ [] }
