-- The state of the reader, and what reading a line answers.
use Rattle.std.specs.Prelude.{◌≡◌, ◌⊎◌, ℕ, Bool, false, not, List, [], map, Option, Some, None, Result, Ok, Err}
use Rattle.object_program.specs.Valid.{is_among}
use Rattle.program_syntax.specs.Reading.{Before, after_keyword, after_line}
use Rattle.program_syntax.specs.Refusal.{names_before, is_bad_name, is_twice, is_bad_number, line_cause}
use Rattle.program_syntax.specs.State.{before_of, cause_of}
use Rattle.program_syntax.specs.declared.operand.Space.{Space}
use Rattle.program_syntax.specs.declared.operand.Space.TheVariants.{Labels}
use Rattle.program_syntax.specs.declared.operand.Operand.{Operand}
use Rattle.program_syntax.specs.declared.operand.Operand.TheVariants.{Known}
use Rattle.program_syntax.specs.declared.operand.Test.{Test}
use Rattle.program_syntax.specs.declared.operand.Test.TheVariants as test
use Rattle.program_syntax.specs.declared.state.Section.{Section}
use Rattle.program_syntax.specs.declared.state.Reader.{Reader}
use Rattle.program_syntax.specs.declared.keyword.Keyword.{Keyword}
use Rattle.program_syntax.specs.declared.error.ProgramError.{ProgramError}
use Rattle.program_syntax.specs.declared.error.RefusalCause.{RefusalCause}
use Rattle.program_syntax.specs.declared.error.RefusalCause.TheVariants.{NoMemory}

-- the names of all labels of the open section
abbrev pub label_names : Option Section → List (List ℕ)
label_names None = []
label_names (Some s) = map (λ l. l.name) s.labels

-- the names that a line may use, as the reader has collected them
abbrev pub names_collected : Reader → Space → List (List ℕ)
names_collected r Labels = label_names r.section
names_collected r s = names_before (before_of r) s

abbrev pub is_unknown : Reader → Operand → List ℕ → Bool
is_unknown r (Known s) w = not (is_among (names_collected r s) w)
is_unknown r o w = false

-- an operand that fails this test
abbrev pub fails : Test → Reader → Operand → List ℕ → Bool
fails test.BadName r o w = is_bad_name o w
fails test.Twice r o w = is_twice (before_of r) o w
fails test.Undeclared r o w = is_unknown r o w
fails test.BadNumber r o w = is_bad_number o w

-- the state after a line with this cause, where it has none; memory may be wanting
abbrev pub IsStep : Result Reader RefusalCause → Option RefusalCause → Before → Type 0
IsStep (Ok r) cause after = (cause ≡ None) × (before_of r ≡ after)
IsStep (Err why) cause after = (cause ≡ Some why) ⊎ (why ≡ NoMemory)

abbrev pub IsKeywordStep : Reader → List (List ℕ) → List (List ℕ) → Keyword → Result Reader RefusalCause → Type 0
IsKeywordStep r later ws k result = IsStep result (cause_of r later ws k) (after_keyword (before_of r) later ws k)

-- what reading any line answers
abbrev pub IsLineStep : Reader → List (List ℕ) → List ℕ → Result Reader RefusalCause → Type 0
IsLineStep r later line result =
    IsStep result (line_cause (before_of r) later line) (after_line (before_of r) later line)

-- a refusal for want of memory, which is no line's
abbrev pub no_memory : ProgramError
no_memory = record { line = 0; why = NoMemory }

-- a refusal of the line with this number
abbrev pub refusal : ℕ → RefusalCause → ProgramError
refusal n NoMemory = no_memory
refusal n why = record { line = n; why = why }
