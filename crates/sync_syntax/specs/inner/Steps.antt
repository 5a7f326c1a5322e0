-- What reading a line answers.
use Rattle.std.specs.Prelude.{◌≡◌, ◌⊎◌, ◌==◌, ℕ, Bool, true, false, not, length, List, Option, Some, None, Result, Ok, Err}
use Rattle.program_syntax.specs.Line.{operands_of, is_instruction, is_outside}
use Rattle.program_syntax.specs.Reading.{Before}
use Rattle.program_syntax.specs.Refusal.{is_bad_number, some_operand, is_closed}
use Rattle.program_syntax.specs.State.{text_of}
use Rattle.program_syntax.specs.declared.state.Declared.{Declared}
use Rattle.program_syntax.specs.declared.keyword.Keyword.{Keyword}
use Rattle.program_syntax.specs.declared.keyword.Keyword.TheVariants as keyword
use Rattle.object_program.specs.declared.program.ThreadDef.{ThreadDef}
use Rattle.program_syntax.specs.declared.error.RefusalCause.TheVariants.{NoMemory}
use Rattle.sync_syntax.specs.declared.error.SyncRefusalCause.{SyncRefusalCause}
use Rattle.sync_syntax.specs.declared.error.SyncRefusalCause.TheVariants.{Plain}
use Rattle.sync_syntax.specs.declared.error.SyncError.{SyncError}
use Rattle.sync_syntax.specs.declared.word.Word.{Word}
use Rattle.sync_syntax.specs.declared.word.Word.TheVariants as word
use Rattle.sync_syntax.specs.Word.{is_left_out}
use Rattle.sync_syntax.specs.declared.state.SyncReader.{SyncReader}
use Rattle.sync_syntax.specs.Reading.{SyncBefore, after_word, after_line}
use Rattle.sync_syntax.specs.Refusal.{word_cause, line_cause, of_text}
use Rattle.sync_syntax.specs.inner.State.{sync_before}

-- the state after a line with this cause, where it has none; memory may be wanting
abbrev pub IsStep : Result SyncReader SyncRefusalCause → Option SyncRefusalCause → SyncBefore → Type 0
IsStep (Ok r) cause after = (cause ≡ None) × (sync_before r ≡ after)
IsStep (Err why) cause after = (cause ≡ Some why) ⊎ (why ≡ Plain NoMemory)

abbrev pub IsWordStep : SyncReader → List (List ℕ) → List (List ℕ) → Word → Result SyncReader SyncRefusalCause → Type 0
IsWordStep r later ws k result =
    IsStep result (word_cause (sync_before r) later ws (Some k)) (after_word (sync_before r) later ws k)

abbrev pub IsLineStep : SyncReader → List (List ℕ) → List ℕ → Result SyncReader SyncRefusalCause → Type 0
IsLineStep r later line result =
    IsStep result (line_cause (sync_before r) later line) (after_line (sync_before r) later line)

-- a refusal of the line with this number. Want of memory is no line's
abbrev pub refusal : ℕ → SyncRefusalCause → SyncError
refusal n (Plain NoMemory) = of_text NoMemory
refusal n why = record { line = n; why = why }

-- a word of the plain language that isn't left out, or a word of blocks
abbrev pub is_kept : Word → Bool
is_kept (word.Plain k) = not (is_left_out k)
is_kept k = true

-- a line of the plain language has its operands, and those that are numbers are in range
abbrev pub HasOperands : Word → List (List ℕ) → Type 0
HasOperands (word.Plain k) ws =
    ((length ws == length (operands_of k)) ≡ true) × (some_operand is_bad_number (operands_of k) ws ≡ false)
HasOperands k ws = Unit {0}

abbrev pub is_block : Word → Bool
is_block (word.Plain k) = false
is_block k = true

-- an instruction other than `end`
pub record IsStatement (k : Keyword) : Type 0 where
  pub instruction : is_instruction k ≡ true
  pub goes_on : k ≡ keyword.End → ⊥

-- where no section is open, and these are the declarations
abbrev pub only_declared : Declared → Before
only_declared d = record { text = text_of d; section = None }

-- where a section is open, the line isn't one that stands outside
abbrev pub IsOutside : Option ThreadDef → Word → Type 0
IsOutside (Some t) (word.Plain k) = is_outside k ≡ false
IsOutside s k = Unit {0}

-- these lines close the section that is open
abbrev pub ClosesSection : Option ThreadDef → List (List ℕ) → Type 0
ClosesSection None lines = Unit {0}
ClosesSection (Some t) lines = is_closed lines ≡ true
