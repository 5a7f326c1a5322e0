-- What the reader knows between two lines, as contracts see it.
use Rattle.std.specs.Prelude.{◌≡◌, ◌+◌, ℕ, true, if◌then◌else◌, List, [], ◌∷◌, ◌++◌, length, take, Option, Some, None, option_map}
use Rattle.object_program.specs.Program.{ProgramText}
use Rattle.program_syntax.specs.Reading.{Before, ends_section, labels_on, labels_ahead, number_after_line, instruction_on, after_keyword}
use Rattle.program_syntax.specs.Refusal.{is_closed, is_end, keyword_cause}
use Rattle.object_program.specs.declared.program.LabelDef.{LabelDef}
use Rattle.object_program.specs.declared.program.ThreadDef.{ThreadDef}
use Rattle.object_program.specs.declared.program.Code.{Code}
use Rattle.program_syntax.specs.declared.state.Declared.{Declared}
use Rattle.program_syntax.specs.declared.state.Section.{Section}
use Rattle.program_syntax.specs.declared.state.Reader.{Reader}
use Rattle.program_syntax.specs.declared.keyword.Keyword.{Keyword}
use Rattle.program_syntax.specs.declared.error.RefusalCause.{RefusalCause}

-- all labels of an open section, before these lines
abbrev pub labels_from : ThreadDef → List (List ℕ) → List LabelDef
labels_from t lines = t.labels ++ labels_ahead (length t.code + 1) lines

-- all its labels, before a line with this keyword and these operands, and the lines after it
abbrev pub labels_at : ThreadDef → List (List ℕ) → List (List ℕ) → Keyword → List LabelDef
labels_at t later ws k =
    let n = length t.code + 1 in
    t.labels ++ (if ends_section (Some k) then []
    else labels_on n ([] ∷ ws) (Some k) ++ labels_ahead (number_after_line n (Some k)) later)

-- the classes, objects and threads of the lines so far
abbrev pub text_of : Declared → ProgramText
text_of d = record { classes = d.classes; objects = d.objects; threads = d.threads }

-- the thread of an open section with the first n of its labels
abbrev pub thread_to : Section → ℕ → ThreadDef
thread_to s n = record { name = s.name; locals = s.locals; labels = take n s.labels; code = s.code.items }

-- as far as its lines go: so many of its labels stand on them
abbrev pub thread_of : Section → ThreadDef
thread_of s = thread_to s s.declared

-- what the lines so far have declared
abbrev pub before_of : Reader → Before
before_of r = record { text = text_of r.declared; section = option_map thread_of r.section }

-- the lines ahead close the open section, and its labels are those so far and those on these lines
pub record IsAhead (s : Section) (lines : List (List ℕ)) : Type 0 where
  pub closed : is_closed lines ≡ true
  pub labels : s.labels ≡ labels_from (thread_of s) lines

abbrev pub HasAhead : Option Section → List (List ℕ) → Type 0
HasAhead None lines = Unit {0}
HasAhead (Some s) lines = IsAhead s lines

-- the same, where the first of the lines has this keyword and these operands
pub record IsAheadOf (s : Section) (later ws : List (List ℕ)) (k : Keyword) : Type 0 where
  pub closed : (if ends_section (Some k) then is_end (Some k) else is_closed later) ≡ true
  pub labels : s.labels ≡ labels_at (thread_of s) later ws k

abbrev pub HasAheadOf : Option Section → List (List ℕ) → List (List ℕ) → Keyword → Type 0
HasAheadOf None later ws k = Unit {0}
HasAheadOf (Some s) later ws k = IsAheadOf s later ws k

-- what a line with this keyword and these operands stands for
abbrev pub IsInstructionOn : Declared → Section → List (List ℕ) → Keyword → Code → Type 0
IsInstructionOn d s ws k code =
    (later : List (List ℕ)) → IsAheadOf s later ws k → code ≡ instruction_on (text_of d) (thread_of s) later ws k

-- a line with this keyword and these operands, with these lines after it: why it is refused, what stands after it, and what
-- reading it answers
abbrev pub cause_of : Reader → List (List ℕ) → List (List ℕ) → Keyword → Option RefusalCause
cause_of r later ws k = keyword_cause (before_of r) later ws (Some k)

abbrev pub IsAfterKeyword : Reader → List (List ℕ) → List (List ℕ) → Keyword → Reader → Type 0
IsAfterKeyword r later ws k after = before_of after ≡ after_keyword (before_of r) later ws k
