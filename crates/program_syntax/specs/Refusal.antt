-- Which texts have a program, and which cause the others are refused for: the first line that has one, and its lowest-numbered.
use Rattle.std.specs.Prelude.{ℕ, ◌+◌, Bool, true, false, not, ◌||◌, ◌==◌, nat_le, nat_lt, if◌then◌else◌}
use Rattle.std.specs.Prelude.{List, [], ◌∷◌, length, map, Option, Some, None, is_some, Result, Ok, Err}
use Rattle.std.specs.List.{list_all}
use Rattle.object_program.specs.Name.{is_name}
use Rattle.program_syntax.specs.Text.{most_bytes, raw_lines, without_return, is_text_byte, words_of}
use Rattle.program_syntax.specs.Number.{number_of, is_within}
use Rattle.object_program.specs.Program.{ProgramText, total_of}
use Rattle.object_program.specs.Valid.{is_among}
use Rattle.program_syntax.specs.Line.{keyword_of, operands_of, is_outside}
use Rattle.program_syntax.specs.declared.operand.Space.{Space}
use Rattle.program_syntax.specs.declared.operand.Space.TheVariants.{Classes, Objects, Threads, Locals, Labels}
use Rattle.program_syntax.specs.declared.operand.Operand.{Operand}
use Rattle.program_syntax.specs.declared.operand.Operand.TheVariants.{New, Known, Number}
use Rattle.object_program.specs.Limits.{most_classes, most_objects, most_threads, most_locals, most_code}
use Rattle.program_syntax.specs.Reading.{Before, nothing, first_keyword, ends_section, section_labels, count_at, after_line}
use Rattle.object_program.specs.declared.program.ThreadDef.{ThreadDef}
use Rattle.program_syntax.specs.declared.keyword.Keyword.{Keyword}
use Rattle.program_syntax.specs.declared.keyword.Keyword.TheVariants.{Class, Object, Array, Thread, Local, Label, End}
use Rattle.program_syntax.specs.declared.error.ProgramError.{ProgramError}
use Rattle.program_syntax.specs.declared.error.RefusalCause.{RefusalCause}
use Rattle.program_syntax.specs.declared.error.RefusalCause.TheVariants.{NotAscii, UnknownWord, Operands, BadName, Twice}
use Rattle.program_syntax.specs.declared.error.RefusalCause.TheVariants.{Undeclared, BadNumber, Limit, NoThread, NoEnd}

abbrev pub local_names : Option ThreadDef → List (List ℕ)
local_names None = []
local_names (Some t) = t.locals

abbrev pub label_names : Option ThreadDef → List (List ℕ)
label_names None = []
label_names (Some t) = map (λ l. l.name) t.labels

abbrev pub all_label_names : Option ThreadDef → List (List ℕ) → List (List ℕ)
all_label_names None later = []
all_label_names (Some t) later = map (λ l. l.name) (section_labels t later)

-- the names that earlier lines have declared in a space
abbrev pub names_before : Before → Space → List (List ℕ)
names_before b Classes = map (λ c. c.name) b.text.classes
names_before b Objects = map (λ d. d.name) b.text.objects
names_before b Threads = map (λ t. t.name) b.text.threads
names_before b Locals = local_names b.section
names_before b Labels = label_names b.section

-- the names that a line may use: a label of the section may stand on any of its lines
abbrev pub names_known : Before → List (List ℕ) → Space → List (List ℕ)
names_known b later Labels = all_label_names b.section later
names_known b later s = names_before b s

-- tests of an operand by what it has to be
abbrev pub is_bad_name : Operand → List ℕ → Bool
is_bad_name (New s) w = not (is_name w)
is_bad_name (Known s) w = not (is_name w)
is_bad_name (Number low high) w = false

abbrev pub is_twice : Before → Operand → List ℕ → Bool
is_twice b (New s) w = is_among (names_before b s) w
is_twice b (Known s) w = false
is_twice b (Number low high) w = false

abbrev pub is_undeclared : Before → List (List ℕ) → Operand → List ℕ → Bool
is_undeclared b later (Known s) w = not (is_among (names_known b later s) w)
is_undeclared b later (New s) w = false
is_undeclared b later (Number low high) w = false

abbrev pub is_bad_number : Operand → List ℕ → Bool
is_bad_number (Number low high) w = not (is_within low high (number_of w))
is_bad_number (New s) w = false
is_bad_number (Known s) w = false

-- some operand fails the test
abbrev pub some_operand : (Operand → List ℕ → Bool) → List Operand → List (List ℕ) → Bool
some_operand test [] ws = false
some_operand test (o ∷ os) [] = false
some_operand test (o ∷ os) (w ∷ ws) = test o w || some_operand test os ws

abbrev pub locals_full : Option ThreadDef → Bool
locals_full None = false
locals_full (Some t) = nat_le most_locals (length t.locals)

abbrev pub code_full : Option ThreadDef → Bool
code_full None = false
code_full (Some t) = nat_le most_code (length t.code)

-- the line would pass a limit
abbrev pub passes_limit : Before → List (List ℕ) → Keyword → Bool
passes_limit b ws Class = nat_le most_classes (length b.text.classes)
passes_limit b ws Object = nat_lt most_objects (total_of b.text.objects + 1)
passes_limit b ws Array = nat_lt most_objects (total_of b.text.objects + count_at ws 2)
passes_limit b ws Thread = nat_le most_threads (length b.text.threads)
passes_limit b ws Local = locals_full b.section
passes_limit b ws Label = false
passes_limit b ws k = code_full b.section

-- the section that these lines begin with is closed by its `end`
abbrev pub is_end : Option Keyword → Bool
is_end (Some End) = true
is_end k = false

abbrev pub is_closed : List (List ℕ) → Bool
is_closed [] = false
is_closed (line ∷ later) =
    let keyword = first_keyword (words_of line) in
    if ends_section keyword then is_end keyword else is_closed later

-- the line opens a section that isn't closed
abbrev pub opens_unclosed : List (List ℕ) → Keyword → Bool
opens_unclosed later Thread = not (is_closed later)
opens_unclosed later k = false

-- the cause of a line whose operands are there
abbrev pub operand_cause : Before → List (List ℕ) → List (List ℕ) → Keyword → Option RefusalCause
operand_cause b later ws k =
    if some_operand is_bad_name (operands_of k) ws then Some BadName
    else if some_operand (is_twice b) (operands_of k) ws then Some Twice
    else if some_operand (is_undeclared b later) (operands_of k) ws then Some Undeclared
    else if some_operand is_bad_number (operands_of k) ws then Some BadNumber
    else if passes_limit b ws k then Some Limit
    else if opens_unclosed later k then Some NoEnd
    else None

-- A word of a section stands in one. One of a declaration stands anywhere, as it ends an open section; that one was refused at its `thread` line.
abbrev pub is_in_place : Before → Keyword → Bool
is_in_place b k = is_outside k || is_some b.section

abbrev pub keyword_cause : Before → List (List ℕ) → List (List ℕ) → Option Keyword → Option RefusalCause
keyword_cause b later ws None = Some UnknownWord
keyword_cause b later ws (Some k) =
    if not (is_in_place b k) then Some UnknownWord
    else if not (length ws == length (operands_of k)) then Some Operands
    else operand_cause b later ws k

abbrev pub words_cause : Before → List (List ℕ) → List (List ℕ) → Option RefusalCause
words_cause b later [] = None
words_cause b later (w ∷ ws) = keyword_cause b later ws (keyword_of w)

-- the lowest-numbered cause of a line, between those before it and those after it
abbrev pub line_cause : Before → List (List ℕ) → List ℕ → Option RefusalCause
line_cause b later line = if list_all is_text_byte line then words_cause b later (words_of line) else Some NotAscii

-- a cause refuses the line with this number
abbrev pub read_on : Option RefusalCause → ℕ → Result Before ProgramError → Result Before ProgramError
read_on None n rest = rest
read_on (Some why) n rest = Err (record { line = n; why = why })

-- the first refusal of these lines, or what they declare, where the first has this number
abbrev pub read_from : ℕ → Before → List (List ℕ) → Result Before ProgramError
read_from n b [] = Ok b
read_from n b (line ∷ later) = read_on (line_cause b later line) n (read_from (n + 1) (after_line b later line) later)

abbrev pub with_thread : ProgramText → Result ProgramText ProgramError
with_thread p = if length p.threads == 0 then Err (record { line = 0; why = NoThread }) else Ok p

abbrev pub finished : Result Before ProgramError → Result ProgramText ProgramError
finished (Err e) = Err e
finished (Ok b) = with_thread b.text

-- the lines of a text, without their carriage returns
abbrev pub lines_of : List ℕ → List (List ℕ)
lines_of bytes = map without_return (raw_lines bytes)

-- the program that a text has, or why and at which line it is refused
abbrev pub program_of : List ℕ → Result ProgramText ProgramError
program_of bytes =
    if nat_lt most_bytes (length bytes) then Err (record { line = 0; why = Limit })
    else finished (read_from 1 nothing (lines_of bytes))
