-- What a line means, where it has no cause of refusal: the lines before it have declared what it uses, and labels may follow it.
use Rattle.std.specs.Prelude.{ℕ, ℤ, pos, nat_abs, ◌+◌, Bool, true, false, if◌then◌else◌, List, [], ◌∷◌}
use Rattle.std.specs.Prelude.{◌++◌, length, map, slice_index_or, Option, Some, None, unwrap_or}
use Rattle.std.specs.Str.{bytes_eq}
use Rattle.object_program.specs.Name.{is_name}
use Rattle.program_syntax.specs.Text.{words_of}
use Rattle.program_syntax.specs.Number.{number_of}
use Rattle.object_program.specs.Program.{ProgramText, total_of}
use Rattle.program_syntax.specs.Line.{keyword_of, is_outside, is_instruction}
use Rattle.object_program.specs.declared.program.ObjectDef.{ObjectDef}
use Rattle.object_program.specs.declared.program.LabelDef.{LabelDef}
use Rattle.object_program.specs.declared.program.ThreadDef.{ThreadDef}
use Rattle.object_program.specs.declared.program.Code.{Code}
use Rattle.object_program.specs.declared.program.Code.TheVariants as code
use Rattle.program_syntax.specs.declared.keyword.Keyword.{Keyword}
use Rattle.program_syntax.specs.declared.keyword.Keyword.TheVariants.{Class, Object, Array, Thread, Local, Label, Set, Add, Sub}
use Rattle.program_syntax.specs.declared.keyword.Keyword.TheVariants.{Mul, Ref, Elem, Enter, Exit, Wait, Notify, NotifyAll, Get}
use Rattle.program_syntax.specs.declared.keyword.Keyword.TheVariants.{Put, Hash, New, Print, Jump, Jlt, Jeq, Dump, End}

-- what the lines so far have declared, and the thread of the section that is open, as far as its lines go
pub record Before : Type 0 where
  pub text : ProgramText
  pub section : Option ThreadDef

abbrev pub nothing : Before
nothing = record { text = record { classes = []; objects = []; threads = [] }; section = None }

-- a thread without lines
abbrev pub new_thread : List ℕ → ThreadDef
new_thread name = record { name = name; locals = []; labels = []; code = [] }

-- the first word of the line, where it is a keyword
abbrev pub first_keyword : List (List ℕ) → Option Keyword
first_keyword [] = None
first_keyword (w ∷ ws) = keyword_of w

-- a section ends with its `end`, or before a line that stands outside sections
abbrev pub ends_section : Option Keyword → Bool
ends_section None = false
ends_section (Some End) = true
ends_section (Some k) = is_outside k

-- the label that a line declares for the instruction with number n: a name, and nothing else after its keyword
abbrev pub label_of : ℕ → List (List ℕ) → List LabelDef
label_of n [] = []
label_of n (l ∷ []) = if is_name l then record { name = l; index = n } ∷ [] else []
label_of n (l ∷ m ∷ ws) = []

abbrev pub labels_on : ℕ → List (List ℕ) → Option Keyword → List LabelDef
labels_on n [] k = []
labels_on n (w ∷ ws) None = []
labels_on n (w ∷ ws) (Some Label) = label_of n ws
labels_on n (w ∷ ws) (Some k) = []

-- the number of the next instruction after a line
abbrev pub number_after_line : ℕ → Option Keyword → ℕ
number_after_line n None = n
number_after_line n (Some k) = if is_instruction k then n + 1 else n

-- the labels on these lines up to the section's end, where the next instruction has number n
abbrev pub labels_ahead : ℕ → List (List ℕ) → List LabelDef
labels_ahead n [] = []
labels_ahead n (line ∷ later) =
    let words = words_of line in
    let keyword = first_keyword words in
    if ends_section keyword then []
    else labels_on n words keyword ++ labels_ahead (number_after_line n keyword) later

-- all labels of the open section, for one of its instructions: those on the lines before it, and those on the lines after it
abbrev pub section_labels : ThreadDef → List (List ℕ) → List LabelDef
section_labels thread later = thread.labels ++ labels_ahead (length thread.code + 2) later

-- how many of these names stand before the first that is this one
abbrev pub number_among : List (List ℕ) → List ℕ → ℕ
number_among [] name = 0
number_among (n ∷ ns) name = if bytes_eq n name then 0 else number_among ns name + 1

abbrev pub target_among : List LabelDef → List ℕ → ℕ
target_among [] name = 0
target_among (l ∷ ls) name = if bytes_eq l.name name then l.index else target_among ls name

-- operand i of the line, from 0
abbrev pub operand : List (List ℕ) → ℕ → List ℕ
operand ws i = slice_index_or ws i []

abbrev pub number_at : List (List ℕ) → ℕ → ℤ
number_at ws i = unwrap_or (number_of (operand ws i)) (pos 0)

abbrev pub count_at : List (List ℕ) → ℕ → ℕ
count_at ws i = nat_abs (number_at ws i)

abbrev pub local_at : ThreadDef → List (List ℕ) → ℕ → ℕ
local_at thread ws i = number_among thread.locals (operand ws i)

abbrev pub object_at : ProgramText → List (List ℕ) → ℕ → ℕ
object_at text ws i = number_among (map (λ d. d.name) text.objects) (operand ws i)

abbrev pub class_at : ProgramText → List (List ℕ) → ℕ → ℕ
class_at text ws i = number_among (map (λ c. c.name) text.classes) (operand ws i)

abbrev pub target_at : ThreadDef → List (List ℕ) → List (List ℕ) → ℕ → ℕ
target_at thread later ws i = target_among (section_labels thread later) (operand ws i)

-- the instruction that a line with these operands stands for
abbrev pub instruction_on : ProgramText → ThreadDef → List (List ℕ) → List (List ℕ) → Keyword → Code
instruction_on p t later ws Set = code.Set (local_at t ws 0) (number_at ws 1)
instruction_on p t later ws Add = code.Add (local_at t ws 0) (local_at t ws 1) (local_at t ws 2)
instruction_on p t later ws Sub = code.Sub (local_at t ws 0) (local_at t ws 1) (local_at t ws 2)
instruction_on p t later ws Mul = code.Mul (local_at t ws 0) (local_at t ws 1) (local_at t ws 2)
instruction_on p t later ws Ref = code.Ref (local_at t ws 0) (object_at p ws 1)
instruction_on p t later ws Elem = code.Elem (local_at t ws 0) (object_at p ws 1) (local_at t ws 2)
instruction_on p t later ws Enter = code.Enter (local_at t ws 0)
instruction_on p t later ws Exit = code.Exit (local_at t ws 0)
instruction_on p t later ws Wait = code.Wait (local_at t ws 0)
instruction_on p t later ws Notify = code.Notify (local_at t ws 0)
instruction_on p t later ws NotifyAll = code.NotifyAll (local_at t ws 0)
instruction_on p t later ws Get = code.Get (local_at t ws 0) (local_at t ws 1) (count_at ws 2)
instruction_on p t later ws Put = code.Put (local_at t ws 0) (count_at ws 1) (local_at t ws 2)
instruction_on p t later ws Hash = code.Hash (local_at t ws 0) (local_at t ws 1)
instruction_on p t later ws New = code.New (local_at t ws 0) (class_at p ws 1)
instruction_on p t later ws Print = code.Print (local_at t ws 0)
instruction_on p t later ws Jump = code.Jump (target_at t later ws 0)
instruction_on p t later ws Jlt = code.Jlt (local_at t ws 0) (local_at t ws 1) (target_at t later ws 2)
instruction_on p t later ws Jeq = code.Jeq (local_at t ws 0) (local_at t ws 1) (target_at t later ws 2)
instruction_on p t later ws Dump = code.Dump
instruction_on p t later ws k = code.End

-- the objects that a declaration stands for are numbered after those before it
abbrev pub declared_objects : ProgramText → List (List ℕ) → ℕ → Bool → ObjectDef
declared_objects p ws size array =
    record { name = operand ws 0; class = class_at p ws 1; first = total_of p.objects; size = size; array = array }

-- a line of an open section
abbrev pub thread_after : ProgramText → ThreadDef → List (List ℕ) → List (List ℕ) → Keyword → ThreadDef
thread_after p t later ws Local = record t { locals = t.locals ++ operand ws 0 ∷ [] }
thread_after p t later ws Label =
    record t { labels = t.labels ++ record { name = operand ws 0; index = length t.code + 1 } ∷ [] }
thread_after p t later ws k = record t { code = t.code ++ instruction_on p t later ws k ∷ [] }

-- an `end` closes the section
abbrev pub section_after : ProgramText → ThreadDef → Keyword → Before
section_after p t End = record { text = record p { threads = p.threads ++ t ∷ [] }; section = None }
section_after p t k = record { text = p; section = Some t }

abbrev pub in_section : ProgramText → Option ThreadDef → List (List ℕ) → List (List ℕ) → Keyword → Before
in_section p None later ws k = record { text = p; section = None }
in_section p (Some t) later ws k = section_after p (thread_after p t later ws k) k

-- what stands after a line with this keyword and these operands
abbrev pub after_keyword : Before → List (List ℕ) → List (List ℕ) → Keyword → Before
after_keyword b later ws Class =
    record b {
      text = record b.text
          { classes = b.text.classes ++ record { name = operand ws 0; slots = count_at ws 1 } ∷ [] };
    }
after_keyword b later ws Object =
    record b { text = record b.text { objects = b.text.objects ++ declared_objects b.text ws 1 false ∷ [] } }
after_keyword b later ws Array =
    record b {
      text = record b.text
          { objects = b.text.objects ++ declared_objects b.text ws (count_at ws 2) true ∷ [] };
    }
after_keyword b later ws Thread = record b { section = Some (new_thread (operand ws 0)) }
after_keyword b later ws k = in_section b.text b.section later ws k

abbrev pub after_words : Before → List (List ℕ) → List (List ℕ) → Option Keyword → Before
after_words b later [] k = b
after_words b later (w ∷ ws) None = b
after_words b later (w ∷ ws) (Some k) = after_keyword b later ws k

-- what stands after the line; a line without words changes nothing
abbrev pub after_line : Before → List (List ℕ) → List ℕ → Before
after_line b later line = after_words b later (words_of line) (first_keyword (words_of line))
