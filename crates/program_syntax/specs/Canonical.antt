-- The canonical text of a program: its lines in their order, the words of each separated by single spaces.
use Rattle.std.specs.Prelude.{ℕ, ◌+◌, ◌==◌, if◌then◌else◌, List, [], ◌∷◌, ◌++◌, codes, decimal, filter, map, slice_index_or}
use Rattle.std.specs.Fmt.{signed_decimal}
use Rattle.std.specs.List.{flat_map, join_with_byte}
use Rattle.object_program.specs.Program.{ProgramText}
use Rattle.object_program.specs.declared.program.ClassDef.{ClassDef}
use Rattle.object_program.specs.declared.program.ObjectDef.{ObjectDef}
use Rattle.object_program.specs.declared.program.LabelDef.{LabelDef}
use Rattle.object_program.specs.declared.program.ThreadDef.{ThreadDef}
use Rattle.object_program.specs.declared.program.Code.{Code}
use Rattle.object_program.specs.declared.program.Code.TheVariants.{Set, Add, Sub, Mul, Ref, Elem, Enter, Exit, Wait, Notify, NotifyAll}
use Rattle.object_program.specs.declared.program.Code.TheVariants.{Get, Put, Hash, New, Print, Jump, Jlt, Jeq, Dump, End}

-- the words of a line as text: a space between each two, and a line feed after the last
abbrev pub line_text : List (List ℕ) → List ℕ
line_text words = join_with_byte 32 words ++ 10 ∷ []

-- the names that operands are written with
abbrev pub class_name : List ClassDef → ℕ → List ℕ
class_name classes c = slice_index_or (map (λ d. d.name) classes) c []

abbrev pub object_name : List ObjectDef → ℕ → List ℕ
object_name objects n = slice_index_or (map (λ d. d.name) objects) n []

abbrev pub local_name : List (List ℕ) → ℕ → List ℕ
local_name locals x = slice_index_or locals x []

-- the first label that names this instruction
abbrev pub label_name : List LabelDef → ℕ → List ℕ
label_name [] n = []
label_name (l ∷ ls) n = if l.index == n then l.name else label_name ls n

abbrev pub class_words : ClassDef → List (List ℕ)
class_words c = codes "class" ∷ c.name ∷ decimal c.slots ∷ []

abbrev pub object_words : List ClassDef → ObjectDef → List (List ℕ)
object_words classes d =
    if d.array then codes "array" ∷ d.name ∷ class_name classes d.class ∷ decimal d.size ∷ []
    else codes "object" ∷ d.name ∷ class_name classes d.class ∷ []

abbrev pub opening_words : ThreadDef → List (List ℕ)
opening_words t = codes "thread" ∷ t.name ∷ []

abbrev pub local_words : List ℕ → List (List ℕ)
local_words name = codes "local" ∷ name ∷ []

abbrev pub label_words : LabelDef → List (List ℕ)
label_words l = codes "label" ∷ l.name ∷ []

abbrev pub instruction_words : List ClassDef → List ObjectDef → ThreadDef → Code → List (List ℕ)
instruction_words classes ds t (Set x v) = codes "set" ∷ local_name t.locals x ∷ signed_decimal v ∷ []
instruction_words classes ds t (Add x y z) =
    codes "add" ∷ local_name t.locals x ∷ local_name t.locals y ∷ local_name t.locals z ∷ []
instruction_words classes ds t (Sub x y z) =
    codes "sub" ∷ local_name t.locals x ∷ local_name t.locals y ∷ local_name t.locals z ∷ []
instruction_words classes ds t (Mul x y z) =
    codes "mul" ∷ local_name t.locals x ∷ local_name t.locals y ∷ local_name t.locals z ∷ []
instruction_words classes ds t (Ref x n) = codes "ref" ∷ local_name t.locals x ∷ object_name ds n ∷ []
instruction_words classes ds t (Elem x n i) =
    codes "elem" ∷ local_name t.locals x ∷ object_name ds n ∷ local_name t.locals i ∷ []
instruction_words classes ds t (Enter x) = codes "enter" ∷ local_name t.locals x ∷ []
instruction_words classes ds t (Exit x) = codes "exit" ∷ local_name t.locals x ∷ []
instruction_words classes ds t (Wait x) = codes "wait" ∷ local_name t.locals x ∷ []
instruction_words classes ds t (Notify x) = codes "notify" ∷ local_name t.locals x ∷ []
instruction_words classes ds t (NotifyAll x) = codes "notifyall" ∷ local_name t.locals x ∷ []
instruction_words classes ds t (Get x o k) = codes "get" ∷ local_name t.locals x ∷ local_name t.locals o ∷ decimal k ∷ []
instruction_words classes ds t (Put o k x) = codes "put" ∷ local_name t.locals o ∷ decimal k ∷ local_name t.locals x ∷ []
instruction_words classes ds t (Hash x o) = codes "hash" ∷ local_name t.locals x ∷ local_name t.locals o ∷ []
instruction_words classes ds t (New x c) = codes "new" ∷ local_name t.locals x ∷ class_name classes c ∷ []
instruction_words classes ds t (Print x) = codes "print" ∷ local_name t.locals x ∷ []
instruction_words classes ds t (Jump l) = codes "jump" ∷ label_name t.labels l ∷ []
instruction_words classes ds t (Jlt x y l) =
    codes "jlt" ∷ local_name t.locals x ∷ local_name t.locals y ∷ label_name t.labels l ∷ []
instruction_words classes ds t (Jeq x y l) =
    codes "jeq" ∷ local_name t.locals x ∷ local_name t.locals y ∷ label_name t.labels l ∷ []
instruction_words classes ds t Dump = codes "dump" ∷ []
instruction_words classes ds t End = codes "end" ∷ []

-- the labels that name instruction n, in their order
abbrev pub labels_at : ℕ → List LabelDef → List LabelDef
labels_at n labels = filter (λ l. l.index == n) labels

-- these instructions of a thread, the first of which has number n, each after its labels
abbrev pub code_lines : List ClassDef → List ObjectDef → ThreadDef → ℕ → List Code → List (List (List ℕ))
code_lines classes ds t n [] = []
code_lines classes ds t n (c ∷ cs) =
    map label_words (labels_at n t.labels) ++ instruction_words classes ds t c ∷ code_lines classes ds t (n + 1) cs

-- the section of a thread: its name, its locals and its code
abbrev pub thread_lines : List ClassDef → List ObjectDef → ThreadDef → List (List (List ℕ))
thread_lines classes ds t = opening_words t ∷ map local_words t.locals ++ code_lines classes ds t 1 t.code

-- the lines of a program, each as its words: its classes, its declarations of objects, and its threads
abbrev pub program_lines : ProgramText → List (List (List ℕ))
program_lines p =
    map class_words p.classes ++ map (object_words p.classes) p.objects ++ flat_map (thread_lines p.classes p.objects) p.threads

abbrev pub canonical : ProgramText → List ℕ
canonical p = flat_map line_text (program_lines p)
