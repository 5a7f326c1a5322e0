-- The words that lines begin with, and the operands that each wants.
use Rattle.std.specs.Prelude.{ℕ, ◌-◌, pos, Bool, true, false, if◌then◌else◌, List, [], ◌∷◌, codes, Option, Some, None}
use Rattle.std.specs.Str.{bytes_eq}
use Rattle.plain_monitor.specs.Numbers.{least_number, greatest_number}
use Rattle.object_program.specs.Limits.{most_slots, most_objects}
use Rattle.program_syntax.specs.declared.keyword.Keyword.{Keyword}
use Rattle.program_syntax.specs.declared.keyword.Keyword.TheVariants.{Class, Object, Array, Thread, Local, Label, Set, Add, Sub}
use Rattle.program_syntax.specs.declared.keyword.Keyword.TheVariants.{Mul, Ref, Elem, Enter, Exit, Wait, Notify, NotifyAll, Get}
use Rattle.program_syntax.specs.declared.keyword.Keyword.TheVariants.{Put, Hash, Print, Jump, Jlt, Jeq, Dump, End}
use Rattle.program_syntax.specs.declared.keyword.Keyword.TheVariants as keyword
use Rattle.program_syntax.specs.declared.operand.Space.TheVariants.{Classes, Objects, Threads, Locals, Labels}
use Rattle.program_syntax.specs.declared.operand.Operand.{Operand}
use Rattle.program_syntax.specs.declared.operand.Operand.TheVariants.{New, Known, Number}

-- how each is spelled
abbrev pub spellings : List (List ℕ × Keyword)
spellings =
    (codes "class", Class) ∷ (codes "object", Object) ∷ (codes "array", Array) ∷ (codes "thread", Thread)
    ∷ (codes "local", Local) ∷ (codes "label", Label) ∷ (codes "set", Set) ∷ (codes "add", Add) ∷ (codes "sub", Sub)
    ∷ (codes "mul", Mul) ∷ (codes "ref", Ref) ∷ (codes "elem", Elem) ∷ (codes "enter", Enter) ∷ (codes "exit", Exit)
    ∷ (codes "wait", Wait) ∷ (codes "notify", Notify) ∷ (codes "notifyall", NotifyAll) ∷ (codes "get", Get)
    ∷ (codes "put", Put) ∷ (codes "hash", Hash) ∷ (codes "new", keyword.New) ∷ (codes "print", Print)
    ∷ (codes "jump", Jump) ∷ (codes "jlt", Jlt) ∷ (codes "jeq", Jeq) ∷ (codes "dump", Dump) ∷ (codes "end", End) ∷ []

-- what the first of these that is spelled so stands for
abbrev pub spelled_among : {X : Type 0} → List (List ℕ × X) → List ℕ → Option X
spelled_among [] word = None
spelled_among (s ∷ ss) word = if bytes_eq s.0 word then Some s.1 else spelled_among ss word

abbrev pub keyword_of : List ℕ → Option Keyword
keyword_of word = spelled_among spellings word

abbrev pub a_local : Operand
a_local = Known Locals

abbrev pub a_slot : Operand
a_slot = Number (pos 0) (pos (most_slots - 1))

-- the operands of a line, in order
abbrev pub operands_of : Keyword → List Operand
operands_of Class = New Classes ∷ Number (pos 0) (pos most_slots) ∷ []
operands_of Object = New Objects ∷ Known Classes ∷ []
operands_of Array = New Objects ∷ Known Classes ∷ Number (pos 1) (pos most_objects) ∷ []
operands_of Thread = New Threads ∷ []
operands_of Local = New Locals ∷ []
operands_of Label = New Labels ∷ []
operands_of Set = a_local ∷ Number least_number greatest_number ∷ []
operands_of Add = a_local ∷ a_local ∷ a_local ∷ []
operands_of Sub = a_local ∷ a_local ∷ a_local ∷ []
operands_of Mul = a_local ∷ a_local ∷ a_local ∷ []
operands_of Ref = a_local ∷ Known Objects ∷ []
operands_of Elem = a_local ∷ Known Objects ∷ a_local ∷ []
operands_of Enter = a_local ∷ []
operands_of Exit = a_local ∷ []
operands_of Wait = a_local ∷ []
operands_of Notify = a_local ∷ []
operands_of NotifyAll = a_local ∷ []
operands_of Get = a_local ∷ a_local ∷ a_slot ∷ []
operands_of Put = a_local ∷ a_slot ∷ a_local ∷ []
operands_of Hash = a_local ∷ a_local ∷ []
operands_of keyword.New = a_local ∷ Known Classes ∷ []
operands_of Print = a_local ∷ []
operands_of Jump = Known Labels ∷ []
operands_of Jlt = a_local ∷ a_local ∷ Known Labels ∷ []
operands_of Jeq = a_local ∷ a_local ∷ Known Labels ∷ []
operands_of Dump = []
operands_of End = []

-- a line that declares a class, an object or an array, or opens a section, stands outside sections
abbrev pub is_outside : Keyword → Bool
is_outside Class = true
is_outside Object = true
is_outside Array = true
is_outside Thread = true
is_outside k = false

-- a line of a section that is an instruction
abbrev pub is_instruction : Keyword → Bool
is_instruction Local = false
is_instruction Label = false
is_instruction Class = false
is_instruction Object = false
is_instruction Array = false
is_instruction Thread = false
is_instruction k = true

-- a line of a section that uses a label
abbrev pub uses_label : Keyword → Bool
uses_label Jump = true
uses_label Jlt = true
uses_label Jeq = true
uses_label k = false
