-- The handover program for n items as data.
use Rattle.std.specs.Prelude.{ℕ, pos, true, false, List, [], ◌∷◌, codes}
use Rattle.object_program.specs.Program.{ProgramText}
use Rattle.object_program.specs.declared.program.ClassDef.{ClassDef}
use Rattle.object_program.specs.declared.program.ObjectDef.{ObjectDef}
use Rattle.object_program.specs.declared.program.LabelDef.{LabelDef}
use Rattle.object_program.specs.declared.program.ThreadDef.{ThreadDef}
use Rattle.object_program.specs.declared.program.Code.{Code}
use Rattle.object_program.specs.declared.program.Code.TheVariants.{Set, Add, Ref, Elem, Enter, Exit, Wait, NotifyAll, Get, Put, Print, Jump, Jlt, Jeq, End}

abbrev pub classes : List ClassDef
classes = record { name = codes "Item"; slots = 0 } ∷ record { name = codes "Flag"; slots = 1 } ∷ []

abbrev pub objects : ℕ → List ObjectDef
objects n =
    record { name = codes "items"; class = 0; first = 0; size = n; array = true }
    ∷ record { name = codes "flag"; class = 1; first = n; size = 1; array = false } ∷ []

-- the locals of each thread, whose numbers are 0 to 6
abbrev pub locals : List (List ℕ)
locals = codes "f" ∷ codes "o" ∷ codes "i" ∷ codes "n" ∷ codes "one" ∷ codes "two" ∷ codes "s" ∷ []

abbrev pub label : List ℕ → ℕ → LabelDef
label name index = record { name = name; index = index }

abbrev pub first_labels : List LabelDef
first_labels =
    label (codes "a") 6 ∷ label (codes "b") 14 ∷ label (codes "c") 18 ∷ label (codes "d") 22 ∷ label (codes "e") 27 ∷ []

abbrev pub second_labels : List LabelDef
second_labels = label (codes "a") 7 ∷ label (codes "b") 11 ∷ label (codes "c") 12 ∷ []

abbrev pub first_code : ℕ → List Code
first_code n =
    Ref 0 1 ∷ Set 2 (pos 0) ∷ Set 3 (pos n) ∷ Set 4 (pos 1) ∷ Set 5 (pos 2)
    ∷ Elem 1 0 2 ∷ Enter 1 ∷ Exit 1 ∷ Add 2 2 4 ∷ Jlt 2 3 6
    ∷ Enter 0 ∷ Put 0 0 4 ∷ NotifyAll 0 ∷ Get 6 0 0 ∷ Jeq 6 5 18 ∷ Wait 0 ∷ Jump 14 ∷ Exit 0
    ∷ Set 2 (pos 19) ∷ Jlt 2 3 22 ∷ Jump 27
    ∷ Elem 1 0 2 ∷ Enter 1 ∷ Exit 1 ∷ Add 2 2 4 ∷ Jlt 2 3 22
    ∷ Print 3 ∷ End ∷ []

abbrev pub second_code : ℕ → List Code
second_code n =
    Ref 0 1 ∷ Set 2 (pos 0) ∷ Set 3 (pos n) ∷ Set 4 (pos 1) ∷ Set 5 (pos 2)
    ∷ Enter 0 ∷ Get 6 0 0 ∷ Jeq 6 4 11 ∷ Wait 0 ∷ Jump 7 ∷ Exit 0
    ∷ Elem 1 0 2 ∷ Enter 1 ∷ Exit 1 ∷ Add 2 2 4 ∷ Jlt 2 3 12
    ∷ Enter 0 ∷ Put 0 0 5 ∷ NotifyAll 0 ∷ Exit 0 ∷ End ∷ []

abbrev pub first_thread : ℕ → ThreadDef
first_thread n = record { name = codes "t1"; locals = locals; labels = first_labels; code = first_code n }

abbrev pub second_thread : ℕ → ThreadDef
second_thread n = record { name = codes "t2"; locals = locals; labels = second_labels; code = second_code n }

abbrev pub handover_of_items : ℕ → ProgramText
handover_of_items n = record {
  classes = classes;
  objects = objects n;
  threads = first_thread n ∷ second_thread n ∷ [];
}
