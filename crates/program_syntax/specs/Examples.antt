-- A program with a loop, a label and a negative number; and what no text has: a thread with a name of two words, and an object with the number 1
-- though none stands before it.
use Rattle.std.specs.Prelude.{ℕ, pos, negsuc, true, List, [], ◌∷◌, codes}
use Rattle.object_program.specs.Program.{ProgramText}
use Rattle.object_program.specs.declared.program.Code.TheVariants as code
use Rattle.object_program.specs.declared.program.ThreadDef.{ThreadDef}

-- a thread with this name that counts up to 1
abbrev pub counter : List ℕ → ThreadDef
counter name =
    record {
      name = name;
      locals = codes "x" ∷ codes "y" ∷ [];
      labels = record { name = codes "again"; index = 3 } ∷ [];
      code = code.Set 0 (negsuc 2) ∷ code.Set 1 (pos 1) ∷ code.Add 0 0 1 ∷ code.Jlt 0 1 3 ∷ code.Print 0 ∷ code.End ∷ [];
    }

-- class C, this number of its object a, and a thread with this name
abbrev pub text : ℕ → List ℕ → ProgramText
text first name =
    record {
      classes = record { name = codes "C"; slots = 1 } ∷ [];
      objects = record { name = codes "a"; class = 0; first = first; size = 12; array = true } ∷ [];
      threads = counter name ∷ [];
    }

abbrev pub counting : ProgramText
counting = text 0 (codes "t")

abbrev pub of_two_words : ProgramText
of_two_words = text 0 (codes "t u")

abbrev pub numbered_late : ProgramText
numbered_late = text 1 (codes "t")
