-- The code of a program with blocks.
use Rattle.std.specs.Prelude.{ℕ, zero, suc, ◌+◌, Bool, false, ◌==◌, if◌then◌else◌, List, [], ◌∷◌, ◌++◌, length, map, filter}
use Rattle.std.specs.List.{list_any}
use Rattle.object_program.specs.declared.program.Code.{Code}
use Rattle.object_program.specs.declared.program.Code.TheVariants as instr
use Rattle.object_program.specs.declared.program.LabelDef.{LabelDef}
use Rattle.object_program.specs.declared.program.ThreadDef.{ThreadDef}
use Rattle.object_program.specs.Program.{ProgramText}
use Rattle.sync_source.specs.declared.source.Test.{Test}
use Rattle.sync_source.specs.Source.{Statements, Nothing, Plain, Sync, If, While, SyncText, SyncThreadText}

-- how many instructions the statements need
abbrev pub size : Statements → ℕ
size Nothing = 0
size (Plain c rest) = 1 + size rest
size (Sync x body rest) = 2 + size body + size rest
size (If t body other rest) = 2 + size other + size body + size rest
size (While t body rest) = 3 + size body + size rest

-- goes on after this many instructions where the test holds. A jump names its target by its number, from 1
abbrev pub test_code : Test → ℕ → Code
test_code t place = if t.equal then instr.Jeq t.x t.y (place + 1) else instr.Jlt t.x t.y (place + 1)

-- the instructions of statements that stand after this many others. An `if` has its test, its `else`, a jump past its block, and its block;
-- a `while` its test, a jump past the loop, its block, and a jump to the test
abbrev pub code_at : ℕ → Statements → List Code
code_at at Nothing = []
code_at at (Plain c rest) = c ∷ code_at (at + 1) rest
code_at at (Sync x body rest) =
    instr.Enter x ∷ (code_at (at + 1) body ++ instr.Exit x ∷ code_at (at + 1 + size body + 1) rest)
code_at at (If t body other rest) =
    test_code t (at + 1 + size other + 1)
    ∷ (code_at (at + 1) other
    ++ instr.Jump (at + 1 + size other + 1 + size body + 1)
    ∷ (code_at (at + 1 + size other + 1) body ++ code_at (at + 1 + size other + 1 + size body) rest))
code_at at (While t body rest) =
    test_code t (at + 1 + 1)
    ∷ instr.Jump (at + 1 + 1 + size body + 1 + 1)
    ∷ (code_at (at + 1 + 1) body ++ instr.Jump (at + 1) ∷ code_at (at + 1 + 1 + size body + 1) rest)

-- the instruction may go on at the one with this number
abbrev pub goes_to : ℕ → Code → Bool
goes_to n (instr.Jump l) = l == n
goes_to n (instr.Jlt x y l) = l == n
goes_to n (instr.Jeq x y l) = l == n
goes_to n c = false

-- so many numbers, from n on
abbrev pub numbers_from : ℕ → ℕ → List ℕ
numbers_from n zero = []
numbers_from n (suc k) = n ∷ numbers_from (n + 1) k

-- the numbers that some instruction goes to, in rising order
abbrev pub targets : List Code → List ℕ
targets code = filter (λ n. list_any (goes_to n) code) (numbers_from 1 (length code))

-- the label of a target is `L` and its number
abbrev pub label : (ℕ → List ℕ) → ℕ → LabelDef
label decimal n = record { name = 76 ∷ decimal n; index = n }

abbrev pub thread_code : (ℕ → List ℕ) → SyncThreadText → ThreadDef
thread_code decimal t =
    let code = code_at 0 t.body in
    record { name = t.name; locals = t.locals; labels = map (label decimal) (targets code); code = code }

-- the program that a program with blocks is compiled to, where numbers are written so
abbrev pub compiled : (ℕ → List ℕ) → SyncText → ProgramText
compiled decimal p =
    record { classes = p.classes; objects = p.objects; threads = map (thread_code decimal) p.threads }
