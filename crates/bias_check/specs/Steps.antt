-- The run that lines are. Of the entries that a line tells the machine takes at most one, and where it takes one, in the
-- order of stamps and threads, the line is a step.
use Rattle.std.specs.Prelude.{◌≡◌, ℕ, ◌≤◌, List, [], ◌∷◌, IsTrue, Option, Some, None}
use Rattle.plain_monitor.specs.declared.entry.Logged.{Logged}
use Rattle.plain_monitor.specs.Order.{is_before}
use Rattle.object_program.specs.Program.{ProgramText}
use Rattle.plain_machine.specs.Machine.{PlainMachine, take}
use Rattle.bias_check.specs.Lines.{Tells}

-- the entry's stamp and thread stand above those of the one before. The first entry's stamp is at least 1, so all of a run are
abbrev pub IsAbove : Option (ℕ × Logged) → ℕ × Logged → Type 0
IsAbove None x = 1 ≤ x.1.stamp
IsAbove (Some before) x = IsTrue (is_before before x)

-- the line is a step of the machine m to the machine n, by the entry x
pub record IsStep (p : ProgramText) (before : Option (ℕ × Logged)) (m : PlainMachine) (line : List ℕ)
    (x : ℕ × Logged) (n : PlainMachine) : Type 0 where
  pub tells : Tells p line x
  pub above : IsAbove before x
  pub taken : take m x.0 x.1.entry ≡ Some n

-- the lines are a run from the machine m to the machine n, by these entries
abbrev pub IsRun : ProgramText → Option (ℕ × Logged) → PlainMachine → List (List ℕ) → List (ℕ × Logged)
    → PlainMachine → Type 0
IsRun p before m [] [] n = n ≡ m
IsRun p before m [] (x ∷ xs) n = ⊥
IsRun p before m (line ∷ lines) [] n = ⊥
IsRun p before m (line ∷ lines) (x ∷ xs) n =
    (next : PlainMachine) × IsStep p before m line x next × IsRun p (Some x) next lines xs n

-- the last of these entries, or the one before them
abbrev pub last_of : Option (ℕ × Logged) → List (ℕ × Logged) → Option (ℕ × Logged)
last_of before [] = before
last_of before (x ∷ xs) = last_of (Some x) xs
