-- The answer to a journal: what each answer says, of which exactly one holds.
use Rattle.std.specs.Prelude.{◌≡◌, ℕ, ◌+◌, ◌<◌, not, true, false, if◌then◌else◌, List, ◌∷◌, ◌++◌, length, None, Result, Ok, Err}
use Rattle.std.specs.List.{AllByRecursion, list_all}
use Rattle.plain_monitor.specs.declared.entry.Logged.{Logged}
use Rattle.object_program.specs.Program.{ProgramText}
use Rattle.plain_machine.specs.Machine.{PlainMachine, new_machine, is_live, is_stuck}
use Rattle.bias_check.specs.declared.answer.Checked.{Checked}
use Rattle.bias_check.specs.declared.answer.Checked.TheVariants.{Legal, NoStep, BadHash}
use Rattle.bias_check.specs.declared.answer.Reached.{Reached}
use Rattle.bias_check.specs.declared.answer.Reached.TheVariants.{Ended, Stuck, Open}
use Rattle.bias_check.specs.declared.answer.CheckFault.{CheckFault}
use Rattle.bias_check.specs.declared.answer.CheckFault.TheVariants.{Unreadable, NoMemory}
use Rattle.bias_check.specs.Lines.{Tells, IsReadable}
use Rattle.bias_check.specs.Steps.{IsStep, IsRun, last_of}
use Rattle.lock_journal.specs.Hashes.{hash_fits}

-- how the threads stand
abbrev pub state_of : PlainMachine → Reached
state_of m = if list_all (λ s. not (is_live s)) m.threads then Ended else if is_stuck m then Stuck else Open

-- the line with this number is the first that tells no entry
pub record IsFirstUnreadable (p : ProgramText) (lines : List (List ℕ)) (number : ℕ) : Type 0 where
  pub front : List (List ℕ)
  pub line : List ℕ
  pub rest : List (List ℕ)
  pub split : lines ≡ front ++ line ∷ rest
  pub place : number ≡ length front + 1
  pub readable : AllByRecursion (IsReadable p) front
  pub unreadable : (x : ℕ × Logged) → Tells p line x → ⊥

-- each line tells an entry, and the line with this number is the first that is no step
pub record IsFirstWithoutStep (p : ProgramText) (fuel : ℕ) (lines : List (List ℕ)) (number : ℕ) : Type 0 where
  pub readable : AllByRecursion (IsReadable p) lines
  pub front : List (List ℕ)
  pub line : List ℕ
  pub rest : List (List ℕ)
  pub split : lines ≡ front ++ line ∷ rest
  pub place : number ≡ length front + 1
  pub entries : List (ℕ × Logged)
  pub machine : PlainMachine
  pub run : IsRun p None (new_machine p fuel) front entries machine
  pub no_step : (x : ℕ × Logged) (n : PlainMachine) → IsStep p (last_of None entries) machine line x n → ⊥

-- the lines are a run, in which the hashes of this object don't fit, and those of each one before it do
pub record IsLeastBadHash (p : ProgramText) (fuel start : ℕ) (lines : List (List ℕ)) (object : ℕ) : Type 0 where
  pub entries : List (ℕ × Logged)
  pub machine : PlainMachine
  pub run : IsRun p None (new_machine p fuel) lines entries machine
  pub bad : hash_fits start entries object ≡ false
  pub least : (o : ℕ) → o < object → hash_fits start entries o ≡ true

-- the lines are a run of so many entries, in which all hashes fit, and after it the threads stand so
pub record IsLegalRun (p : ProgramText) (fuel start : ℕ) (lines : List (List ℕ)) (count : ℕ)
    (state : Reached) : Type 0 where
  pub entries : List (ℕ × Logged)
  pub machine : PlainMachine
  pub run : IsRun p None (new_machine p fuel) lines entries machine
  pub fits : (o : ℕ) → hash_fits start entries o ≡ true
  pub counted : count ≡ length entries
  pub stands : state ≡ state_of machine

-- what each answer says of the lines; want of memory says nothing
abbrev pub IsTrueOf : ProgramText → ℕ → ℕ → List (List ℕ) → Result Checked CheckFault → Type 0
IsTrueOf p fuel start lines (Ok (Legal count state)) = IsLegalRun p fuel start lines count state
IsTrueOf p fuel start lines (Ok (NoStep number)) = IsFirstWithoutStep p fuel lines number
IsTrueOf p fuel start lines (Ok (BadHash object)) = IsLeastBadHash p fuel start lines object
IsTrueOf p fuel start lines (Err (Unreadable number)) = IsFirstUnreadable p lines number
IsTrueOf p fuel start lines (Err NoMemory) = Unit {0}
