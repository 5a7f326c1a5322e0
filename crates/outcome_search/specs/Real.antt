-- Machines that entries of the program lead to, and those that a run comes to.
use Rattle.std.specs.Prelude.{◌≡◌, ℕ, ◌+◌, ◌*◌, List, [], ◌∷◌, length, Some}
use Rattle.plain_monitor.specs.declared.entry.Logged.{Logged}
use Rattle.object_program.specs.Program.{ProgramText}
use Rattle.plain_machine.specs.Machine.{PlainMachine, new_machine, take}
use Rattle.plain_machine.specs.Legal.{after_all}
use Rattle.every_outcome.specs.Fuel.{refuelled}

-- these entries lead from m to n, where all threads get this much fuel again after each
abbrev pub LeadsRefuelled : ℕ → PlainMachine → List (ℕ × Logged) → PlainMachine → Type 0
LeadsRefuelled fuel m [] n = m ≡ n
LeadsRefuelled fuel m (x ∷ xs) n =
    (a : PlainMachine) × (take m x.0 x.1.entry ≡ Some a) × LeadsRefuelled fuel (refuelled fuel a) xs n

-- some entries do from the program's first machine
pub record IsLed (p : ProgramText) (fuel : ℕ) (m : PlainMachine) : Type 0 where
  pub entries : List (ℕ × Logged)
  pub leads : LeadsRefuelled fuel (refuelled fuel (new_machine p fuel)) entries m

-- entries lead there from the first machine, with this much fuel for each of them and none given back, up to the fuel that is left
pub record IsReal (p : ProgramText) (fuel : ℕ) (m : PlainMachine) : Type 0 where
  pub entries : List (ℕ × Logged)
  pub machine : PlainMachine
  pub leads : after_all (new_machine p (fuel + length entries * fuel)) entries ≡ Some machine
  pub same : refuelled fuel machine ≡ m
