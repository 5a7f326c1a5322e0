-- Entries that show how a program may end, and what it means that there are none.
use Rattle.std.specs.Prelude.{◌≡◌, ℕ, ◌+◌, List, [], ◌∷◌, ◌++◌, Option, Some, option_and_then}
use Rattle.plain_monitor.specs.Limits.{most_fuel}
use Rattle.plain_monitor.specs.declared.entry.Logged.{Logged}
use Rattle.object_program.specs.Program.{ProgramText}
use Rattle.plain_machine.specs.Machine.{PlainMachine, new_machine}
use Rattle.plain_machine.specs.Legal.{after_all}
use Rattle.every_outcome.specs.Fuel.{refuelled, HasSpent}
use Rattle.outcome_search.specs.declared.ends.End.{End}
use Rattle.outcome_search.specs.Ends.{end_of}
use Rattle.outcome_search.specs.Outcomes.{top_fuel, top_steps}
use Rattle.outcome_search.specs.Real.{LeadsRefuelled}
use Rattle.outcome_search.specs.Settled.{walked}

-- the stamps go on by one, and the first is n + 1
abbrev pub CountOn : ℕ → List (ℕ × Logged) → Type 0
CountOn n [] = Unit {0}
CountOn n (x ∷ xs) = (x.1.stamp ≡ n + 1) × CountOn (n + 1) xs

-- the program's first machine, with the most fuel that a run may have, takes the entries one after the other, each of its thread, and the machine
-- after them ends so. The first has stamp 1, and each other one the next stamp
pub record IsWitness (p : ProgramText) (end : End) (entries : List (ℕ × Logged)) : Type 0 where
  pub machine : PlainMachine
  pub stamps : CountOn 0 entries
  pub leads : after_all (new_machine p most_fuel) entries ≡ Some machine
  pub ends : end_of machine ≡ Some end

-- how the machine ends to which these choices lead, by the walk of a search with the most fuel that a run may have and none given back
abbrev pub end_by : ProgramText → List ℕ → Option End
end_by p choices = option_and_then end_of (walked (λ m. m) top_steps (new_machine p most_fuel) choices)

-- entries of the program lead to a machine that ends so, where the fuel is given back after each; with the most fuel that a run may have and none
-- given back, a thread is spent on the way there, after the first of them
pub record IsCutShort (p : ProgramText) (end : End) : Type 0 where
  pub before : List (ℕ × Logged)
  pub later : List (ℕ × Logged)
  pub found : PlainMachine
  pub leads : LeadsRefuelled top_fuel (refuelled top_fuel (new_machine p top_fuel)) (before ++ later) found
  pub ends : end_of found ≡ Some end
  pub machine : PlainMachine
  pub comes : after_all (new_machine p most_fuel) before ≡ Some machine
  pub spent : HasSpent machine
