-- Every end of a program: what a search for them says, with neither words nor keys.
use Rattle.std.specs.Prelude.{◌≡◌, ◌⊎◌, ℕ, ◌≤◌, List, length, slice_get, Some, count_by}
use Rattle.plain_monitor.specs.declared.entry.Entry.{Entry}
use Rattle.plain_monitor.specs.declared.entry.Logged.{Logged}
use Rattle.object_program.specs.Program.{ProgramText}
use Rattle.plain_machine.specs.Machine.{PlainMachine, new_machine, take}
use Rattle.plain_machine.specs.Legal.{machine_after}
use Rattle.every_outcome.specs.Covered.{IsSeen}
use Rattle.every_outcome.specs.Fuel.{refuelled, HasSpent, IsCoveredFull}
use Rattle.every_outcome.specs.Led.{IsOver}
use Rattle.outcome_search.specs.declared.ends.End.{End}
use Rattle.outcome_search.specs.declared.ends.End.TheVariants.{Spent, Stuck, Faulted, Ended}
use Rattle.outcome_search.specs.declared.outcome.Outcomes.{Outcomes}
use Rattle.outcome_search.specs.Ends.{end_of}
use Rattle.outcome_search.specs.Outcomes.{is_end, top_fuel}
use Rattle.outcome_search.specs.Real.{IsLed, IsReal}

-- how many of these machines end so
abbrev pub so_many : End → List PlainMachine → ℕ
so_many end machines = count_by (λ m. is_end end (end_of m)) machines

-- different machines, up to the fuel that is left; entries of the program lead to each where fuel is given back, and, but for those with a
-- spent thread, with enough fuel and none given back
pub record AreReal (p : ProgramText) (fuel : ℕ) (machines : List PlainMachine) : Type 0 where
  pub once : (j k : ℕ) (m : PlainMachine) → slice_get machines j ≡ Some m → slice_get machines k ≡ Some m → j ≡ k
  pub led : (k : ℕ) (m : PlainMachine) → slice_get machines k ≡ Some m → IsLed p fuel m
  pub real : (k : ℕ) (m : PlainMachine) → slice_get machines k ≡ Some m → HasSpent m ⊎ IsReal p fuel m

-- each machine under logs that is over is among them, whatever fuel the threads had up to this, but for those with a spent thread
abbrev pub HaveEveryEnd : ProgramText → ℕ → List PlainMachine → Type 0
HaveEveryEnd p fuel machines =
    (less : ℕ) (logs : List (List Logged)) (n : PlainMachine) → less ≤ fuel → machine_after p less logs ≡ Some n → IsOver n
    → HasSpent n ⊎ IsSeen machines (refuelled fuel n)

-- the search went on from each machine without a spent thread: the list covers the first machine, and each one after an entry of such a one, so
-- that a spent thread to which entries lead is in the list
pub record IsGoneInto (p : ProgramText) (fuel : ℕ) (machines : List PlainMachine) : Type 0 where
  pub first : IsCoveredFull fuel machines (refuelled fuel (new_machine p fuel))
  pub next : (m n : PlainMachine) (t : ℕ) (e : Entry) → IsSeen machines m → take m t e ≡ Some n
      → HasSpent m ⊎ IsCoveredFull fuel machines (refuelled fuel n)

-- these are the counts of so many machines at most, each with this fuel; and where none of them is open, they have every end
pub record IsEveryEndWith (p : ProgramText) (fuel most : ℕ) (o : Outcomes) : Type 0 where
  pub kept : List PlainMachine
  pub are : AreReal p fuel kept
  pub states : o.states ≡ length kept
  pub ended : o.ended ≡ so_many Ended kept
  pub faulted : o.faulted ≡ so_many Faulted kept
  pub stuck : o.stuck ≡ so_many Stuck kept
  pub spent : o.spent ≡ so_many Spent kept
  pub few : o.states ≤ most
  pub within : o.«open» ≤ o.states
  -- it stops only where there are as many as may be
  pub stops : (o.«open» ≡ 0) ⊎ (o.states ≡ most)
  pub all : o.«open» ≡ 0 → HaveEveryEnd p fuel kept
  pub gone : o.«open» ≡ 0 → IsGoneInto p fuel kept

-- the same with the most fuel that a run may have
abbrev pub IsEveryEnd : ProgramText → ℕ → Outcomes → Type 0
IsEveryEnd p most o = IsEveryEndWith p top_fuel most o
