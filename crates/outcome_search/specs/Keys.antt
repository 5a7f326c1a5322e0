-- The keys of a search: the words of machines of the program.
use Rattle.std.specs.Prelude.{◌≡◌, ℕ, List, Option, MatchOption}
use Rattle.object_program.specs.Program.{ProgramText}
use Rattle.plain_machine.specs.Machine.{PlainMachine}
use Rattle.plain_machine.specs.Sound.{IsSound}
use Rattle.machine_laws.specs.Reached.{IsReached}
use Rattle.every_outcome.specs.Fuel.{refuelled}
use Rattle.every_outcome.specs.Stands.{AllStand}
use Rattle.machine_words.specs.MachineWords.{words_of}
use Rattle.machine_words.specs.Numbers.{HasNumbers}
use Rattle.machine_words.specs.Untouched.{IsUntouched}

-- a machine of the program, as entries lead to it where all threads have this much fuel again after each
pub record IsFound (p : ProgramText) (fuel : ℕ) (m : PlainMachine) : Type 0 where
  pub program : m.program ≡ p
  pub reached : IsReached m
  pub stand : AllStand m
  pub untouched : IsUntouched m
  pub full : refuelled fuel m ≡ m

abbrev pub IsKept : ProgramText → ℕ → PlainMachine → Type 0
IsKept p fuel m = IsFound p fuel m × IsSound m

-- the words of such a machine, whose numbers have 32 bits
pub record IsKey (p : ProgramText) (fuel : ℕ) (key : List ℕ) : Type 0 where
  pub machine : PlainMachine
  pub kept : IsKept p fuel machine
  pub numbers : HasNumbers machine
  pub words : words_of machine ≡ key

-- a machine to load others into, where there is one
abbrev pub IsScratch : ProgramText → ℕ → Option PlainMachine → Type 0
IsScratch p fuel machine = MatchOption machine (Unit {0}) (IsKept p fuel)
