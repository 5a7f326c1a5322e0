-- What contracts see of a `MachineMoves`.
use Rattle.std.specs.Prelude.{ℕ, ◌≤◌}
use Rattle.object_program.specs.Program.{ProgramText}
use Rattle.outcome_search.specs.declared.moves.MachineMoves.TheInside.{Inside}
use Rattle.outcome_search.specs.Keys.{IsScratch}

-- a program, the fuel of each thread, and how many entries that go alone are made at once
pub record Ways : Type 0 where
  pub program : ProgramText
  pub fuel : ℕ
  pub steps : ℕ

abbrev pub ways : Inside → Ways
ways a = record { program = a.scratch.value.program; fuel = a.fuel; steps = a.steps }

pub record HasScratch (a : Inside) : Type 0 where
  pub scratch : IsScratch a.scratch.value.program a.fuel a.scratch.value.machine
  pub some : 1 ≤ a.fuel
