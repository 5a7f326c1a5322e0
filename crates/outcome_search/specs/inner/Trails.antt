-- The entries that a machine has taken so far, on the way to an end.
use Rattle.std.specs.Prelude.{◌≡◌, ℕ, ◌+◌, List, length, Some}
use Rattle.plain_monitor.specs.Limits.{most_fuel}
use Rattle.plain_monitor.specs.declared.entry.Entry.{Entry}
use Rattle.plain_monitor.specs.declared.entry.Logged.{Logged}
use Rattle.object_program.specs.Program.{ProgramText}
use Rattle.plain_machine.specs.Machine.{PlainMachine, new_machine}
use Rattle.plain_machine.specs.Legal.{after_all}
use Rattle.outcome_search.specs.Witness.{CountOn}

pub record IsTrail (p : ProgramText) (m : PlainMachine) (entries : List (ℕ × Logged)) : Type 0 where
  pub stamps : CountOn 0 entries
  pub leads : after_all (new_machine p most_fuel) entries ≡ Some m

-- the entry with the stamp after those of these
abbrev pub stamped : List (ℕ × Logged) → Entry → Logged
stamped before entry = record { stamp = length before + 1; entry = entry }
