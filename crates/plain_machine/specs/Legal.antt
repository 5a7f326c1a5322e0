-- Which logs are those of a program: the plain machine takes all their entries in stamped order.
use Rattle.std.specs.Prelude.{ℕ, List, Option, IsSome}
use Rattle.std.specs.List.{AllByRecursion}
use Rattle.plain_monitor.specs.declared.entry.Logged.{Logged}
use Rattle.plain_monitor.specs.Order.{order}
use Rattle.plain_monitor.specs.History.{RisesAbove, run_all}
use Rattle.object_program.specs.Program.{ProgramText}
use Rattle.plain_machine.specs.Machine.{PlainMachine, new_machine, take}

-- the machine after these entries, each with its thread, where it takes each
abbrev pub after_all : PlainMachine → List (ℕ × Logged) → Option PlainMachine
after_all m xs = run_all take m xs

-- the machine under the logs: the one after all their entries in stamped order
abbrev pub machine_after : ProgramText → ℕ → List (List Logged) → Option PlainMachine
machine_after p fuel logs = after_all (new_machine p fuel) (order logs)

-- each log's stamps rise strictly from above 0, and the machine takes every entry
pub record IsLegal (p : ProgramText) (fuel : ℕ) (logs : List (List Logged)) : Type 0 where
  pub rises : AllByRecursion (RisesAbove 0) logs
  pub taken : IsSome (machine_after p fuel logs)
