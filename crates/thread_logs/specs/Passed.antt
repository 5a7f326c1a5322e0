-- A machine that logs pass through.
use Rattle.std.specs.Prelude.{◌≡◌, ℕ, List, Some}
use Rattle.object_program.specs.Program.{ProgramText}
use Rattle.plain_history.specs.Cuts.{cut_logs, logs_since}
use Rattle.plain_machine.specs.Legal.{after_all, machine_after}
use Rattle.plain_machine.specs.Machine.{PlainMachine}
use Rattle.plain_monitor.specs.declared.entry.Logged.{Logged}
use Rattle.plain_monitor.specs.Order.{order}

-- it is the one under the logs before the cut, and takes all later entries in stamped order, after which it is this last one
pub record IsOnTheWay (p : ProgramText) (fuel : ℕ) (logs : List (List Logged)) (cut : List ℕ) (last machine : PlainMachine) : Type 0 where
  pub under : machine_after p fuel (cut_logs cut logs) ≡ Some machine
  pub onward : after_all machine (order (logs_since cut logs)) ≡ Some last
