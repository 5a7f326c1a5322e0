-- The logs that a run's entries split into.
use Rattle.std.specs.Prelude.{◌≡◌, ℕ, List, length, Some}
use Rattle.plain_monitor.specs.declared.entry.Logged.{Logged}
use Rattle.plain_monitor.specs.Order.{order, of_thread}
use Rattle.plain_monitor.specs.History.{log_of}
use Rattle.object_program.specs.Program.{ProgramText}
use Rattle.plain_machine.specs.Machine.{PlainMachine}
use Rattle.plain_machine.specs.Legal.{IsLegal, machine_after}

-- the entries split into one log for each thread: they are the order of these logs, which are legal, and this machine is the
-- one under them
pub record SplitsIntoLegalLogs (p : ProgramText) (fuel : ℕ) (entries : List (ℕ × Logged))
    (machine : PlainMachine) : Type 0 where
  pub logs : List (List Logged)
  pub threads : length logs ≡ length p.threads
  pub split : (t : ℕ) → log_of logs t ≡ of_thread t entries
  pub ordered : order logs ≡ entries
  pub legal : IsLegal p fuel logs
  pub under : machine_after p fuel logs ≡ Some machine
