-- Options with which a program can be run.
use Rattle.std.specs.Prelude.{◌≤◌}
use Rattle.plain_monitor.specs.Limits.{most_fuel}
use Rattle.cli_args.specs.declared.options.Options.{Options}

-- a run can have these options: there is a worker, each turn has an instruction, and the fuel is one that the logs have room for
pub record IsRunnable (o : Options) : Type 0 where
  pub fuel : o.fuel ≤ most_fuel
  pub workers : 1 ≤ o.workers
  pub quantum : 1 ≤ o.quantum
