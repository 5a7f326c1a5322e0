-- How a program is run by the options of a command.
use Rattle.program_run.specs.declared.settings.Settings.{Settings}
use Rattle.cli_args.specs.declared.options.Options.{Options}

abbrev pub settings_of : Options → Settings
settings_of o =
    record {
      fuel = o.fuel;
      start = o.start;
      bias = o.bias;
      workers = o.workers;
      quantum = o.quantum;
      tick = o.tick;
    }
