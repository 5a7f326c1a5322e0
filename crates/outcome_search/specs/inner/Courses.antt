-- Ways that no search goes.
use Rattle.std.specs.Prelude.{[]}
use Rattle.outcome_search.specs.MovesView.{Ways}

abbrev pub no_ways : Ways
no_ways = record { program = record { classes = []; objects = []; threads = [] }; fuel = 0; steps = 0 }
