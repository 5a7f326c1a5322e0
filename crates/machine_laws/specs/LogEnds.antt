-- How the logs of a run say how its threads ended.
use Rattle.std.specs.Prelude.{◌-◌, List, length, slice_get, Option, Some, None, option_and_then, IsSome}
use Rattle.std.specs.List.{AllByRecursion}
use Rattle.plain_monitor.specs.declared.entry.Ending.{Ending}
use Rattle.plain_monitor.specs.declared.entry.Ending.TheVariants as ending
use Rattle.plain_monitor.specs.declared.entry.Entry.{Entry}
use Rattle.plain_monitor.specs.declared.entry.Entry.TheVariants.{Trap, Spent, Done}
use Rattle.plain_monitor.specs.declared.entry.Logged.{Logged}

-- the ending that an entry says
abbrev pub ending_said : Entry → Option Ending
ending_said (Trap fault index) = Some (ending.Trap fault index)
ending_said Spent = Some ending.Spent
ending_said Done = Some ending.Done
ending_said e = None

-- the ending that the last entry of a log says
abbrev pub last_said : List Logged → Option Ending
last_said log = option_and_then (λ l. ending_said l.entry) (slice_get log (length log - 1))

-- each of these logs ends with its ending entry
abbrev pub HaveEnded : List (List Logged) → Type 0
HaveEnded logs = AllByRecursion (λ log. IsSome (last_said log)) logs
