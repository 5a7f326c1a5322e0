-- How a thread that has begun to end does so.
use Rattle.std.specs.Prelude.{Option, Some, None}
use Rattle.plain_monitor.specs.declared.entry.Ending.{Ending}
use Rattle.plain_machine.specs.declared.monitor_call.Mode.{Mode}
use Rattle.plain_machine.specs.declared.monitor_call.Mode.TheVariants.{Unwinding, Ended}

-- the ending of a thread that leaves its holds for it, or has come to it
abbrev pub ending_begun : Mode → Option Ending
ending_begun (Unwinding e) = Some e
ending_begun (Ended e) = Some e
ending_begun m = None
