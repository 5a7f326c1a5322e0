-- When the objects can take an entry or refuse it: no count passes its number, and there is room for who waits.
use Rattle.std.specs.Prelude.{ℕ, ◌+◌, ◌<◌, ◌≤◌, List, length}
use Rattle.plain_monitor.specs.Limits.{most_threads, most_holds}
use Rattle.plain_monitor.specs.declared.entry.Entry.{Entry}
use Rattle.plain_monitor.specs.declared.entry.Entry.TheVariants.{Enter, Wait, Resume}
use Rattle.plain_monitor.specs.Monitor.{without}
use Rattle.plain_monitor.specs.Objects.{PlainObject}
use Rattle.plain_machine.specs.Sound.{monitor_in}

abbrev pub IsTakable : List PlainObject → ℕ → Entry → Type 0
IsTakable objects t (Enter o path) = (monitor_in objects o).count ≤ most_holds
IsTakable objects t (Wait o) = length (monitor_in objects o).waits + length (monitor_in objects o).called < most_threads
IsTakable objects t (Resume o) =
    length (monitor_in objects o).called ≤ length (without (monitor_in objects o).called t) + 1
IsTakable objects t e = Unit {0}
