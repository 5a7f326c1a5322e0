-- The entry that an ending logs.
use Rattle.plain_monitor.specs.declared.entry.Ending.{Ending}
use Rattle.plain_monitor.specs.declared.entry.Ending.TheVariants as ending
use Rattle.plain_monitor.specs.declared.entry.Entry.{Entry}
use Rattle.plain_monitor.specs.declared.entry.Entry.TheVariants.{Trap, Spent, Done}

-- the last entry of a thread that ends so
abbrev pub ending_entry : Ending → Entry
ending_entry (ending.Trap fault index) = Trap fault index
ending_entry ending.Spent = Spent
ending_entry ending.Done = Done
