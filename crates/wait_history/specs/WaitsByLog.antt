-- Whether a thread waits on an object, by its own log.
use Rattle.std.specs.Prelude.{ℕ, ◌==◌, ◌||◌, ◌&&◌, not, Bool, List, [], ◌∷◌}
use Rattle.plain_monitor.specs.declared.entry.Entry.{Entry}
use Rattle.plain_monitor.specs.declared.entry.Entry.TheVariants as entry
use Rattle.plain_monitor.specs.declared.entry.Logged.{Logged}

-- whether it waits on o after this entry, where it did or didn't before: a Wait begins it, and the Resume ends it, notified or not yet in between
abbrev pub waits_after : Entry → Bool → ℕ → Bool
waits_after (entry.Wait object) waits o = waits || (object == o)
waits_after (entry.Resume object) waits o = waits && not (object == o)
waits_after _ waits o = waits

-- and after these entries
abbrev pub waits_by : Bool → List Logged → ℕ → Bool
waits_by waits [] o = waits
waits_by waits (l ∷ log) o = waits_by (waits_after l.entry waits o) log o
