-- Logs of a thread that waits, alone and with one that notifies it.
use Rattle.std.specs.Prelude.{ℕ, Some, List, [], ◌∷◌}
use Rattle.plain_monitor.specs.declared.entry.Entry.{Entry}
use Rattle.plain_monitor.specs.declared.entry.Entry.TheVariants.{Enter, Wait, Notify}
use Rattle.plain_monitor.specs.declared.entry.Logged.{Logged}
use Rattle.plain_monitor.specs.declared.entry.Path.TheVariants.{StackFirst}

abbrev pub one_object : List (ℕ × ℕ)
one_object = (0, 0) ∷ []

abbrev pub logged : ℕ → Entry → Logged
logged stamp e = record { stamp = stamp; entry = e }

abbrev pub waiting : List Logged
waiting = logged 1 (Enter 0 StackFirst) ∷ logged 2 (Wait 0) ∷ []

abbrev pub notifying : List Logged
notifying = logged 3 (Enter 0 StackFirst) ∷ logged 4 (Notify 0 (Some 0)) ∷ []
