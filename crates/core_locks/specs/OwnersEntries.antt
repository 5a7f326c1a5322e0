-- Which entries only an object's owner may log.
use Rattle.std.specs.Prelude.{ℕ, ◌==◌, Bool, false}
use Rattle.plain_monitor.specs.declared.entry.Entry.{Entry}
use Rattle.plain_monitor.specs.declared.entry.Entry.TheVariants.{Exit, Get, Put, Wait, Notify, NotifyAll}

-- the entry lets go of o, notifies those who wait on it, or reads or writes a slot of it
abbrev pub is_by_owner : ℕ → Entry → Bool
is_by_owner o (Exit object) = object == o
is_by_owner o (Wait object) = object == o
is_by_owner o (Notify object woken) = object == o
is_by_owner o (NotifyAll object woken) = object == o
is_by_owner o (Get object slot value) = object == o
is_by_owner o (Put object slot value) = object == o
is_by_owner o _ = false
