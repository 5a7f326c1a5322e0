-- What contracts see of an `Object`.
use Rattle.std.specs.Prelude.{◌+◌, ◌≤◌, length}
use Rattle.plain_monitor.specs.Limits.{most_threads}
use Rattle.plain_monitor.specs.Objects.{PlainObject}
use Rattle.plain_machine.specs.declared.object.Object.TheInside.{Inside}

abbrev pub plain_object : Inside → PlainObject
plain_object a = record { monitor = a.monitor.plain; slots = a.slots.items; hash = a.hash }

-- there is room for 16 threads that wait or were called
abbrev pub ObjectHasRoom : Inside → Type 0
ObjectHasRoom a = most_threads ≤ a.monitor.spare + length a.monitor.plain.waits + length a.monitor.plain.called
