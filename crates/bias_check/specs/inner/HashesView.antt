-- What contracts see of `Hashes`.
use Rattle.std.specs.Prelude.{◌≤◌, length}
use Rattle.plain_monitor.specs.Limits.{most_in_all}
use Rattle.bias_check.specs.declared.hashes.Hashes.TheInside.{Inside}
use Rattle.bias_check.specs.inner.HashState.{HashState}

abbrev pub hash_state : Inside → HashState
hash_state a = record { marks = a.marks.items; drawers = a.drawers.items }

-- a program's objects have no more numbers
abbrev pub IsSmall : Inside → Type 0
IsSmall a = length a.marks.items ≤ most_in_all
