-- What contracts see of a `Line`: the bytes that are written.
use Rattle.std.specs.Prelude.{ℕ, ◌≤◌, List, take}
use Rattle.lock_journal.specs.declared.line.Line.TheInside.{Inside}

abbrev pub line_bytes : Inside → List ℕ
line_bytes a = take a.length a.bytes

abbrev pub IsWithin : Inside → Type 0
IsWithin a = a.length ≤ 512
