-- A text in which the block of a `sync` has no `done` before the `end`.
use Rattle.std.specs.Prelude.{ℕ, List, codes}

abbrev pub unclosed : List ℕ
unclosed = codes "class C 0\nobject a C\nthread t\nlocal x\nref x a\nsync x\nprint x\nend\n"
