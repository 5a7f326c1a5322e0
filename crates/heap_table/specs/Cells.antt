-- The cells of a dump, as a shot shows them.
use Rattle.std.specs.Prelude.{ℕ, List, map, Option}
use Rattle.heap_table.specs.declared.shots.Cell.{Cell}

abbrev pub cells_shown : List Cell → List (Option ℕ × ℕ)
cells_shown cells = map (λ (c : Cell). (c.owner, c.count)) cells
