-- Passes of one heap.
use Rattle.std.specs.Prelude.{◌≡◌, List, [], ◌∷◌}
use Rattle.atomic_table.specs.Seated.{TableId}
use Rattle.heap_table.specs.Seen.{PassSeen}

-- passes of the heap with this table
abbrev pub AllOf : TableId → List PassSeen → Type 0
AllOf table [] = Unit {0}
AllOf table (p ∷ ps) = (p.table ≡ table) × AllOf table ps
