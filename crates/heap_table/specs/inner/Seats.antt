-- On what the steps of a call are made: the table of a heap of this setting, and the seat of one thread.
use Rattle.std.specs.Prelude.{◌≡◌, List, [], ◌∷◌}
use Rattle.core_world.specs.Threads.ThreadView.{ThreadView}
use Rattle.atomic_table.specs.Seated.{TableId}
use Rattle.atomic_table.specs.declared.shared.Seat.{Seat}
use Rattle.heap_table.specs.Layout.{word_count}
use Rattle.heap_table.specs.Ruled.{only}
use Rattle.heap_table.specs.declared.setting.Setting.{Setting}

-- the table has the words of a heap of this setting
abbrev pub IsTableOf : Setting → Setting → TableId → Type 0
IsTableOf g key table = (key ≡ g) × (table.words ≡ word_count g.shape)

-- the seat is one thread's, on this table
abbrev pub IsSeatOn : TableId → Seat (Unit {0}) (List ThreadView) → Type 0
IsSeatOn table s = (s.table_id ≡ table) × (s.me ≡ (only s.me.0 ∷ [], []))
