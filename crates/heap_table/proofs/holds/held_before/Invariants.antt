use Rattle.std.proofs.Common.{◌≡◌, ◌≤◌, take}
use Rattle.core_world.specs.Locks.{hold_count}
use Rattle.heap_table.proofs.holds.held_before.Given as goal

abbrev pub invariant-loop-i : goal.invariant-loop-i
invariant-loop-i l = (l.held ≡ hold_count l.object (take l.i l.words)) × (l.held ≤ l.i)
