use Rattle.std.proofs.Common.{◌≡◌, ◌==◌, ◌≤◌, not, take}
use Rattle.core_world.specs.Locks.{count_where}
use Rattle.heap_table.proofs.holds.Holds.count_searched.Given as goal

abbrev pub invariant-loop-i : goal.invariant-loop-i
invariant-loop-i l = (l.filled ≡ count_where (λ p h. not (h == 0)) 0 (take l.i l.self.words)) × (l.filled ≤ l.i)
