use Rattle.std.proofs.Common.{◌≡◌, []}
use Rattle.heap_table.specs.Tallies.{counts_shown}
use Rattle.heap_table.proofs.mirror.no_counts.Given as goal

abbrev pub invariant-loop-class : goal.invariant-loop-class
invariant-loop-class l = l.counts.items ≡ counts_shown 0 l._class []
