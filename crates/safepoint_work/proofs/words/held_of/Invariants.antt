use Rattle.std.proofs.Common.{◌≡◌, ◌≤◌, take}
use Rattle.core_world.specs.Locks.{hold_count}
use Rattle.safepoint_work.proofs.words.held_of.Given as goal

abbrev pub invariant-loop-hold : goal.invariant-loop-hold
invariant-loop-hold l = (l.held ≡ hold_count l.object (take l.hold-index l.holds)) × (l.held ≤ l.hold-index)
