use Rattle.std.proofs.Common.{◌≡◌, ◌≤◌, take, drop}
use Rattle.core_world.specs.Trees.WaitSteps.{waiters, by_age}
use Rattle.object_monitor.specs.inner.NotifyParts.{first_of}
use Rattle.object_monitor.proofs.notifies.oldest.Given as goal

-- the oldest from the last thread down so far
abbrev pub invariant-loop-left : goal.invariant-loop-left
invariant-loop-left l = (l.left ≤ l.count) × (l.oldest ≡ first_of (by_age (waiters l.object l.left (drop l.left (take l.count l.words)))))

abbrev pub decreases-loop-left : goal.decreases-loop-left
decreases-loop-left l = l.left
