use Rattle.std.proofs.Common.{◌≡◌, drop}
use Rattle.plain_machine.specs.Asking.{held_from}
use Rattle.plain_machine.proofs.thread.first_held.Given as goal

abbrev pub invariant-loop-object : goal.invariant-loop-object
invariant-loop-object l = held_from l.object (drop l.object l.holds) ≡ held_from 0 l.holds
