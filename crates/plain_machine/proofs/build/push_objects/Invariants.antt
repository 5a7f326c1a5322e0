use Rattle.std.proofs.Common.{◌≡◌, ◌++◌, replicate}
use Rattle.plain_monitor.specs.Objects.{new_object}
use Rattle.plain_machine.proofs.build.push_objects.Given as goal

abbrev pub invariant-loop : goal.invariant-loop
invariant-loop l = l.objects.items ≡ l.initial.objects.items ++ replicate l.counter (new_object l.slots)
