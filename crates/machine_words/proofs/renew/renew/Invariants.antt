use Rattle.std.proofs.Common.{◌≡◌}
use Rattle.plain_monitor.specs.Objects.{new_object}
use Rattle.machine_words.proofs.renew.renew.Given as goal

abbrev pub invariant-loop : goal.invariant-loop
invariant-loop l = l.object ≡ new_object l.counter
