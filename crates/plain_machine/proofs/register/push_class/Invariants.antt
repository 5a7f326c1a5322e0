use Rattle.std.proofs.Common.{◌≡◌, ◌++◌, replicate}
use Rattle.plain_machine.proofs.register.push_class.Given as goal

abbrev pub invariant-loop : goal.invariant-loop
invariant-loop l = l.classes.items ≡ l.initial.classes.items ++ replicate l.counter l.class
