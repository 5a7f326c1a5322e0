use Rattle.std.proofs.Common.{◌≡◌, take}
use Rattle.object_program.specs.Program.{classes_from}
use Rattle.plain_machine.proofs.register.classes_of.Given as goal

abbrev pub invariant-loop-object : goal.invariant-loop-object
invariant-loop-object l = l.classes.items ≡ classes_from (take l.object-index l.objects)
