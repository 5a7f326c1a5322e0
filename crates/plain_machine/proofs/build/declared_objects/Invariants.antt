use Rattle.std.proofs.Common.{◌≡◌, take}
use Rattle.plain_monitor.specs.Objects.{new_objects}
use Rattle.object_program.specs.Program.{shape_from}
use Rattle.plain_machine.proofs.build.declared_objects.Given as goal

abbrev pub invariant-loop-definition : goal.invariant-loop-definition
invariant-loop-definition l = record {
  items : l.definition-items ≡ l.program.objects;
  objects : l.objects.items ≡ new_objects (shape_from l.program.classes (take l.definition-index l.definition-items));
}
