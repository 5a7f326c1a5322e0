use Rattle.std.proofs.Common.{◌≡◌, take}
use Rattle.object_program.specs.Program.{classes_from}
use Rattle.program_run.proofs.shape.classes_by_object.Given as goal

abbrev pub invariant-loop-definition : goal.invariant-loop-definition
invariant-loop-definition l = record {
  items : l.definition-items ≡ l.program.objects;
  classes : l.classes.items ≡ classes_from (take l.definition-index l.definition-items);
}
