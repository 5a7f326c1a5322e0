use Rattle.std.proofs.Common.{◌≡◌, take}
use Rattle.bias_check.proofs.names.object_names.Given as goal

abbrev pub invariant-loop-object : goal.invariant-loop-object
invariant-loop-object l = record {
  items : l.object-items ≡ l.program.objects;
  objects : l.objects ≡ take l.object-index l.object-items;
}
