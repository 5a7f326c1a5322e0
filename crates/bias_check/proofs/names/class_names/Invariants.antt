use Rattle.std.proofs.Common.{◌≡◌, map, take}
use Rattle.bias_check.proofs.names.class_names.Given as goal

abbrev pub invariant-loop-class : goal.invariant-loop-class
invariant-loop-class l = record {
  items : l.class-items ≡ l.program.classes;
  names : l.names ≡ map (λ t. t.name) (take l.class-index l.class-items);
}
