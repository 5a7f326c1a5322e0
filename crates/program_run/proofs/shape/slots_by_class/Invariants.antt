use Rattle.std.proofs.Common.{◌≡◌, map, take}
use Rattle.program_run.proofs.shape.slots_by_class.Given as goal

abbrev pub invariant-loop-class : goal.invariant-loop-class
invariant-loop-class l = record {
  items : l.class-items ≡ l.program.classes;
  slots : l.slots.items ≡ map (λ c. c.slots) (take l.class-index l.class-items);
}
