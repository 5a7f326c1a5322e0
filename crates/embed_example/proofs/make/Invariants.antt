use Rattle.std.specs.List.{AllByRecursion}
use Rattle.embed_example.specs.Acts.{HasAdded, IsLeft, op_of}
use Rattle.embed_example.specs.Between.{MayTry}
use Rattle.embed_example.proofs.make.Given as goal

abbrev pub invariant-loop : goal.invariant-loop
invariant-loop g l = record {
  may : MayTry (op_of l.act) l.object l.heap l.pass;
  added : HasAdded (AllByRecursion (IsLeft l.act l.object)) l.initial.pass l.pass;
}
