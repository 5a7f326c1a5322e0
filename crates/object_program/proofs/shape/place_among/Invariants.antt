use Rattle.std.proofs.Common.{◌≡◌, drop}
use Rattle.object_program.specs.Program.{place_from}
use Rattle.object_program.proofs.shape.place_among.Given as goal

abbrev pub invariant-loop-object : goal.invariant-loop-object
invariant-loop-object l = record {
  counted : l.number ≡ l.object-index;
  same : place_from l.number (drop l.object-index l.objects) l.o ≡ place_from 0 l.objects l.o;
}
