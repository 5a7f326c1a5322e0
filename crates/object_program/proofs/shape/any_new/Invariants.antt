use Rattle.std.proofs.Common.{◌≡◌, drop}
use Rattle.std.specs.List.{list_any}
use Rattle.object_program.specs.Program.{is_new}
use Rattle.object_program.proofs.shape.any_new.Given as goal

abbrev pub invariant-loop-instruction : goal.invariant-loop-instruction
invariant-loop-instruction l = list_any is_new (drop l.instruction-index l.code) ≡ list_any is_new l.code
