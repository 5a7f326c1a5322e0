use Rattle.std.proofs.Common.{◌≡◌, replicate}
use Rattle.bias_check.specs.declared.hashes.Mark.TheVariants.{Unseen}
use Rattle.bias_check.proofs.hashes.new_marks.Given as goal

abbrev pub invariant-loop : goal.invariant-loop
invariant-loop l = l.marks.items ≡ replicate l.counter Unseen
