use Rattle.std.proofs.Common.{◌≡◌, drop}
use Rattle.program_syntax.specs.Canonical.{label_name}
use Rattle.program_syntax.proofs.write.label_name.Given as goal

abbrev pub invariant-loop-label : goal.invariant-loop-label
invariant-loop-label l = label_name (drop l.label-index l.labels) l.l ≡ label_name l.labels l.l
