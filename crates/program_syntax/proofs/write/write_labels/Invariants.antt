use Rattle.std.proofs.Common.{◌≡◌, ◌++◌, map, take}
use Rattle.program_syntax.specs.Canonical.{label_words, labels_at}
use Rattle.program_syntax.specs.Written.{lines_text}
use Rattle.program_syntax.proofs.write.write_labels.Given as goal

abbrev pub invariant-loop-label : goal.invariant-loop-label
invariant-loop-label l = l.out.items ≡ l.fn.out.items ++ lines_text (map label_words (labels_at l.n (take l.label-index l.all)))
