use Rattle.std.proofs.Common.{◌≡◌, ◌++◌, map, take}
use Rattle.program_syntax.specs.Canonical.{class_words}
use Rattle.program_syntax.specs.Written.{lines_text}
use Rattle.program_syntax.proofs.write.write_classes.Given as goal

abbrev pub invariant-loop-class : goal.invariant-loop-class
invariant-loop-class l = l.out.items ≡ l.fn.out.items ++ lines_text (map class_words (take l.class-index l.classes))
