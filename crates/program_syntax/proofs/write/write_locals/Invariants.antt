use Rattle.std.proofs.Common.{◌≡◌, ◌++◌, map, take}
use Rattle.program_syntax.specs.Canonical.{local_words}
use Rattle.program_syntax.specs.Written.{lines_text}
use Rattle.program_syntax.proofs.write.write_locals.Given as goal

abbrev pub invariant-loop-local : goal.invariant-loop-local
invariant-loop-local l = l.out.items ≡ l.fn.out.items ++ lines_text (map local_words (take l.local-index l.locals))
