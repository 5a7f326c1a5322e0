use Rattle.std.proofs.Common.{◌≡◌, ◌++◌, take}
use Rattle.program_syntax.specs.Canonical.{code_lines}
use Rattle.program_syntax.specs.Written.{lines_text}
use Rattle.program_syntax.proofs.write.write_code.Given as goal

abbrev pub invariant-loop-i : goal.invariant-loop-i
invariant-loop-i l = l.out.items ≡ l.fn.out.items ++ lines_text (code_lines l.classes l.objects l.thread 1 (take l.i l.code))
