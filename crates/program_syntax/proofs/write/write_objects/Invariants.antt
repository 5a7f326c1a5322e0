use Rattle.std.proofs.Common.{◌≡◌, ◌++◌, map, take}
use Rattle.program_syntax.specs.Canonical.{object_words}
use Rattle.program_syntax.specs.Written.{lines_text}
use Rattle.program_syntax.proofs.write.write_objects.Given as goal

abbrev pub invariant-loop-object : goal.invariant-loop-object
invariant-loop-object l = l.out.items ≡ l.fn.out.items ++ lines_text (map (object_words l.classes) (take l.object-index l.objects))
