use Rattle.std.proofs.Common.{◌≡◌, ◌++◌, take}
use Rattle.std.specs.List.{flat_map}
use Rattle.program_syntax.specs.Canonical.{thread_lines}
use Rattle.program_syntax.specs.Written.{lines_text}
use Rattle.program_syntax.proofs.write.write_threads.Given as goal

abbrev pub invariant-loop-thread : goal.invariant-loop-thread
invariant-loop-thread l = l.out.items ≡ l.fn.out.items ++ lines_text (flat_map (thread_lines l.classes l.objects) (take l.thread-index l.threads))
