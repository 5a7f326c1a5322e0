use Rattle.std.proofs.Common.{◌≡◌, ◌++◌, map, take}
use Rattle.std.specs.List.{flat_map}
use Rattle.program_syntax.specs.Written.{lines_text}
use Rattle.sync_source.specs.SourceView.{thread_text}
use Rattle.sync_syntax.specs.Canonical.{section_lines}
use Rattle.sync_syntax.proofs.write.write_threads.Given as goal

abbrev pub invariant-loop-thread : goal.invariant-loop-thread
invariant-loop-thread l =
    l.out.items ≡ l.fn.out.items ++ lines_text (flat_map (section_lines l.classes l.objects) (map thread_text (take l.thread-index l.threads)))
