use Rattle.std.proofs.Common.{◌≡◌, ◌++◌, ◌≤◌, drop, map}
use Rattle.std.specs.Prelude.{decimal}
use Rattle.std.specs.List.{AllByRecursion}
use Rattle.object_program.specs.Limits.{most_code}
use Rattle.sync_source.specs.SourceView.{thread_text}
use Rattle.sync_source.specs.Compiled.{size, thread_code}
use Rattle.sync_source.specs.BlockView.{all_of}
use Rattle.sync_source.proofs.compiler.compile_threads.Given as goal

abbrev pub invariant-loop-thread : goal.invariant-loop-thread
invariant-loop-thread l =
    (l.compiled.items ++ map (thread_code decimal) (map thread_text (drop l.thread-index l.threads)) ≡ map (thread_code decimal) (map thread_text l.threads))
    × AllByRecursion (λ t. size (all_of t.body.statements.items) ≤ most_code) (drop l.thread-index l.threads)
