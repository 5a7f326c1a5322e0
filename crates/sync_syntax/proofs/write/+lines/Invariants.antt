use Rattle.std.proofs.Common.{◌≡◌, ◌≤◌, ◌+◌, ◌*◌, ◌++◌, drop}
use Rattle.sync_source.specs.BlockView.{before, all_of}
use Rattle.sync_source.specs.Source.{Nothing}
use Rattle.sync_source.specs.Compiled.{size}
use Rattle.sync_syntax.specs.inner.Written.{statements_text}
use Rattle.sync_syntax.proofs.write.+lines.Given as goal

abbrev pub decreases-write_block : goal.decreases-write_block
decreases-write_block l = 3 * size (all_of l.block.now.statements.items) + 1

abbrev pub decreases-write_statement : goal.decreases-write_statement
decreases-write_statement l = 3 * size (before l.statement.now Nothing)

abbrev pub decreases-write_sync_block : goal.decreases-write_sync_block
decreases-write_sync_block l = 3 * size (all_of l.body.now.statements.items) + 2

abbrev pub decreases-write_if : goal.decreases-write_if
decreases-write_if l =
    3 * (size (all_of l.body.now.statements.items) + size (all_of l.other.now.statements.items)) + 3

abbrev pub decreases-write_else : goal.decreases-write_else
decreases-write_else l = 3 * size (all_of l.other.now.statements.items) + 2

abbrev pub decreases-write_while : goal.decreases-write_while
decreases-write_while l = 3 * size (all_of l.body.now.statements.items) + 2

abbrev pub invariant-write_block-loop-statement : goal.invariant-write_block-loop-statement
invariant-write_block-loop-statement l =
    let left = all_of (drop l.statement-index l.statement-items) in
    let all = all_of l.statement-items in
    (l.out.items ++ statements_text l.classes l.objects l.thread left ≡ l.initial.out.items ++ statements_text l.classes l.objects l.thread all)
    × (size left ≤ size all)
