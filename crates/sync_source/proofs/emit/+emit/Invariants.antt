use Rattle.std.proofs.Common.{◌≡◌, ◌≤◌, ◌+◌, ◌*◌, ◌++◌, length, drop}
use Rattle.sync_source.specs.BlockView.{before, all_of}
use Rattle.sync_source.specs.Source.{Nothing}
use Rattle.sync_source.specs.Compiled.{size, code_at}
use Rattle.sync_source.proofs.emit.+emit.Given as goal

abbrev pub decreases-emit_block : goal.decreases-emit_block
decreases-emit_block l = 3 * size (all_of l.block.now.statements.items) + 1

abbrev pub decreases-emit_statement : goal.decreases-emit_statement
decreases-emit_statement l = 3 * size (before l.statement.now Nothing)

abbrev pub decreases-emit_sync : goal.decreases-emit_sync
decreases-emit_sync l = 3 * size (all_of l.body.now.statements.items) + 2

abbrev pub decreases-emit_if : goal.decreases-emit_if
decreases-emit_if l =
    3 * (size (all_of l.body.now.statements.items) + size (all_of l.other.now.statements.items)) + 2

abbrev pub decreases-emit_while : goal.decreases-emit_while
decreases-emit_while l = 3 * size (all_of l.body.now.statements.items) + 2

abbrev pub invariant-emit_block-loop-statement : goal.invariant-emit_block-loop-statement
invariant-emit_block-loop-statement l =
    let left = all_of (drop l.statement-index l.statement-items) in
    let all = all_of l.statement-items in
    (l.code.items ++ code_at (length l.code.items) left ≡ l.initial.code.items ++ code_at (length l.initial.code.items) all)
    × (length l.code.items + size left ≡ length l.initial.code.items + size all)
    × (length l.initial.code.items ≤ length l.code.items)
