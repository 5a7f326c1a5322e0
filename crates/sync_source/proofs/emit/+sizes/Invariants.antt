use Rattle.std.proofs.Common.{◌≡◌, ◌+◌, ◌*◌, drop}
use Rattle.sync_source.specs.BlockView.{before, all_of}
use Rattle.sync_source.specs.Source.{Nothing}
use Rattle.sync_source.specs.Compiled.{size}
use Rattle.sync_source.proofs.emit.+sizes.Given as goal

abbrev pub decreases-block_size : goal.decreases-block_size
decreases-block_size l = 2 * size (all_of l.block.now.statements.items) + 1

abbrev pub decreases-statement_size : goal.decreases-statement_size
decreases-statement_size l = 2 * size (before l.statement.now Nothing)

abbrev pub invariant-block_size-loop-statement : goal.invariant-block_size-loop-statement
invariant-block_size-loop-statement l = l.sum + size (all_of (drop l.statement-index l.statement-items)) ≡ size (all_of l.block.statements.items)
