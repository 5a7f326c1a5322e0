use Rattle.sync_source.specs.declared.source.Statement.TheVariants as statement
use Rattle.sync_syntax.proofs.OpenBlocks.{statement-added}
use Rattle.sync_syntax.proofs.blocks.with_instruction.Goals as goal

pub returns-in-Ok : goal.returns-in-Ok
returns-in-Ok c = statement-added _ _ _ (statement.Plain c.args.code) c.in-Ok.ensures.items
