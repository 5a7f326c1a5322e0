use Rattle.sync_source.specs.BlockView.{all_of}
use Rattle.sync_syntax.proofs.OpenBlocks.{block-closed}
use Rattle.sync_syntax.proofs.blocks.without_block.Goals as goal

pub returns-in-Ok : goal.returns-in-Ok
returns-in-Ok c =
    block-closed c.args.blocks.opened.items c.pop.new.self.items c.in-Some.field-0 c.push.new.self.items c.closed.result (all_of c.args.blocks.statements.items)
    c.in-Some.ensures.items c.in-Ok.ensures.items c.closed.ensures
