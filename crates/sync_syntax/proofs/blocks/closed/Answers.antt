use Rattle.std.proofs.Common.{◌∙◌, ap}
use Rattle.sync_source.specs.Source.{Nothing, If}
use Rattle.sync_source.specs.BlockView.{all_of}
use Rattle.sync_source.proofs.Viewed.{before-Sync, before-If, before-While}
use Rattle.sync_syntax.proofs.blocks.closed.Goals as goal

pub returns-in-Sync : goal.returns-in-Sync
returns-in-Sync c = rw c.in-Sync.is (before-Sync _ _ Nothing)

pub returns-in-If : goal.returns-in-If
returns-in-If c =
    rw c.in-If.is (before-If _ _ _ Nothing ∙ ap (λ items. If c.in-If.test (all_of c.args.statements.items) (all_of items) Nothing) c.new.ensures.items)

pub returns-in-Else : goal.returns-in-Else
returns-in-Else c = rw c.in-Else.is (before-If _ _ _ Nothing)

pub returns-in-While : goal.returns-in-While
returns-in-While c = rw c.in-While.is (before-While _ _ Nothing)
