use Rattle.sync_tests.proofs.Statements.{body_is}
use Rattle.sync_tests.proofs.counting.body.Goals as goal

pub returns : goal.returns
returns c =
    body_is _ _ _ _ _ _ _ c.in_ok-round.field-0 c.in_ok-round.ensures c.new-statements.ensures.items
    c.in_ok-push.ensures.items c.in_ok-push-2.ensures.items c.in_ok-push-3.ensures.items
    c.in_ok-push-4.ensures.items c.in_ok-push-5.ensures.items c.in_ok-push-6.ensures.items
