use Rattle.sync_tests.proofs.Statements.{round_is}
use Rattle.sync_tests.proofs.counting.round.Goals as goal

pub returns : goal.returns
returns c =
    round_is _ _ _ _ (record { statements = c.push.new.self }) c.new-guarded.ensures.items c.in_ok-push.ensures.items
    c.new-statements.ensures.items c.in_ok-push-2.ensures.items c.in_ok-push-3.ensures.items
