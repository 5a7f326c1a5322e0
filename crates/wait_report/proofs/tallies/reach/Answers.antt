use Rattle.std.proofs.Common.{sym, subst, arith}
use Rattle.std.proofs.lemmas.Result.{on_ok_weaker}
use Rattle.wait_report.specs.inner.Tallies.{HaveRoom}
use Rattle.wait_report.proofs.Counting.{added_room}
use Rattle.wait_report.proofs.tallies.reach.Goals as goal

pub returns-clause-room : goal.returns-clause-room
returns-clause-room c =
    on_ok_weaker c.push_new.result (λ is. subst (HaveRoom 1) (sym is)
    (added_room 1 c.saturating_sub-missing.result c.args.tallies.now.items (omega arith) c.requires.room)) c.push_new.ensures
