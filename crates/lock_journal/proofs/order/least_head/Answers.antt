use Rattle.std.proofs.Common.{◌≡◌, [], refl}
use Rattle.std.proofs.lemmas.List.{get_or_read_under}
use Rattle.lock_journal.specs.inner.Heads.{stamp_of}
use Rattle.lock_journal.proofs.Merging.{least_step}
use Rattle.lock_journal.proofs.order.least_head.Goals as goal

pub loop-thread-preserved : goal.loop-thread-preserved
loop-thread-preserved c =
    let log = get_or_read_under _ _ _ _ [] c.index-logs-thread.is c.loop-thread-test.true refl in
    let stamp : stamp_of c.args.logs.now c.args.places.now c.loop-thread.thread ≡ c.stamp_at-stamp.result = rw (c.stamp_at-stamp.ensures, log) refl in
    rw c.earlier-least.ensures (least_step _ _ _ _ _ c.loop-thread.invariant stamp)
