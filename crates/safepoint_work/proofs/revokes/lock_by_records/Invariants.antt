use Rattle.heap_table.proofs.StepsLeft.{AreLeft}
use Rattle.safepoint_work.specs.inner.RevokeParts.{locked_steps, mark_locked}
use Rattle.safepoint_work.proofs.RevokeSteps.{records_left}
use Rattle.safepoint_work.proofs.revokes.lock_by_records.Given as goal

abbrev pub invariant-loop-i : goal.invariant-loop-i
invariant-loop-i l = AreLeft l.heap l.call.task l.fn.pass (locked_steps l.call l.revocation l.object l.thread l.holds) l.pass
    (records_left l.call l.revocation l.object l.thread l.holds (mark_locked l.object l.thread l.holds) l.i)
