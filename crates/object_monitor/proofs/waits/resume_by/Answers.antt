use Rattle.heap_table.proofs.StepsLeft.{all_left, left_as, all_made}
use Rattle.object_monitor.proofs.Resuming.{owned}
use Rattle.object_monitor.proofs.waits.resume_by.Goals as goal

pub returns-in_default : goal.returns-in_default
returns-in_default c =
    let a = c.args in
    all_made (left_as (all_left c.requires.heap c.requires.due)
    (owned a.heap.now a.pass.now a.call.now _ a.saved a.object a.monitor a.found c.requires.heap a.form c.requires.due c.in_default.not-Free))
