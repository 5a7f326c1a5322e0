use Rattle.lock_runtime_c.proofs.QuickCalls.{leaves_quickly, may_leave}
use Rattle.lock_runtime_c.proofs.exits.exit_quickly.Goals as goal

pub exit_at_once-requires : goal.exit_at_once-requires
exit_at_once-requires c =
    let a = c.args in
    let there = c.is_there.ensures c.if-not-is_there.false in
    let free = c.requires.free there.0 in
    record { rests = c.requires.kept.rests; may = may_leave a.heap.now a.pass.now a.object c.requires.kept free there.1; free = free }

pub returns : goal.returns
returns c =
    let a = c.args in
    let there = c.is_there.ensures c.if-not-is_there.false in
    let came = c.exit_at_once.ensures in
    leaves_quickly a.heap.now a.pass.now a.object c.requires.kept (c.requires.free there.0) there.1 c.exit_at_once.new.pass c.exit_at_once.result
    came.held came.left came.free
