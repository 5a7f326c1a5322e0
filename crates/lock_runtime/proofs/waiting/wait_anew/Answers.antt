use Rattle.std.proofs.Common.{◌≡◌, refl, sym}
use Rattle.core_world.specs.Threads.ThreadView.{local_of}
use Rattle.core_world.specs.Trees.Operations.{and_then, no_bias}
use Rattle.heap_table.proofs.Aside.{StartsAlike}
use Rattle.lock_runtime.specs.inner.WaitParts.{inflated_wait}
use Rattle.lock_runtime.proofs.PartMade.{first_due, next_due, next_made, last_made}
use Rattle.lock_runtime.proofs.Unbiased.{UnbiasMade, unbias_made, unbias_alike, room_for_two}
use Rattle.lock_runtime.proofs.waiting.wait_anew.Goals as goal
use Rattle.lock_runtime.proofs.waiting.wait_anew.Goals.{After-unbias}

pub unbias-requires-clause-due : goal.unbias-requires-clause-due
unbias-requires-clause-due c =
    let a = c.args in
    let k = a.pass.now.known in
    first_due (λ progress. and_then progress (λ _. inflated_wait a.heap.now.heap.shape a.context.now k.kept (local_of k) a.object)) c.requires.due

-- the end of the bias
unbiased : (c : After-unbias) → let a = c.args in let k = a.pass.now.known in
    UnbiasMade a.heap.now a.pass.now c.unbias.new.pass a.context.now (no_bias a.object a.now)
    (inflated_wait a.heap.now.heap.shape a.context.now k.kept (local_of k) a.object) c.unbias.result
unbiased c = let a = c.args in unbias_made a.context.now (no_bias a.object a.now) c.unbias.ensures _ c.requires.due

-- after it a wait would begin as before
alike : (c : After-unbias) → StartsAlike c.args.pass.now.known c.unbias.new.pass.known
alike c = unbias_alike c.args.context.now (no_bias c.args.object c.args.now) c.unbias.ensures

-- so it goes on by the same steps
waiting : (c : After-unbias) → let a = c.args in let s = a.heap.now.heap.shape in let k = a.pass.now.known in let l = c.unbias.new.pass.known in
    inflated_wait s a.context.now k.kept (local_of k) a.object ≡ inflated_wait s a.context.now l.kept (local_of l) a.object
waiting c = λ i. inflated_wait c.args.heap.now.heap.shape c.args.context.now (sym (alike c).kept i) (sym (alike c).local i) c.args.object

pub wait_inflated-requires-clause-due : goal.wait_inflated-requires-clause-due
wait_inflated-requires-clause-due c =
    let z = (goal.at.wait_inflated-requires-clause-due c).After-unbias in next_due (unbiased z) c.in-Done.is (waiting z)

pub wait_inflated-requires-clause-room : goal.wait_inflated-requires-clause-room
wait_inflated-requires-clause-room c =
    let z = (goal.at.wait_inflated-requires-clause-room c).After-unbias in
    room_for_two c.args.pass.now c.unbias.new.pass (alike z) c.unbias.ensures.limit c.requires.room

pub returns-in-Done : goal.returns-in-Done
returns-in-Done c = let z = (goal.at.returns-in-Done c).After-unbias in next_made (unbiased z) c.in-Done.is (waiting z) c.wait_inflated.ensures

pub returns-in-Pending : goal.returns-in-Pending
returns-in-Pending c = last_made (unbiased (goal.at.returns-in-Pending c).After-unbias) c.in-Pending.is refl
