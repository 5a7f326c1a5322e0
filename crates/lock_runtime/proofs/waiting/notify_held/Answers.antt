use Rattle.std.proofs.Common.{◌≡◌, refl, sym, ap}
use Rattle.core_world.specs.Threads.ThreadView.{Local, local_of}
use Rattle.core_world.specs.Trees.Operations.{and_then, no_bias}
use Rattle.lock_runtime.specs.inner.WaitParts.{marked_notify}
use Rattle.lock_runtime.proofs.PartMade.{first_due, next_due, next_made, last_made, room_after}
use Rattle.lock_runtime.proofs.Unbiased.{UnbiasMade, unbias_made, unbias_alike}
use Rattle.lock_runtime.proofs.waiting.notify_held.Goals as goal
use Rattle.lock_runtime.proofs.waiting.notify_held.Goals.{After-unbias}

pub unbias-requires-clause-due : goal.unbias-requires-clause-due
unbias-requires-clause-due c =
    let a = c.args in
    first_due (λ progress. and_then progress (λ _. marked_notify a.heap.now.heap.shape a.context.now (local_of a.pass.now.known) a.object)) c.requires.due

-- the end of the bias
unbiased : (c : After-unbias) → let a = c.args in UnbiasMade a.heap.now a.pass.now c.unbias.new.pass a.context.now (no_bias a.object a.now)
    (marked_notify a.heap.now.heap.shape a.context.now (local_of a.pass.now.known) a.object) c.unbias.result
unbiased c = let a = c.args in unbias_made a.context.now (no_bias a.object a.now) c.unbias.ensures _ c.requires.due

-- after it the notify goes by the same log and own words
same : (c : After-unbias) → local_of c.unbias.new.pass.known ≡ local_of c.args.pass.now.known
same c = (unbias_alike c.args.context.now (no_bias c.args.object c.args.now) c.unbias.ensures).local

pub notify_marked-requires-clause-due : goal.notify_marked-requires-clause-due
notify_marked-requires-clause-due c =
    let a = c.args in
    let z = (goal.at.notify_marked-requires-clause-due c).After-unbias in
    next_due (unbiased z) c.in-Done.is (ap (λ (l : Local). marked_notify a.heap.now.heap.shape a.context.now l a.object) (sym (same z)))

pub notify_marked-requires-clause-room : goal.notify_marked-requires-clause-room
notify_marked-requires-clause-room c =
    let z = (goal.at.notify_marked-requires-clause-room c).After-unbias in room_after (unbiased z) (same z) c.requires.room

pub returns-in-Done : goal.returns-in-Done
returns-in-Done c =
    let a = c.args in
    let z = (goal.at.returns-in-Done c).After-unbias in
    next_made (unbiased z) c.in-Done.is (ap (λ (l : Local). marked_notify a.heap.now.heap.shape a.context.now l a.object) (sym (same z)))
    c.notify_marked.ensures

pub returns-in-Pending : goal.returns-in-Pending
returns-in-Pending c = last_made (unbiased (goal.at.returns-in-Pending c).After-unbias) c.in-Pending.is refl
