use Rattle.std.proofs.Common.{refl}
use Rattle.core_world.specs.Trees.Operations.{and_then, no_bias}
use Rattle.heap_table.specs.Resting.{start_now}
use Rattle.heap_table.proofs.Aside.{StartsAlike}
use Rattle.lock_runtime.specs.inner.HashParts.{hash_unbiased}
use Rattle.lock_runtime.proofs.Hashed.{hash_alike}
use Rattle.lock_runtime.proofs.PartMade.{first_due, next_due, next_made, last_made, room_after}
use Rattle.lock_runtime.proofs.Unbiased.{UnbiasMade, unbias_made, unbias_alike}
use Rattle.lock_runtime.proofs.hashing.hash_going.Goals as goal
use Rattle.lock_runtime.proofs.hashing.hash_going.Goals.{After-unbias}

pub unbias-requires-clause-due : goal.unbias-requires-clause-due
unbias-requires-clause-due c =
    let a = c.args in
    let h = a.heap.now in
    first_due (λ progress. and_then progress (λ _. hash_unbiased h.heap.shape a.context.now (start_now h a.pass.now) a.object)) c.requires.due

-- the end of the bias
unbiased : (c : After-unbias) → let a = c.args in let h = a.heap.now in
    UnbiasMade h a.pass.now c.unbias.new.pass a.context.now (no_bias a.object a.now)
    (hash_unbiased h.heap.shape a.context.now (start_now h a.pass.now) a.object) c.unbias.result
unbiased c = let a = c.args in unbias_made a.context.now (no_bias a.object a.now) c.unbias.ensures _ c.requires.due

-- after it a hash would begin as before
alike : (c : After-unbias) → StartsAlike c.args.pass.now.known c.unbias.new.pass.known
alike c = unbias_alike c.args.context.now (no_bias c.args.object c.args.now) c.unbias.ensures

pub hash_unbiased-requires-clause-due : goal.hash_unbiased-requires-clause-due
hash_unbiased-requires-clause-due c =
    let a = c.args in
    let z = (goal.at.hash_unbiased-requires-clause-due c).After-unbias in
    next_due (unbiased z) c.in-Done.is (hash_alike a.heap.now a.pass.now c.unbias.new.pass a.context.now a.object (alike z))

pub hash_unbiased-requires-clause-room : goal.hash_unbiased-requires-clause-room
hash_unbiased-requires-clause-room c =
    let z = (goal.at.hash_unbiased-requires-clause-room c).After-unbias in room_after (unbiased z) (alike z).local c.requires.room

pub returns-in-Done : goal.returns-in-Done
returns-in-Done c =
    let a = c.args in
    let z = (goal.at.returns-in-Done c).After-unbias in
    next_made (unbiased z) c.in-Done.is (hash_alike a.heap.now a.pass.now c.unbias.new.pass a.context.now a.object (alike z)) c.hash_unbiased.ensures

pub returns-in-Pending : goal.returns-in-Pending
returns-in-Pending c = last_made (unbiased (goal.at.returns-in-Pending c).After-unbias) c.in-Pending.is refl
