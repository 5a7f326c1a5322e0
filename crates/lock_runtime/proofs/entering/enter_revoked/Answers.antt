use Rattle.std.proofs.Common.{◌≡◌, ℕ, Bool, refl, sym, ap, ◌∙◌}
use Rattle.core_world.specs.Threads.Stages.{Revocation}
use Rattle.core_world.specs.Trees.Operations.{and_then, revocation_steps}
use Rattle.heap_table.specs.Resting.{start_now}
use Rattle.heap_table.proofs.Aside.{StartsAlike}
use Rattle.lock_runtime.specs.inner.Parts.{enter_again}
use Rattle.lock_runtime.proofs.Asides.{revocation_aside}
use Rattle.lock_runtime.proofs.PartMade.{PartMade, first_due, next_due, next_made, last_made, alike_after, room_after}
use Rattle.lock_runtime.proofs.Revoked.{first_revocation, again_alike}
use Rattle.lock_runtime.proofs.entering.enter_revoked.Goals as goal
use Rattle.lock_runtime.proofs.entering.enter_revoked.Goals.{After-revocation}

pub revocation-requires-clause-due : goal.revocation-requires-clause-due
revocation-requires-clause-due c =
    let a = c.args in
    let k = start_now a.heap.now a.pass.now in
    first_due (λ progress. and_then progress (λ took. enter_again a.heap.now.heap.shape a.context.now k a.bias.now.object took)) c.requires.due

-- the bias was revoked, or the revocation is pending
revoked : (c : After-revocation) → let a = c.args in let h = a.heap.now in let k = start_now h a.pass.now in
    PartMade h a.pass.now c.revocation.new.pass a.context.now.task
    (revocation_steps h.heap.shape k.local.thread a.requesting a.context.now a.bias.now)
    (λ progress. and_then progress (λ took. enter_again h.heap.shape a.context.now k a.bias.now.object took)) c.revocation.result
revoked c =
    let a = c.args in
    record {
      due = c.requires.due;
      first = first_revocation a.heap.now.heap.shape a.pass.now.known.thread a.requesting a.context.now a.bias.now;
      made = c.revocation.ensures;
    }

-- an enter would begin now as before
alike : (c : After-revocation) → StartsAlike c.args.pass.now.known c.revocation.new.pass.known
alike c =
    let a = c.args in
    alike_after (revoked c) (revocation_aside a.context.now a.bias.now a.heap.now.heap.shape a.pass.now.known.thread a.requesting)

-- so it goes on by the same steps, for the object as the code reads it
again : (c : After-revocation) (took : Bool) (o : ℕ) → c.args.bias.now.object ≡ o → let a = c.args in let s = a.heap.now.heap.shape in
    enter_again s a.context.now (start_now a.heap.now a.pass.now) a.bias.now.object took
    ≡ enter_again s a.context.now (start_now a.heap.now c.revocation.new.pass) o took
again c took o object =
    let a = c.args in
    let h = a.heap.now in
    let q = start_now h c.revocation.new.pass in
    again_alike h.heap.shape a.context.now (start_now h a.pass.now) q a.bias.now.object took (sym (alike c).local) (sym (alike c).kept)
    ∙ λ i. enter_again h.heap.shape a.context.now q (object i) took

pub enter_again-requires-clause-due : goal.enter_again-requires-clause-due
enter_again-requires-clause-due c =
    let z = (goal.at.enter_again-requires-clause-due c).After-revocation in
    let object = ap (λ (r : Revocation). r.object) c.bias.view_is in
    next_due (revoked z) c.in-Done.is (again z c.in-Done.took c.bias.inside.object (sym object))

pub enter_again-requires-clause-room : goal.enter_again-requires-clause-room
enter_again-requires-clause-room c =
    let z = (goal.at.enter_again-requires-clause-room c).After-revocation in room_after (revoked z) (alike z).local c.requires.room

pub returns-in-Done : goal.returns-in-Done
returns-in-Done c =
    let z = (goal.at.returns-in-Done c).After-revocation in
    let object = ap (λ (r : Revocation). r.object) c.bias.view_is in
    next_made (revoked z) c.in-Done.is (again z c.in-Done.took c.bias.inside.object (sym object)) c.enter_again.ensures

pub returns-in-Pending : goal.returns-in-Pending
returns-in-Pending c = last_made (revoked (goal.at.returns-in-Pending c).After-revocation) c.in-Pending.is refl
