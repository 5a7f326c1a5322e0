use Rattle.std.proofs.Common.{◌≡◌, false, refl, sym, ap, subst}
use Rattle.core_world.specs.Threads.ThreadView.{Local}
use Rattle.core_world.specs.Threads.Stages.{Revocation}
use Rattle.core_world.specs.Trees.BiasSteps.{bias_drop_steps}
use Rattle.core_world.specs.Trees.Operations.{unbias_tried, revoked_steps}
use Rattle.heap_table.specs.Parts.{IsDueOn, HasMadeSteps}
use Rattle.heap_table.specs.Resting.{start_now}
use Rattle.lock_runtime.proofs.PartMade.{PartMade, first_due, next_due, next_made, last_made, never_next}
use Rattle.lock_runtime.proofs.revoking.unbias_first.Goals as goal
use Rattle.lock_runtime.proofs.revoking.unbias_first.Goals.{After-bias_drop}

pub bias_drop-requires-clause-due : goal.bias_drop-requires-clause-due
bias_drop-requires-clause-due c =
    let a = c.args in
    let h = a.heap.now in
    let object = ap (λ (r : Revocation). r.object) c.bias.view_is in
    subst (λ o. IsDueOn h a.pass.now a.context.now.task (bias_drop_steps h.heap.shape a.context.now o)) (sym object)
    (first_due (λ tried. unbias_tried tried h.heap.shape a.context.now (start_now h a.pass.now) a.bias.now) c.requires.due)

-- the exchange that ends the bias
tried : (c : After-bias_drop) → let a = c.args in let h = a.heap.now in
    PartMade h a.pass.now c.bias_drop.new.pass a.context.now.task (bias_drop_steps h.heap.shape a.context.now a.bias.now.object)
    (λ tried. unbias_tried tried h.heap.shape a.context.now (start_now h a.pass.now) a.bias.now) c.bias_drop.result
tried c =
    let a = c.args in
    let h = a.heap.now in
    let object = ap (λ (r : Revocation). r.object) c.bias.view_is in
    record {
      due = c.requires.due;
      first = refl;
      made = subst (λ o. HasMadeSteps h (bias_drop_steps h.heap.shape a.context.now o) a.pass.now c.bias_drop.new.pass c.bias_drop.result) object
          c.bias_drop.ensures.run;
    }

-- after it the thread is the same
revoked : (c : After-bias_drop) → let a = c.args in let s = a.heap.now.heap.shape in
    revoked_steps s a.pass.now.known.thread false a.context.now a.bias.now
    ≡ revoked_steps s c.bias_drop.new.pass.known.thread false a.context.now a.bias.now
revoked c =
    let a = c.args in
    ap (λ (l : Local). revoked_steps a.heap.now.heap.shape l.thread false a.context.now a.bias.now) (sym c.bias_drop.ensures.kept)

pub revoked-requires-clause-due : goal.revoked-requires-clause-due
revoked-requires-clause-due c =
    let z = (goal.at.revoked-requires-clause-due c).After-bias_drop in next_due (tried z) c.in-Valid.is (revoked z)

pub unreachable-requires : goal.unreachable-requires
unreachable-requires c = never_next (tried (goal.at.unreachable-requires c).After-bias_drop) c.in-Took.is refl

pub returns-in-Unbiased : goal.returns-in-Unbiased
returns-in-Unbiased c = last_made (tried (goal.at.returns-in-Unbiased c).After-bias_drop) c.in-Unbiased.is refl

pub returns-in-Raced : goal.returns-in-Raced
returns-in-Raced c = last_made (tried (goal.at.returns-in-Raced c).After-bias_drop) c.in-Raced.is refl

pub returns-in-Valid : goal.returns-in-Valid
returns-in-Valid c =
    let z = (goal.at.returns-in-Valid c).After-bias_drop in next_made (tried z) c.in-Valid.is (revoked z) c.revoked.ensures
