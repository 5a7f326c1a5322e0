use Rattle.std.proofs.Common.{◌≡◌, ℕ, Some, refl, sym, ap, ◌∙◌}
use Rattle.lock_policy.specs.declared.policy.Verdict.{Verdict}
use Rattle.lock_policy.specs.Policy.{decided, is_reset}
use Rattle.core_world.specs.declared.word_id.WordId.TheVariants.{Revocations}
use Rattle.core_world.specs.declared.plan.LocalEffect.TheVariants.{CountVerdict}
use Rattle.core_world.specs.Threads.Stages.{Revocation}
use Rattle.core_world.specs.Trees.Plans.{with_own}
use Rattle.core_world.specs.Trees.RevocationSteps.{revoke_plan, verdict_steps, decided_steps}
use Rattle.core_world.specs.Trees.StepTree.{done, ◌>>=◌}
use Rattle.heap_table.specs.StepPlans.{store_plan}
use Rattle.heap_table.proofs.StepsLeft.{AreLeft, all_left, can_make, step_made, last_made, thread_stays}
use Rattle.safepoint_work.proofs.After.{made_as, due_as}
use Rattle.safepoint_work.proofs.verdicts.decide_and_revoke.Goals as goal
use Rattle.safepoint_work.proofs.verdicts.decide_and_revoke.Goals.{After-stage, After-store_and_keep}

-- the verdict and the new count of this revocation
abbrev verdict : (c : After-stage) → Verdict × ℕ
verdict c = decided c.args.count c.args.last c.args.revocation.now.now

verdict_is : (c : After-stage) → c.decide-verdict.result ≡ verdict c
verdict_is c = c.decide-verdict.ensures ∙ ap (λ (r : Revocation). decided c.args.count c.args.last r.now) c.revocation.view_is

-- the code's words for the tree's plan, and for the steps of the verdict
counting : (c : After-stage) → with_own (CountVerdict c.args.class c.decide-verdict.result.0 c.has_decayed-reset.result)
    (store_plan c.args.call.now c.stage.result (Revocations c.args.class) c.decide-verdict.result.1)
    ≡ revoke_plan c.args.call.now c.args.revocation.now
    (CountVerdict c.args.class (verdict c).0 (is_reset c.args.count c.args.last c.args.revocation.now.now)) (Revocations c.args.class) (verdict c).1
counting c =
    let its = verdict_is c in
    let reset = c.has_decayed-reset.ensures ∙ ap (λ (r : Revocation). is_reset c.args.count c.args.last r.now) c.revocation.view_is in
    λ i. with_own (CountVerdict c.args.class (its i).0 (reset i))
    (store_plan c.args.call.now (c.stage.ensures i) (Revocations c.args.class) (its i).1)

carried : (c : After-store_and_keep) → verdict_steps c.args.heap.now.heap.shape c.store_and_keep.new.pass.known.thread c.args.class c.args.call.now
    c.args.revocation.now (Some c.args.epoch) c.decide-verdict.result.0
    ≡ verdict_steps c.args.heap.now.heap.shape c.args.pass.now.known.thread c.args.class c.args.call.now c.args.revocation.now (Some c.args.epoch)
    (verdict c.before).0
carried c = λ i. verdict_steps c.args.heap.now.heap.shape (thread_stays c.store_and_keep.ensures i) c.args.class c.args.call.now c.args.revocation.now
    (Some c.args.epoch) (verdict_is c.before i).0

-- the count is stored
counted : (c : After-store_and_keep) → AreLeft c.args.heap.now c.args.call.now.task c.args.pass.now (decided_steps c.args.heap.now.heap.shape
    c.args.pass.now.known.thread c.args.class c.args.call.now c.args.revocation.now (Some c.args.epoch) c.args.count c.args.last)
    c.store_and_keep.new.pass (verdict_steps c.args.heap.now.heap.shape c.args.pass.now.known.thread c.args.class c.args.call.now c.args.revocation.now
    (Some c.args.epoch) (verdict c.before).0 >>= (λ took. done (record { verdict = (verdict c.before).0; took = took })))
counted c = step_made (all_left c.requires.heap c.requires.due) (counting c.before) refl refl c.store_and_keep.ensures

pub store_and_keep-requires : goal.store_and_keep-requires
store_and_keep-requires c = can_make (all_left c.requires.heap c.requires.due) (counting (goal.at.store_and_keep-requires c).After-stage) refl refl tt

pub carry_out-took-requires-clause-due : goal.carry_out-took-requires-clause-due
carry_out-took-requires-clause-due c =
    let z = (goal.at.carry_out-took-requires-clause-due c).After-store_and_keep in
    due_as (λ took. done (record { verdict = (verdict z.before).0; took = took })) (counted z) (carried z)

pub returns : goal.returns
returns c =
    let z = (goal.at.returns c).After-store_and_keep in
    last_made (λ took. done (record { verdict = (verdict z.before).0; took = took })) (made_as c.carry_out-took.ensures (carried z))
    (λ i. done (record { verdict = (sym (verdict_is z.before) i).0; took = c.carry_out-took.result })) (counted z)
