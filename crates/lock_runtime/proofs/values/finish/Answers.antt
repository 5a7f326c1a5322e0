use Rattle.std.proofs.Common.{◌≡◌, ◌==◌, refl, sym, ap, ◌∙◌, subst}
use Rattle.std.specs.List.{list_all}
use Rattle.plain_monitor.specs.declared.entry.Entry.{Entry}
use Rattle.core_world.specs.Trees.Plans.{CallContext}
use Rattle.core_world.specs.declared.word_id.WordId.TheVariants.{Waiting}
use Rattle.core_world.specs.declared.plan.StepPlan.{StepPlan}
use Rattle.core_world.specs.declared.stage.Stage.TheVariants.{Settled}
use Rattle.core_world.specs.declared.heap_call.HeapCall.TheVariants.{Finish}
use Rattle.core_world.specs.Threads.ThreadView.{ThreadView, local_of}
use Rattle.core_world.specs.Trees.Calls.{steps_of, may_act}
use Rattle.plain_monitor.specs.Endings.{ending_entry}
use Rattle.core_world.specs.Trees.Operations.{lone_context, store_ended_plan, finish_steps}
use Rattle.core_world.specs.Trees.StepTree.{StepTree, done, ◌>>=◌, ask}
use Rattle.core_world.specs.Trees.WaitSteps.{publish_steps}
use Rattle.core_calls.proofs.OtherCallsSay.{finish_says}
use Rattle.core_calls.proofs.Runs.{tells}
use Rattle.heap_table.specs.Parts.{IsDueOn, HasMadeSteps}
use Rattle.heap_table.specs.Resting.{start_now}
use Rattle.heap_table.specs.StepPlans.{store_plan}
use Rattle.heap_table.specs.Stepping.{CanStep, HasStepped}
use Rattle.heap_table.proofs.Parts.{can, last_step}
use Rattle.heap_table.proofs.Resting.{whole_due, rests_after}
use Rattle.lock_runtime.proofs.Begins.{second_of}
use Rattle.lock_runtime.proofs.PartMade.{PartMade, first_due, next_due, next_made}
use Rattle.lock_runtime.proofs.StandsCalls.{finish_leaves}
use Rattle.lock_runtime.proofs.values.finish.Goals as goal
use Rattle.lock_runtime.proofs.values.finish.Goals.{After-publish, After-encode_wait}

pub publish-requires-clause-due : goal.publish-requires-clause-due
unfolding steps_of
publish-requires-clause-due c =
    let a = c.args in
    let h = a.heap.now in
    let p = a.pass.now in
    let e = lone_context (Finish a.ending) in
    let l = local_of p.known in
    let due = whole_due h p (Finish a.ending) c.requires.call (finish_steps (start_now h p) a.ending) refl in
    let first = first_due (λ _. ask (store_ended_plan e l.thread) >>= (λ _. done (tt {0}))) due in
    subst (λ (x : Entry). IsDueOn h p c.alone-context.result.task (publish_steps x c.alone-context.result l)) (sym c.ending_entry.ensures)
    (subst (λ (x : CallContext). IsDueOn h p x.task (publish_steps (ending_entry a.ending) x l)) (sym c.alone-context.ensures) first)

-- the entry is logged
told : (c : After-publish) → let a = c.args in let e = lone_context (Finish a.ending) in let l = local_of a.pass.now.known in
    PartMade a.heap.now a.pass.now c.publish.new.pass (Finish a.ending) (publish_steps (ending_entry a.ending) e l)
    (λ _. ask (store_ended_plan e l.thread) >>= (λ _. done (tt {0}))) tt
unfolding steps_of
told c =
    let a = c.args in
    let h = a.heap.now in
    let p = a.pass.now in
    record {
      due = whole_due h p (Finish a.ending) c.requires.call (finish_steps (start_now h p) a.ending) refl;
      first = refl;
      made = subst (λ (d : StepTree (Unit {0})). HasMadeSteps h d p c.publish.new.pass tt)
          (λ i. publish_steps (c.ending_entry.ensures i) (c.alone-context.ensures i) (local_of p.known)) c.publish.ensures;
    }

-- by the same thread
same_thread : (c : After-publish) → c.publish.new.pass.known.thread ≡ c.args.pass.now.known.thread
same_thread c = ap (λ (x : ThreadView). x.thread) (told c).made.ran.by.1.0

-- and the waiting word is stored that says that the thread has ended
storing : (c : After-encode_wait) → c.publish.new.pass.known.thread ≡ c.args.pass.now.known.thread
    → store_plan c.alone-context.result Settled (Waiting c.thread.result) c.encode_wait.result
    ≡ store_ended_plan (lone_context (Finish c.args.ending)) c.args.pass.now.known.thread
storing c same = λ i. store_plan (c.alone-context.ensures i) Settled (Waiting ((c.thread.ensures.same ∙ same) i)) (c.encode_wait.ensures i)

pub store-requires : goal.store-requires
store-requires c =
    let h = c.args.heap.now in
    let q = c.publish.new.pass in
    let z = goal.at.store-requires c in
    let part = told z.After-publish in
    let plan = store_ended_plan (lone_context (Finish c.args.ending)) c.args.pass.now.known.thread in
    subst (CanStep h q) (sym (storing z.After-encode_wait (same_thread z.After-publish)))
    (can h q (Finish c.args.ending) plan (λ _. done (tt {0})) (next_due part refl refl) refl part.made.heap tt refl)

pub returns : goal.returns
unfolding steps_of
returns c =
    let a = c.args in
    let h = a.heap.now in
    let p = a.pass.now in
    let q = c.publish.new.pass in
    let r = c.store.new.pass in
    let plan = store_ended_plan (lone_context (Finish a.ending)) p.known.thread in
    let z = goal.at.returns c in
    let made = subst (λ (x : StepPlan). HasStepped h q r x c.store.result) (storing z.After-encode_wait (same_thread z.After-publish)) c.store.ensures in
    let run = next_made (told z.After-publish) refl refl (last_step h q r plan (λ _. done (tt {0})) c.store.result (tt {0}) made refl refl) in
    let may = second_of (list_all (λ h. h == 0) p.known.holds) (may_act p.known) c.requires.call.may in
    record {
      rests = rests_after h p (Finish a.ending) c.requires.call (finish_steps (start_now h p) a.ending) refl refl r (tt {0}) run;
      run = run;
      says = tells (finish_says (start_now h p) a.ending) run.ran;
      stands = finish_leaves h p r run.heap c.requires.call.rests may a.ending run.ran;
    }
