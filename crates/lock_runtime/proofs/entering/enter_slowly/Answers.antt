use Rattle.std.proofs.Common.{◌==◌, true, refl, sym, ◌∙◌}
use Rattle.plain_monitor.specs.Limits.{most_holds}
use Rattle.core_world.specs.declared.heap_call.HeapCall.TheVariants.{Enter}
use Rattle.core_world.specs.declared.heap_call.Operation.TheVariants as op
use Rattle.core_world.specs.Trees.Calls.{steps_of}
use Rattle.core_world.specs.Trees.Operations.{enter_going, full_steps}
use Rattle.core_world.specs.Trees.Plans.{call_context, free_place}
use Rattle.core_calls.proofs.enter_exit.EntersSay.{enter_says}
use Rattle.core_calls.proofs.Runs.{tells}
use Rattle.heap_table.specs.Parts.{HasMadeSteps}
use Rattle.heap_table.specs.Resting.{start_now}
use Rattle.lock_runtime.proofs.Enters.{refused, first_if_full, first_to_enter}
use Rattle.lock_runtime.proofs.Goes.{Goes, goes_due, goes_made, goes_rests}
use Rattle.lock_runtime.proofs.StandsCalls.{enter_leaves}
use Rattle.lock_runtime.proofs.entering.enter_slowly.Goals as goal
use Rattle.lock_runtime.proofs.entering.enter_slowly.Goals.{After-unfinished-context}

pub returns-then-is_full-clause-run : goal.returns-then-is_full-clause-run
returns-then-is_full-clause-run c =
    let a = c.args in refused a.heap.now a.pass.now a.object a.now c.requires.call (sym c.is_full.ensures ∙ c.if-is_full.true)

pub returns-then-is_full-clause-says : goal.returns-then-is_full-clause-says
returns-then-is_full-clause-says c =
    let a = c.args in
    tells (enter_says a.heap.now.heap.shape (start_now a.heap.now a.pass.now) a.object a.now) (HasMadeSteps.ran (returns-then-is_full-clause-run c))

-- the thread has a place for one more hold, so the call goes on
goes : (c : After-unfinished-context) → let a = c.args in let h = a.heap.now in let k = start_now h a.pass.now in
    Goes h a.pass.now (free_place a.pass.now.known.holds == most_holds) (full_steps k a.object)
    (λ e. enter_going h.heap.shape e k (record { object = a.object; rebias = true; now = a.now })) (call_context (Enter a.object a.now) op.Enter a.object)
    c.unfinished-context.result
unfolding steps_of
goes c = record { call = c.requires.call; steps = refl; goes = sym c.is_full.ensures ∙ c.if-is_full.false; context = c.unfinished-context.ensures }

pub enter_placed-requires-clause-due : goal.enter_placed-requires-clause-due
enter_placed-requires-clause-due c = goes_due (goes (goal.at.enter_placed-requires-clause-due c).After-unfinished-context)

pub returns : goal.returns
returns c =
    let a = c.args in
    let h = a.heap.now in
    let p = a.pass.now in
    let k = start_now h p in
    let e = call_context (Enter a.object a.now) op.Enter a.object in
    let g = goes (goal.at.returns c).After-unfinished-context in
    let run = goes_made g c.enter_placed.ensures in
    let leaves = enter_leaves h p c.enter_placed.new.pass run.heap c.requires.call.rests a.object a.now c.requires.call.may run.ran in
    record {
      rests = goes_rests g (first_if_full k a.object a.now) (first_to_enter h.heap.shape e k (record { object = a.object; rebias = true; now = a.now }))
          c.enter_placed.ensures;
      run = run;
      says = tells (enter_says h.heap.shape k a.object a.now) run.ran;
      stands = leaves.0;
      others = leaves.1;
    }
