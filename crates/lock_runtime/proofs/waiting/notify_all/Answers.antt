use Rattle.std.proofs.Common.{Ok, refl, sym, ◌∙◌}
use Rattle.core_world.specs.declared.heap_call.Operation.TheVariants as op
use Rattle.core_world.specs.declared.heap_call.HeapCall.TheVariants.{NotifyAll}
use Rattle.core_world.specs.Trees.Calls.{steps_of}
use Rattle.core_world.specs.Trees.Operations.{notify_all_going, notify_all_steps}
use Rattle.core_world.specs.Trees.Plans.{call_context}
use Rattle.core_calls.proofs.Runs.{tells}
use Rattle.core_calls.proofs.wait.WaitCallsSay.{notify_all_says}
use Rattle.core_calls.specs.Woken.{WakesEach}
use Rattle.heap_table.specs.Parts.{HasMadeSteps}
use Rattle.heap_table.specs.Resting.{start_now}
use Rattle.lock_runtime.proofs.Begins.{object_there, room_one}
use Rattle.lock_runtime.proofs.Goes.{GoesIfHeld, goes_due, goes_made, goes_rests}
use Rattle.lock_runtime.proofs.LockedPaths.{notify_all_paths}
use Rattle.lock_runtime.proofs.Looked.{run_thread}
use Rattle.lock_runtime.proofs.OwnLocks.{notify_all_goes, owner_tells}
use Rattle.lock_runtime.proofs.Refused.{differs, refused, tells_nothing, unheld, held}
use Rattle.lock_runtime.proofs.StandsCalls.{notify_all_leaves}
use Rattle.lock_runtime.proofs.Waits.{first_to_notify_all}
use Rattle.lock_runtime.proofs.waiting.notify_all.Goals as goal
use Rattle.lock_runtime.proofs.waiting.notify_all.Goals.{After-unfinished-context}

pub returns-then-held-eq0-clause-run : goal.returns-then-held-eq0-clause-run
returns-then-held-eq0-clause-run c = refused c.args.object _ c.requires.call.rests.is_of (sym c.held.ensures.held ∙ c.if-held-eq0.true)

pub returns-then-held-eq0-clause-says : goal.returns-then-held-eq0-clause-says
returns-then-held-eq0-clause-says c =
    let a = c.args in
    tells (notify_all_says a.heap.now.heap.shape (start_now a.heap.now a.pass.now) a.object a.now) (HasMadeSteps.ran (returns-then-held-eq0-clause-run c))

pub returns-then-held-eq0-clause-owner : goal.returns-then-held-eq0-clause-owner
returns-then-held-eq0-clause-owner c =
    unheld c.args.heap.now c.args.pass.now c.requires.call.rests c.args.object (sym c.held.ensures.held ∙ c.if-held-eq0.true)

pub returns-then-held-eq0-clause-wakes : goal.returns-then-held-eq0-clause-wakes
returns-then-held-eq0-clause-wakes c = tells_nothing c.args.heap.now c.args.pass.now tt

-- the thread has a hold on the object, so the call goes on
goes : (c : After-unfinished-context) → let a = c.args in let h = a.heap.now in let k = start_now h a.pass.now in
    GoesIfHeld h a.pass.now a.object (λ e. notify_all_going h.heap.shape e k a.object a.now) (call_context (NotifyAll a.object a.now) op.NotifyAll a.object)
    c.unfinished-context.result
unfolding steps_of
goes c = record {
  call = c.requires.call;
  steps = refl;
  goes = differs c.held.ensures.held c.if-held-eq0.false;
  context = c.unfinished-context.ensures;
}

pub notify_all_held-requires-clause-due : goal.notify_all_held-requires-clause-due
notify_all_held-requires-clause-due c = goes_due (goes (goal.at.notify_all_held-requires-clause-due c).After-unfinished-context)

pub notify_all_held-requires-clause-object : goal.notify_all_held-requires-clause-object
notify_all_held-requires-clause-object c = object_there c.args.heap.now.heap.shape c.args.pass.now.known c.args.object _ c.requires.call.may

pub notify_all_held-requires-clause-room : goal.notify_all_held-requires-clause-room
notify_all_held-requires-clause-room c = room_one c.args.heap.now c.args.pass.now (NotifyAll c.args.object c.args.now) c.requires

pub returns : goal.returns
returns c =
    let a = c.args in
    let h = a.heap.now in
    let p = a.pass.now in
    let q = c.notify_all_held.new.pass in
    let out = c.notify_all_held.result in
    let s = h.heap.shape in
    let k = start_now h p in
    let rests = c.requires.call.rests in
    let e = call_context (NotifyAll a.object a.now) op.NotifyAll a.object in
    let g = goes (goal.at.returns c).After-unfinished-context in
    let run = goes_made g c.notify_all_held.ensures in
    let leaves = notify_all_leaves h p q run.heap rests a.object a.now c.requires.call.may run.ran in
    let owner = held h p rests a.object g.goes in
    let thread = run_thread h (notify_all_steps s k a.object a.now) p q (Ok out) run in
    record {
      rests = goes_rests g tt (first_to_notify_all s e k a.object a.now) c.notify_all_held.ensures;
      run = run;
      says = tells (notify_all_says s k a.object a.now) run.ran;
      stands = leaves.0;
      others = leaves.1;
      owner = owner;
      wakes = owner_tells h p q rests.is_of run.heap thread a.object owner e (notify_all_goes a.object) 0 (WakesEach s a.object) out leaves.0
          (tells (notify_all_paths s k a.object a.now) run.ran);
    }
