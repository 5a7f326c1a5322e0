use Rattle.std.proofs.Common.{if◌then◌else◌, refl, sym}
use Rattle.core_world.specs.declared.answer.PendingCause.TheVariants.{Requested}
use Rattle.core_world.specs.declared.word_id.WordId.TheVariants.{Safepoint}
use Rattle.core_world.specs.Trees.Plans.{load, pending_for}
use Rattle.core_world.specs.Trees.SafepointSteps.{has_requester, request_steps, request_swap_steps}
use Rattle.heap_table.proofs.StepsLeft.{AreLeft, all_left, can_make, step_made, left_as, left_then, left_else, all_made, thread_stays}
use Rattle.safepoint.proofs.Forms.{asks}
use Rattle.safepoint.proofs.asking.request.Goals as goal
use Rattle.safepoint.proofs.asking.request.Goals.{After-look-word}

pub look-word-requires : goal.look-word-requires
look-word-requires c = can_make (all_left c.requires.heap c.requires.due) (λ i. load (c.unchecked.ensures i) Safepoint) refl refl tt

-- the word is loaded, in a step of a call that checks nothing, and the thread is the same
looked : (c : After-look-word) → AreLeft c.args.heap.now c.args.call.now.task c.args.pass.now
    (request_steps c.args.call.now c.args.pass.now.known.thread) c.look-word.new.pass
    (if has_requester c.look-word.result.0 then pending_for (Requested c.look-word.result.0)
    else request_swap_steps c.args.call.now c.look-word.new.pass.known.thread c.look-word.result.0)
looked c =
    let stepped = c.look-word.ensures.stepped in
    left_as (step_made (all_left c.requires.heap c.requires.due) (λ i. load (c.unchecked.ensures i) Safepoint) refl refl stepped)
    (λ i. if has_requester c.look-word.result.0 then pending_for (Requested c.look-word.result.0)
    else request_swap_steps c.args.call.now (sym (thread_stays stepped) i) c.look-word.result.0)

pub request_from-requires-clause-due : goal.request_from-requires-clause-due
request_from-requires-clause-due c =
    (left_else _ _ _ (looked (goal.at.request_from-requires-clause-due c).After-look-word)
    (asks _ _ c.look-word.ensures.form _ _ c.has_requester.ensures c.if-has_requester.false)).due

pub returns-then-has_requester : goal.returns-then-has_requester
returns-then-has_requester c =
    all_made (left_then _ _ _ (looked (goal.at.returns-then-has_requester c).After-look-word)
    (asks _ _ c.look-word.ensures.form _ _ c.has_requester.ensures c.if-has_requester.true))

pub returns : goal.returns
returns c =
    (left_else _ _ _ (looked (goal.at.returns c).After-look-word)
    (asks _ _ c.look-word.ensures.form _ _ c.has_requester.ensures c.if-has_requester.false)).whole _ _ c.request_from.ensures
