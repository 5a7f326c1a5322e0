use Rattle.std.proofs.Common.{◌≡◌, ◌==◌, if◌then◌else◌, refl, sym, ◌∙◌, eq-eqb, ne_eqb, arith}
use Rattle.mark_word.specs.declared.mark.MarkForm.TheVariants.{Locked}
use Rattle.mark_word.specs.Mark.{mark_of}
use Rattle.plain_monitor.specs.declared.entry.Path.TheVariants.{StackFirst}
use Rattle.core_world.specs.declared.answer.PendingCause.TheVariants as why
use Rattle.core_world.specs.declared.word_id.WordId.TheVariants.{Displaced, Mark}
use Rattle.core_world.specs.declared.stage.Stage.TheVariants.{Settled, RecordLocked}
use Rattle.core_world.specs.Threads.ThreadView.{local_of}
use Rattle.core_world.specs.Trees.LockSteps.{stack_first_steps, seize_plan, hold_steps}
use Rattle.core_world.specs.Trees.Plans.{free_place, done_with, pending_for}
use Rattle.core_world.specs.Trees.StepTree.{◌>>=◌, after_answer}
use Rattle.heap_table.specs.StepPlans.{store_plan, swap_plan}
use Rattle.heap_table.proofs.Ruled.{there}
use Rattle.heap_table.proofs.StepsLeft.{AreLeft, all_left, can_make, step_made, left_as, left_then, left_else, all_made, part_of, last_made}
use Rattle.heap_table.proofs.StepsLeft.{alike_after, room_after}
use Rattle.stack_lock.proofs.enters.stack_first.Goals as goal
use Rattle.stack_lock.proofs.enters.stack_first.Goals.{After-store, After-encode-locked, After-exchange-found}

pub store-requires : goal.store-requires
store-requires c = can_make (all_left c.requires.heap c.requires.due)
    (λ i. store_plan c.args.call.now Settled (Displaced (c.thread-thread.ensures.same i) (c.free_place-place.ensures.place i)) c.args.mark) refl refl tt

pub encode-locked-requires : goal.encode-locked-requires
encode-locked-requires c =
    let at = there c.args.heap.now c.args.pass.now c.args.call.now.task _ _ c.requires.heap c.requires.due refl in
    (omega (arith, c.thread-thread.ensures.low), omega (arith, at.1, c.free_place-place.ensures.place))

-- THE TWO STEPS. The displaced word is stored,
stored : (c : After-store) → AreLeft c.args.heap.now c.args.call.now.task c.args.pass.now
    (stack_first_steps c.args.call.now (local_of c.args.pass.now.known) c.args.object c.args.mark) c.store.new.pass
    (after_answer (stack_first_steps c.args.call.now (local_of c.args.pass.now.known) c.args.object c.args.mark) c.store.result)
stored c = step_made (all_left c.requires.heap c.requires.due)
    (λ i. store_plan c.args.call.now Settled (Displaced (c.thread-thread.ensures.same i) (c.free_place-place.ensures.place i)) c.args.mark)
    refl refl c.store.ensures

-- and the mark is exchanged, by the tree's plan as the code says it.
seizing : (c : After-encode-locked)
    → swap_plan c.args.call.now (RecordLocked c.args.object c.free_place-place.result) (Mark c.args.object) c.args.mark c.encode-locked.result
    ≡ seize_plan c.args.call.now c.args.pass.now.known.thread c.args.object c.args.mark (free_place c.args.pass.now.known.holds)
seizing c =
    let word : c.encode-locked.result ≡ mark_of (Locked c.args.pass.now.known.thread (free_place c.args.pass.now.known.holds)) =
    c.encode-locked.ensures ∙ λ i. mark_of (Locked (c.thread-thread.ensures.same i) (c.free_place-place.ensures.place i)) in
    λ i. swap_plan c.args.call.now (RecordLocked c.args.object (c.free_place-place.ensures.place i)) (Mark c.args.object) c.args.mark (word i)

exchanged : (c : After-exchange-found) → AreLeft c.args.heap.now c.args.call.now.task c.args.pass.now
    (stack_first_steps c.args.call.now (local_of c.args.pass.now.known) c.args.object c.args.mark) c.exchange-found.new.pass
    (if c.exchange-found.result == c.args.mark
    then hold_steps c.args.call.now (local_of c.exchange-found.new.pass.known) c.args.object StackFirst >>= done_with
    else pending_for (why.Raced c.args.mark c.exchange-found.result))
exchanged c =
    let local : local_of c.exchange-found.new.pass.known ≡ local_of c.args.pass.now.known =
    (alike_after c.exchange-found.ensures refl refl refl).local ∙ (alike_after c.store.ensures refl refl refl).local in
    left_as (step_made (stored c.before.before.before.before) (seizing c.before.before) refl refl c.exchange-found.ensures)
    (λ i. if c.exchange-found.result == c.args.mark
    then hold_steps c.args.call.now (sym local i) c.args.object StackFirst >>= done_with
    else pending_for (why.Raced c.args.mark c.exchange-found.result))

pub exchange-found-requires : goal.exchange-found-requires
exchange-found-requires c =
    can_make (stored (goal.at.exchange-found-requires c).After-store) (seizing (goal.at.exchange-found-requires c).After-encode-locked) refl refl tt

pub hold-requires-clause-due : goal.hold-requires-clause-due
hold-requires-clause-due c =
    part_of done_with (left_then _ _ _ (exchanged (goal.at.hold-requires-clause-due c).After-exchange-found) (eq-eqb _ _ c.if-found-mark.false))

pub hold-requires-clause-room : goal.hold-requires-clause-room
hold-requires-clause-room c = room_after c.exchange-found.ensures refl refl refl (room_after c.store.ensures refl refl refl c.requires.room)

pub returns-then-found-mark : goal.returns-then-found-mark
returns-then-found-mark c =
    all_made (left_else _ _ _ (exchanged (goal.at.returns-then-found-mark c).After-exchange-found) (ne_eqb _ _ c.if-found-mark.true))

pub returns : goal.returns
returns c =
    last_made done_with c.hold.ensures refl (left_then _ _ _ (exchanged (goal.at.returns c).After-exchange-found) (eq-eqb _ _ c.if-found-mark.false))
