use Rattle.std.proofs.Common.{◌≡◌, ◌+◌, refl, sym, ap, ◌∙◌, arith}
use Rattle.core_world.specs.declared.stage.Stage.TheVariants.{Enters}
use Rattle.core_world.specs.Locks.{hold_count}
use Rattle.core_world.specs.Trees.LockSteps.{hold_plan, hold_steps}
use Rattle.core_world.specs.Trees.Plans.{free_place}
use Rattle.core_world.specs.Words.Forms.{hold_word}
use Rattle.heap_table.specs.StepPlans.{store_hold_plan}
use Rattle.core_world.specs.Threads.ThreadView.{ThreadView, local_of}
use Rattle.stack_lock.specs.inner.Parts.{entered_by}
use Rattle.stack_lock.proofs.Room.{room}
use Rattle.heap_table.proofs.Ruled.{there, few_objects}
use Rattle.heap_table.proofs.StepsLeft.{AreLeft, all_left, can_make, step_made, left_as}
use Rattle.stack_lock.proofs.enters.hold.Goals as goal
use Rattle.stack_lock.proofs.enters.hold.Goals.{After-encode_hold-word, After-store_hold}

pub encode_hold-word-requires : goal.encode_hold-word-requires
encode_hold-word-requires c =
    let a = c.args in
    let at = there a.heap.now a.pass.now a.call.now.task _ _ c.requires.heap c.requires.due refl in
    let objects = few_objects a.heap.now a.pass.now c.requires.heap in
    let deep = room a.object a.pass.now.known.holds c.free_place-place.ensures.all at.1 in
    let held = c.held-depth.ensures.held in
    (omega (arith, c.requires.object, objects), omega arith, omega (arith, deep, held))

-- the tree's plan, as the code says it
holding : (c : After-encode_hold-word)
    → store_hold_plan c.args.call.now (Enters c.args.object c.free_place-place.result c.args.path) c.args.pass.now.known.thread c.free_place-place.result
    c.encode_hold-word.result
    ≡ hold_plan c.args.call.now c.args.pass.now.known.thread c.args.object (hold_count c.args.object c.args.pass.now.known.holds + 1)
    (free_place c.args.pass.now.known.holds) c.args.path
holding c =
    let word : c.encode_hold-word.result ≡ hold_word c.args.object (hold_count c.args.object c.args.pass.now.known.holds + 1) =
    c.encode_hold-word.ensures ∙ ap (λ d. hold_word c.args.object (d + 1)) c.held-depth.ensures.held in
    λ i. store_hold_plan c.args.call.now (Enters c.args.object (c.free_place-place.ensures.place i) c.args.path) c.args.pass.now.known.thread
    (c.free_place-place.ensures.place i) (word i)

stored : (c : After-store_hold) → AreLeft c.args.heap.now c.args.call.now.task c.args.pass.now
    (hold_steps c.args.call.now (local_of c.args.pass.now.known) c.args.object c.args.path) c.store_hold.new.pass
    (entered_by c.args.call.now c.store_hold.new.pass.known.thread c.store_hold.new.pass.known.wait c.args.object c.free_place-place.result c.args.path)
stored c =
    let thread = ap (λ (x : ThreadView). x.thread) c.store_hold.ensures.known in
    let wait = ap (λ (x : ThreadView). x.wait) c.store_hold.ensures.known in
    left_as (step_made (all_left c.requires.heap c.requires.due) (holding c.before.before) refl refl c.store_hold.ensures)
    (λ i. entered_by c.args.call.now (sym thread i) (sym wait i) c.args.object (sym c.free_place-place.ensures.place i) c.args.path)

pub store_hold-requires : goal.store_hold-requires
store_hold-requires c =
    can_make (all_left c.requires.heap c.requires.due) (holding (goal.at.store_hold-requires c).After-encode_hold-word) refl refl tt

pub entered-requires-clause-due : goal.entered-requires-clause-due
entered-requires-clause-due c = (stored (goal.at.entered-requires-clause-due c).After-store_hold).due

pub returns : goal.returns
returns c = (stored (goal.at.returns c).After-store_hold).whole _ _ c.entered.ensures
