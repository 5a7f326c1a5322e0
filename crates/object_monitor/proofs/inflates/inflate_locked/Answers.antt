use Rattle.std.proofs.Common.{◌==◌, if◌then◌else◌, refl, sym, eq-eqb, ne_eqb, arith}
use Rattle.core_world.specs.declared.answer.PendingCause.TheVariants as why
use Rattle.core_world.specs.declared.stage.Stage.TheVariants.{Inflates}
use Rattle.core_world.specs.Trees.MonitorSteps.{inflate_locked, prepare_steps}
use Rattle.core_world.specs.Trees.Plans.{pending_for}
use Rattle.core_world.specs.Trees.StepTree.{◌>>=◌}
use Rattle.heap_table.proofs.Ruled.{there}
use Rattle.heap_table.proofs.StepsLeft.{AreLeft, all_left, can_make, step_made, left_as, left_then, left_else, all_made, part_of, after_part}
use Rattle.object_monitor.proofs.Inflating.{limits, locked_on, locked_named, fits_mark, names}
use Rattle.object_monitor.proofs.inflates.inflate_locked.Goals as goal
use Rattle.object_monitor.proofs.inflates.inflate_locked.Goals.{After-exchange-found, After-encode_owner-owner, After-prepare}

pub exchange-found-requires : goal.exchange-found-requires
exchange-found-requires c = can_make (all_left c.requires.heap c.requires.due) refl refl refl tt

exchanged : (c : After-exchange-found) → AreLeft c.args.heap.now c.args.call.now.task c.args.pass.now
    (inflate_locked c.args.call.now c.args.object c.args.mark c.args.monitor c.args.thread c.args.place) c.exchange-found.new.pass
    (if c.exchange-found.result == c.args.mark
    then locked_on c.args.call.now c.args.object c.args.monitor c.args.thread c.args.place
    else pending_for (why.Raced c.args.mark c.exchange-found.result))
exchanged c = step_made (all_left c.requires.heap c.requires.due) refl refl refl c.exchange-found.ensures

-- the header is loaded, and the words of the monitor are to be stored, as the code says them,
preparing : (c : After-encode_owner-owner) → AreLeft c.args.heap.now c.args.call.now.task c.args.pass.now
    (inflate_locked c.args.call.now c.args.object c.args.mark c.args.monitor c.args.thread c.args.place) c.load-header.new.pass
    (prepare_steps c.args.call.now (Inflates c.args.object c.args.thread c.args.place) c.args.object c.args.monitor c.load-header.result
    c.encode_owner-owner.result >>= (λ _. locked_named c.args.call.now c.args.object c.args.monitor))
preparing c =
    let hit = left_then _ _ _ (exchanged c.before.before.before.before.before) (eq-eqb _ _ c.if-found-mark.false) in
    left_as (step_made hit refl refl refl c.load-header.ensures)
    (λ i. prepare_steps c.args.call.now (Inflates c.args.object c.args.thread c.args.place) c.args.object c.args.monitor c.load-header.result
    (sym c.encode_owner-owner.ensures i) >>= (λ _. locked_named c.args.call.now c.args.object c.args.monitor))

-- and are
prepared : (c : After-prepare) → AreLeft c.args.heap.now c.args.call.now.task c.args.pass.now
    (inflate_locked c.args.call.now c.args.object c.args.mark c.args.monitor c.args.thread c.args.place) c.prepare.new.pass
    (locked_named c.args.call.now c.args.object c.args.monitor)
prepared c = after_part (λ _. locked_named c.args.call.now c.args.object c.args.monitor) c.prepare.ensures refl (preparing c.before.before)

pub returns-then-found-mark : goal.returns-then-found-mark
returns-then-found-mark c =
    all_made (left_else _ _ _ (exchanged (goal.at.returns-then-found-mark c).After-exchange-found) (ne_eqb _ _ c.if-found-mark.true))

pub load-header-requires : goal.load-header-requires
load-header-requires c =
    can_make (left_then _ _ _ (exchanged (goal.at.load-header-requires c).After-exchange-found) (eq-eqb _ _ c.if-found-mark.false)) refl refl refl tt

pub encode_owner-owner-requires : goal.encode_owner-owner-requires
encode_owner-owner-requires c =
    let hit = left_then _ _ _ (exchanged (goal.at.encode_owner-owner-requires c).After-exchange-found) (eq-eqb _ _ c.if-found-mark.false) in
    let at = there c.args.heap.now c.exchange-found.new.pass c.args.call.now.task _ _ hit.heap hit.due refl in
    let few = limits c.args.heap.now c.exchange-found.new.pass hit.heap in
    (omega (arith, at.0, few.threads), at.1)

pub prepare-requires-clause-due : goal.prepare-requires-clause-due
prepare-requires-clause-due c = part_of (λ _. locked_named c.args.call.now c.args.object c.args.monitor)
    (preparing (goal.at.prepare-requires-clause-due c).After-encode_owner-owner)

pub encode-named-requires : goal.encode-named-requires
encode-named-requires c =
    let left = preparing (goal.at.encode-named-requires c).After-encode_owner-owner in
    fits_mark c.args.heap.now c.load-header.new.pass c.args.call.now _ _ c.args.monitor _ _
    (locked_named c.args.call.now c.args.object c.args.monitor) left.due left.heap

pub store_and_keep-requires : goal.store_and_keep-requires
store_and_keep-requires c = can_make (prepared (goal.at.store_and_keep-requires c).After-prepare)
    (names c.args.call.now c.args.object c.args.mark c.args.monitor _ c.encode-named.ensures) refl refl tt

pub returns : goal.returns
returns c = all_made (step_made (prepared (goal.at.returns c).After-prepare)
    (names c.args.call.now c.args.object c.args.mark c.args.monitor _ c.encode-named.ensures) refl refl c.store_and_keep.ensures)
