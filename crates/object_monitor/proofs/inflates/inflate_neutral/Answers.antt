use Rattle.std.proofs.Common.{refl, sym, eq-eqb, ne_eqb}
use Rattle.core_world.specs.declared.stage.Stage.TheVariants.{Settled}
use Rattle.core_world.specs.Trees.MonitorSteps.{inflate_neutral, prepare_steps}
use Rattle.core_world.specs.Trees.StepTree.{◌>>=◌}
use Rattle.heap_table.proofs.StepsLeft.{AreLeft, all_left, can_make, step_made, left_as, left_then, left_else, all_made, part_of, after_part}
use Rattle.object_monitor.proofs.Inflating.{neutral_named, fits_mark, names_neutral}
use Rattle.object_monitor.proofs.inflates.inflate_neutral.Goals as goal
use Rattle.object_monitor.proofs.inflates.inflate_neutral.Goals.{After-encode_owner-owner, After-prepare}

-- the words of the monitor are to be stored, as the code says them,
preparing : (c : After-encode_owner-owner) → AreLeft c.args.heap.now c.args.call.now.task c.args.pass.now
    (inflate_neutral c.args.call.now c.args.object c.args.mark c.args.monitor) c.args.pass.now
    (prepare_steps c.args.call.now Settled c.args.object c.args.monitor c.args.mark c.encode_owner-owner.result
    >>= (λ _. neutral_named c.args.call.now c.args.object c.args.mark c.args.monitor))
preparing c = left_as (all_left c.requires.heap c.requires.due)
    (λ i. prepare_steps c.args.call.now Settled c.args.object c.args.monitor c.args.mark (sym c.encode_owner-owner.ensures i)
    >>= (λ _. neutral_named c.args.call.now c.args.object c.args.mark c.args.monitor))

-- and are
prepared : (c : After-prepare) → AreLeft c.args.heap.now c.args.call.now.task c.args.pass.now
    (inflate_neutral c.args.call.now c.args.object c.args.mark c.args.monitor) c.prepare.new.pass
    (neutral_named c.args.call.now c.args.object c.args.mark c.args.monitor)
prepared c = after_part (λ _. neutral_named c.args.call.now c.args.object c.args.mark c.args.monitor) c.prepare.ensures refl (preparing c.before.before)

pub prepare-requires-clause-due : goal.prepare-requires-clause-due
prepare-requires-clause-due c = part_of (λ _. neutral_named c.args.call.now c.args.object c.args.mark c.args.monitor)
    (preparing (goal.at.prepare-requires-clause-due c).After-encode_owner-owner)

pub encode-named-requires : goal.encode-named-requires
encode-named-requires c = fits_mark c.args.heap.now c.args.pass.now c.args.call.now _ _ c.args.monitor _ _
    (neutral_named c.args.call.now c.args.object c.args.mark c.args.monitor) c.requires.due c.requires.heap

pub exchange_and_keep-found-requires : goal.exchange_and_keep-found-requires
exchange_and_keep-found-requires c = can_make (prepared (goal.at.exchange_and_keep-found-requires c).After-prepare)
    (names_neutral c.args.call.now c.args.object c.args.mark c.args.monitor _ c.encode-named.ensures) refl refl tt

pub returns-then-found-mark : goal.returns-then-found-mark
returns-then-found-mark c =
    let named = step_made (prepared (goal.at.returns-then-found-mark c).After-prepare)
    (names_neutral c.args.call.now c.args.object c.args.mark c.args.monitor _ c.encode-named.ensures) refl refl c.exchange_and_keep-found.ensures in
    all_made (left_else _ _ _ named (ne_eqb _ _ c.if-found-mark.true))

pub returns : goal.returns
returns c =
    let named = step_made (prepared (goal.at.returns c).After-prepare)
    (names_neutral c.args.call.now c.args.object c.args.mark c.args.monitor _ c.encode-named.ensures) refl refl c.exchange_and_keep-found.ensures in
    all_made (left_then _ _ _ named (eq-eqb _ _ c.if-found-mark.false))
