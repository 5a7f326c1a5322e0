use Rattle.std.proofs.Common.{refl, eq-eqb, ne_eqb}
use Rattle.core_world.specs.Trees.HashSteps.{NextDraw}
use Rattle.heap_table.proofs.StepsLeft.{all_left, can_make, step_made, left_then, left_else, all_made}
use Rattle.identity_hash.proofs.Drawing.{draws}
use Rattle.identity_hash.proofs.hashes.draw.Goals as goal

pub log_exchange-found-requires : goal.log_exchange-found-requires
log_exchange-found-requires c =
    let d : NextDraw = record { number = c.args.number; value = c.args.value } in
    can_make (all_left c.requires.heap c.requires.due) (draws c.args.call.now d c.args.at c.args.object c.args.header _ c.marked_with-word.ensures)
    refl refl c.requires.room

pub returns-then-found-header : goal.returns-then-found-header
returns-then-found-header c =
    let d : NextDraw = record { number = c.args.number; value = c.args.value } in
    let exchanged = step_made (all_left c.requires.heap c.requires.due)
    (draws c.args.call.now d c.args.at c.args.object c.args.header _ c.marked_with-word.ensures) refl refl c.log_exchange-found.ensures in
    all_made (left_else _ _ _ exchanged (ne_eqb _ _ c.if-found-header.true))

pub returns : goal.returns
returns c =
    let d : NextDraw = record { number = c.args.number; value = c.args.value } in
    let exchanged = step_made (all_left c.requires.heap c.requires.due)
    (draws c.args.call.now d c.args.at c.args.object c.args.header _ c.marked_with-word.ensures) refl refl c.log_exchange-found.ensures in
    all_made (left_then _ _ _ exchanged (eq-eqb _ _ c.if-found-header.false))
