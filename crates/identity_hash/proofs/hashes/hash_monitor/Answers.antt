use Rattle.std.proofs.Common.{◌==◌, if◌then◌else◌, refl, sym, ap, ◌∙◌, eq-eqb, ne_eqb}
use Rattle.core_world.specs.declared.word_id.WordId.TheVariants.{Header}
use Rattle.core_world.specs.Trees.HashSteps.{draw_steps, hash_monitor_steps}
use Rattle.core_world.specs.Trees.Plans.{done_with}
use Rattle.heap_table.proofs.StepsLeft.{AreLeft, all_left, can_make, step_made, left_as, left_then, left_else, all_made}
use Rattle.identity_hash.proofs.Finding.{room_left}
use Rattle.identity_hash.proofs.hashes.hash_monitor.Goals as goal
use Rattle.identity_hash.proofs.hashes.hash_monitor.Goals.{After-hash_of_word-hash}

pub find_hash-header-requires : goal.find_hash-header-requires
find_hash-header-requires c = can_make (all_left c.requires.heap c.requires.due) refl refl refl c.requires.room

-- the hash in the header is found
found : (c : After-hash_of_word-hash) → AreLeft c.args.heap.now c.args.call.now.task c.args.pass.now
    (hash_monitor_steps c.args.call.now (record { number = c.args.number; value = c.args.value }) c.args.object c.args.monitor) c.find_hash-header.new.pass
    (if c.hash_of_word-hash.result == 0
    then draw_steps c.args.call.now (record { number = c.args.number; value = c.args.value }) (Header c.args.monitor) c.args.object c.find_hash-header.result
    else done_with c.hash_of_word-hash.result)
found c = left_as (step_made (all_left c.requires.heap c.requires.due) refl refl refl c.find_hash-header.ensures)
    (ap (λ n. if n == 0
    then draw_steps c.args.call.now (record { number = c.args.number; value = c.args.value }) (Header c.args.monitor) c.args.object c.find_hash-header.result
    else done_with n) (sym c.hash_of_word-hash.ensures))

pub returns-then-hash-ne0 : goal.returns-then-hash-ne0
returns-then-hash-ne0 c =
    all_made (left_else _ _ _ (found (goal.at.returns-then-hash-ne0 c).After-hash_of_word-hash) (ne_eqb _ _ c.if-hash-ne0.true))

pub draw-requires-clause-due : goal.draw-requires-clause-due
draw-requires-clause-due c =
    (left_then _ _ _ (found (goal.at.draw-requires-clause-due c).After-hash_of_word-hash) (eq-eqb _ _ c.if-hash-ne0.false)).due

pub draw-requires-clause-room : goal.draw-requires-clause-room
draw-requires-clause-room c =
    room_left c.args.heap.now c.args.pass.now c.find_hash-header.new.pass c.args.call.now (Header c.args.monitor) c.args.object c.find_hash-header.result
    c.find_hash-header.ensures (ap (λ n. n == 0) (sym c.hash_of_word-hash.ensures) ∙ eq-eqb _ _ c.if-hash-ne0.false) c.requires.room

pub returns : goal.returns
returns c = (left_then _ _ _ (found (goal.at.returns c).After-hash_of_word-hash) (eq-eqb _ _ c.if-hash-ne0.false)).whole _ _ c.draw.ensures
