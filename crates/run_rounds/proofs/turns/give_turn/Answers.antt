use Rattle.run_rounds.proofs.Seats.{first_held, free_again}
use Rattle.run_rounds.proofs.Slotted.{lies_held, gives_back}
use Rattle.run_rounds.proofs.turns.give_turn.Goals as goal

pub slot_mut-runner-requires : goal.slot_mut-runner-requires
slot_mut-runner-requires g c = let t = c.requires.held in (c.requires.table, (t.0, first_held c.args.mine.now.me c.args.place t.0 t.2))

pub turn_unless_ended-outcome-requires-clause-heap : goal.turn_unless_ended-outcome-requires-clause-heap
turn_unless_ended-outcome-requires-clause-heap g c = c.requires.heap

pub turn_unless_ended-outcome-requires-clause-runner : goal.turn_unless_ended-outcome-requires-clause-runner
turn_unless_ended-outcome-requires-clause-runner g c =
    (lies_held c.requires.course c.requires.held c.slot_mut-runner.ensures.value).at.runner

pub turn_unless_ended-outcome-requires-clause-unchecked : goal.turn_unless_ended-outcome-requires-clause-unchecked
turn_unless_ended-outcome-requires-clause-unchecked g c =
    (lies_held c.requires.course c.requires.held c.slot_mut-runner.ensures.value).at.unchecked

pub turn_unless_ended-outcome-requires-clause-quantum : goal.turn_unless_ended-outcome-requires-clause-quantum
turn_unless_ended-outcome-requires-clause-quantum g c = c.requires.quantum

pub give-requires-clause-table : goal.give-requires-clause-table
give-requires-clause-table g c = c.requires.table

pub give-requires-clause-place : goal.give-requires-clause-place
give-requires-clause-place g c = c.requires.place

pub give-requires-clause-knows : goal.give-requires-clause-knows
give-requires-clause-knows g c =
    gives_back c.requires.course c.requires.held c.slot_mut-runner.ensures.value c.turn_unless_ended-outcome.ensures.gone c.word_after_turn-word.ensures

pub returns-clause-table : goal.returns-clause-table
returns-clause-table g c = c.give.ensures.table

pub returns-clause-free : goal.returns-clause-free
returns-clause-free g c =
    let t = c.requires.held in
    free_again c.args.mine.now.me c.give.new.seat.me c.args.place t.0 t.2 c.give.ensures.given
