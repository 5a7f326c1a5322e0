use Rattle.run_rounds.proofs.Seats.{first_held, free_again}
use Rattle.run_rounds.proofs.Slotted.{lies_held, gives_back}
use Rattle.run_rounds.proofs.turns.give_check.Goals as goal

pub slot_mut-runner-requires : goal.slot_mut-runner-requires
slot_mut-runner-requires g c = let t = c.requires.held in (c.requires.table, (t.0, first_held c.args.mine.now.me c.args.place t.0 t.2))

pub check_where_free-stuck-requires-clause-heap : goal.check_where_free-stuck-requires-clause-heap
check_where_free-stuck-requires-clause-heap g c = c.requires.heap

pub check_where_free-stuck-requires-clause-runner : goal.check_where_free-stuck-requires-clause-runner
check_where_free-stuck-requires-clause-runner g c =
    (lies_held c.requires.course c.requires.held c.slot_mut-runner.ensures.value).at.runner

pub check_where_free-stuck-requires-clause-unchecked : goal.check_where_free-stuck-requires-clause-unchecked
check_where_free-stuck-requires-clause-unchecked g c =
    (lies_held c.requires.course c.requires.held c.slot_mut-runner.ensures.value).at.unchecked

pub word_after_check-word-requires : goal.word_after_check-word-requires
word_after_check-word-requires g c = c.check_where_free-stuck.ensures.halted

pub give-requires-clause-table : goal.give-requires-clause-table
give-requires-clause-table g c = c.requires.table

pub give-requires-clause-place : goal.give-requires-clause-place
give-requires-clause-place g c = c.requires.place

pub give-requires-clause-knows : goal.give-requires-clause-knows
give-requires-clause-knows g c =
    gives_back c.requires.course c.requires.held c.slot_mut-runner.ensures.value
    (c.check_where_free-stuck.ensures.gone c.args.work.now.run.tick) c.word_after_check-word.ensures

pub returns-clause-table : goal.returns-clause-table
returns-clause-table g c = c.give.ensures.table

pub returns-clause-free : goal.returns-clause-free
returns-clause-free g c =
    let t = c.requires.held in
    free_again c.args.mine.now.me c.give.new.seat.me c.args.place t.0 t.2 c.give.ensures.given
