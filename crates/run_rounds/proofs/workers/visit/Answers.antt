use Rattle.std.proofs.Common.{false, ap, ◌∙◌, arith}
use Rattle.thread_interp.specs.Runners.{RunnerSeen}
use Rattle.turn_pool.specs.declared.rule.SeatView.{SeatView}
use Rattle.turn_pool.specs.Table.{Me}
use Rattle.run_rounds.proofs.Seats.{holds_taken}
use Rattle.run_rounds.proofs.workers.visit.Goals as goal

pub take-requires-clause-table : goal.take-requires-clause-table
take-requires-clause-table g c = c.requires.table

pub take-requires-clause-place : goal.take-requires-clause-place
take-requires-clause-place g c = c.requires.place

pub take-requires-clause-knows : goal.take-requires-clause-knows
take-requires-clause-knows g c = (1, false, omega arith, c.requires.free)

pub returns-then-not-take-clause-table : goal.returns-then-not-take-clause-table
returns-then-not-take-clause-table g c = c.take.ensures.table

pub returns-then-not-take-clause-free : goal.returns-then-not-take-clause-free
returns-then-not-take-clause-free g c = c.if-not-take.ensures.taken ∙ c.requires.free

pub give_turn-outcome-requires-clause-course : goal.give_turn-outcome-requires-clause-course
give_turn-outcome-requires-clause-course g c = c.requires.course

pub give_turn-outcome-requires-clause-heap : goal.give_turn-outcome-requires-clause-heap
give_turn-outcome-requires-clause-heap g c = c.requires.heap

pub give_turn-outcome-requires-clause-quantum : goal.give_turn-outcome-requires-clause-quantum
give_turn-outcome-requires-clause-quantum g c = c.requires.quantum

pub give_turn-outcome-requires-clause-table : goal.give_turn-outcome-requires-clause-table
give_turn-outcome-requires-clause-table g c = c.take.ensures.table ∙ c.requires.table

pub give_turn-outcome-requires-clause-place : goal.give_turn-outcome-requires-clause-place
give_turn-outcome-requires-clause-place g c = c.requires.place

pub give_turn-outcome-requires-clause-held : goal.give_turn-outcome-requires-clause-held
give_turn-outcome-requires-clause-held g c =
    let t = c.if-not-take.ensures.taken in
    (t.0, t.1, holds_taken c.args.mine.now.me c.take.new.seat.me c.args.place t.0 c.requires.free t.2)

pub note-requires-clause-table : goal.note-requires-clause-table
note-requires-clause-table g c = c.give_turn-outcome.ensures.table ∙ c.take.ensures.table ∙ c.requires.table

pub note-requires-clause-place : goal.note-requires-clause-place
note-requires-clause-place g c =
    let s = c.args.work.now.pool.now.sized in
    omega (arith, c.requires.place, s.1, s.2)

pub note-requires-clause-free : goal.note-requires-clause-free
note-requires-clause-free g c = ap (λ (m : Me RunnerSeen SeatView). m.1) c.give_turn-outcome.ensures.free
