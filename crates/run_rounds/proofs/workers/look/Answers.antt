use Rattle.std.proofs.Common.{false, ◌∙◌, arith}
use Rattle.run_rounds.proofs.Seats.{holds_taken}
use Rattle.run_rounds.proofs.workers.look.Goals as goal

pub take-requires-clause-table : goal.take-requires-clause-table
take-requires-clause-table g c = c.requires.table

pub take-requires-clause-place : goal.take-requires-clause-place
take-requires-clause-place g c = c.requires.place

pub take-requires-clause-knows : goal.take-requires-clause-knows
take-requires-clause-knows g c = (1, false, omega arith, c.requires.free)

pub returns-then-not-take-clause-table : goal.returns-then-not-take-clause-table
returns-then-not-take-clause-table g c = c.take.ensures.table

pub returns-then-not-take-clause-free : goal.returns-then-not-take-clause-free
returns-then-not-take-clause-free g c = c.if-not-take.ensures.taken ∙ c.requires.free

pub give_check-requires-clause-course : goal.give_check-requires-clause-course
give_check-requires-clause-course g c = c.requires.course

pub give_check-requires-clause-heap : goal.give_check-requires-clause-heap
give_check-requires-clause-heap g c = c.requires.heap

pub give_check-requires-clause-table : goal.give_check-requires-clause-table
give_check-requires-clause-table g c = c.take.ensures.table ∙ c.requires.table

pub give_check-requires-clause-place : goal.give_check-requires-clause-place
give_check-requires-clause-place g c = c.requires.place

pub give_check-requires-clause-held : goal.give_check-requires-clause-held
give_check-requires-clause-held g c =
    let t = c.if-not-take.ensures.taken in
    (t.0, t.1, holds_taken c.args.mine.now.me c.take.new.seat.me c.args.place t.0 c.requires.free t.2)

pub returns-clause-table : goal.returns-clause-table
returns-clause-table g c = c.give_check.ensures.table ∙ c.take.ensures.table

pub returns-clause-free : goal.returns-clause-free
returns-clause-free g c = c.give_check.ensures.free
