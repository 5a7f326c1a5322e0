use Rattle.std.proofs.Common.{◌≡◌, false, true, refl, ◌∙◌, arith}
use Rattle.run_rounds.proofs.workers.serve.Goals as goal

pub loop-init : goal.loop-init
loop-init g c = record { table = refl; free = c.requires.free; next = (let f = c.requires.first in omega (arith, f)) }

pub next-requires : goal.next-requires
next-requires g c = tt

pub notes-stalled-requires-clause-table : goal.notes-stalled-requires-clause-table
notes-stalled-requires-clause-table g c = c.loop.invariant.table ∙ c.requires.table

pub notes-stalled-requires-clause-free : goal.notes-stalled-requires-clause-free
notes-stalled-requires-clause-free g c = c.loop.invariant.free

pub first_from-requires-clause-few : goal.first_from-requires-clause-few
first_from-requires-clause-few g c = c.args.work.now.pool.now.sized.2

pub first_from-requires-clause-next : goal.first_from-requires-clause-next
first_from-requires-clause-next g c = c.loop.invariant.next

pub overflow_add-next : goal.overflow_add-next
overflow_add-next g c =
    omega (arith, c.in-Some-first_from.ensures.0, c.args.work.now.pool.now.sized.2)

pub visit-moved-requires-clause-course : goal.visit-moved-requires-clause-course
visit-moved-requires-clause-course g c = c.requires.course

pub visit-moved-requires-clause-heap : goal.visit-moved-requires-clause-heap
visit-moved-requires-clause-heap g c = c.requires.heap

pub visit-moved-requires-clause-quantum : goal.visit-moved-requires-clause-quantum
visit-moved-requires-clause-quantum g c = c.requires.quantum

pub visit-moved-requires-clause-table : goal.visit-moved-requires-clause-table
visit-moved-requires-clause-table g c = c.notes-stalled.ensures.table ∙ c.loop.invariant.table ∙ c.requires.table

pub visit-moved-requires-clause-place : goal.visit-moved-requires-clause-place
visit-moved-requires-clause-place g c =
    omega (arith, c.in-Some-first_from.ensures.0, c.args.work.now.pool.now.sized.1)

pub visit-moved-requires-clause-free : goal.visit-moved-requires-clause-free
visit-moved-requires-clause-free g c = c.notes-stalled.ensures.free

pub loop-smaller-in-Some-first_from : goal.loop-smaller-in-Some-first_from
loop-smaller-in-Some-first_from g c = (c.in-Some.ensures.goes.on tt).2

pub loop-preserved-in-Some-first_from : goal.loop-preserved-in-Some-first_from
loop-preserved-in-Some-first_from g c = record {
  table = c.visit-moved.ensures.table ∙ c.notes-stalled.ensures.table ∙ c.loop.invariant.table;
  free = c.visit-moved.ensures.free;
  next = (let p = c.in-Some-first_from.ensures.0 in let s = c.args.work.now.pool.now.sized.2 in omega (arith, p, s));
}

pub sees_over-requires-clause-table : goal.sees_over-requires-clause-table
sees_over-requires-clause-table g c = c.notes-stalled.ensures.table ∙ c.loop.invariant.table ∙ c.requires.table

pub sees_over-requires-clause-free : goal.sees_over-requires-clause-free
sees_over-requires-clause-free g c = c.notes-stalled.ensures.free

pub returns-then-sees_over-clause-table : goal.returns-then-sees_over-clause-table
returns-then-sees_over-clause-table g c = c.sees_over.ensures.table ∙ c.notes-stalled.ensures.table ∙ c.loop.invariant.table

pub returns-then-sees_over-clause-over : goal.returns-then-sees_over-clause-over
returns-then-sees_over-clause-over g c = c.if-sees_over.ensures.seen

pub stand_still-requires : goal.stand_still-requires
stand_still-requires g c = c.args.work.now.pool.now.sized.2

pub nonzero_rem-stalled : goal.nonzero_rem-stalled
nonzero_rem-stalled g c = omega arith

pub loop-smaller-then-not-stand_still : goal.loop-smaller-then-not-stand_still
loop-smaller-then-not-stand_still g c = (c.in-Some.ensures.goes.on tt).2

pub loop-preserved-then-not-stand_still : goal.loop-preserved-then-not-stand_still
loop-preserved-then-not-stand_still g c = record {
  table = c.sees_over.ensures.table ∙ c.notes-stalled.ensures.table ∙ c.loop.invariant.table;
  free = c.if-sees_over.ensures.seen;
  next = c.loop.invariant.next;
}

pub first_from-requires-else-not-stand_still-clause-few : goal.first_from-requires-else-not-stand_still-clause-few
first_from-requires-else-not-stand_still-clause-few g c = c.args.work.now.pool.now.sized.2

pub first_from-requires-else-not-stand_still-clause-next : goal.first_from-requires-else-not-stand_still-clause-next
first_from-requires-else-not-stand_still-clause-next g c = c.loop.invariant.next

pub overflow_add-next-in-Some-first_from-2 : goal.overflow_add-next-in-Some-first_from-2
overflow_add-next-in-Some-first_from-2 g c =
    omega (arith, c.in-Some-first_from-2.ensures.0, c.args.work.now.pool.now.sized.2)

pub look-moved-requires-clause-course : goal.look-moved-requires-clause-course
look-moved-requires-clause-course g c = c.requires.course

pub look-moved-requires-clause-heap : goal.look-moved-requires-clause-heap
look-moved-requires-clause-heap g c = c.requires.heap

pub look-moved-requires-clause-table : goal.look-moved-requires-clause-table
look-moved-requires-clause-table g c = c.sees_over.ensures.table ∙ c.notes-stalled.ensures.table ∙ c.loop.invariant.table ∙ c.requires.table

pub look-moved-requires-clause-place : goal.look-moved-requires-clause-place
look-moved-requires-clause-place g c =
    omega (arith, c.in-Some-first_from-2.ensures.0, c.args.work.now.pool.now.sized.1)

pub look-moved-requires-clause-free : goal.look-moved-requires-clause-free
look-moved-requires-clause-free g c = c.if-sees_over.ensures.seen

pub loop-smaller-in-Some-first_from-2 : goal.loop-smaller-in-Some-first_from-2
loop-smaller-in-Some-first_from-2 g c = (c.in-Some.ensures.goes.on tt).2

pub loop-preserved-in-Some-first_from-2 : goal.loop-preserved-in-Some-first_from-2
loop-preserved-in-Some-first_from-2 g c = record {
  table = c.look-moved.ensures.table ∙ c.sees_over.ensures.table ∙ c.notes-stalled.ensures.table ∙ c.loop.invariant.table;
  free = c.look-moved.ensures.free;
  next = (let p = c.in-Some-first_from-2.ensures.0 in let s = c.args.work.now.pool.now.sized.2 in omega (arith, p, s));
}

pub loop-smaller : goal.loop-smaller
loop-smaller g c = (c.in-Some.ensures.goes.on tt).2

pub loop-preserved : goal.loop-preserved
loop-preserved g c = record {
  table = c.sees_over.ensures.table ∙ c.notes-stalled.ensures.table ∙ c.loop.invariant.table;
  free = c.if-sees_over.ensures.seen;
  next = c.loop.invariant.next;
}

pub unreachable-requires : goal.unreachable-requires
unreachable-requires g c = let none : false ≡ true = c.in-None.ensures.steps in cc none
