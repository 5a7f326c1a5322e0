use Rattle.std.proofs.Common.{refl, arith}
use Rattle.heap_table.proofs.StepsLeft.{all_left}
use Rattle.safepoint_work.proofs.Rounds.{no_round, round_due, round_made, all_rounds}
use Rattle.safepoint_work.proofs.walks.walk_thread.Goals as goal

pub loop-place-init : goal.loop-place-init
loop-place-init c = no_round (all_left c.requires.heap c.requires.due)

pub walk_place-requires-clause-heap : goal.walk_place-requires-clause-heap
walk_place-requires-clause-heap c = c.loop-place.invariant.left.heap

pub walk_place-requires-clause-due : goal.walk_place-requires-clause-due
walk_place-requires-clause-due c = round_due c.loop-place.invariant (omega (arith, c.loop-place-test.true))

pub loop-place-preserved : goal.loop-place-preserved
loop-place-preserved c = round_made c.loop-place.invariant (omega (arith, c.loop-place-test.true)) c.walk_place.ensures refl

pub returns : goal.returns
returns c = all_rounds c.loop-place.invariant (omega (arith, c.loop-place-test.false))
