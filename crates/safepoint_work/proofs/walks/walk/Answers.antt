use Rattle.std.proofs.Common.{refl, ap, ◌∙◌, arith}
use Rattle.core_world.specs.Words.Shape.{Shape}
use Rattle.heap_table.proofs.StepsLeft.{all_left}
use Rattle.safepoint_work.proofs.Rounds.{no_round, round_due, round_made, all_rounds}
use Rattle.safepoint_work.proofs.walks.walk.Goals as goal

pub loop-thread-init : goal.loop-thread-init
loop-thread-init c = no_round (all_left c.requires.heap c.requires.due)

pub walk_thread-requires-clause-heap : goal.walk_thread-requires-clause-heap
walk_thread-requires-clause-heap c = c.loop-thread.invariant.left.heap

pub walk_thread-requires-clause-due : goal.walk_thread-requires-clause-due
walk_thread-requires-clause-due c =
    let threads = c.threads-thread-end.ensures.same ∙ ap (λ (x : Shape). x.threads) c.shape.ensures in
    round_due c.loop-thread.invariant (omega (arith, threads, c.loop-thread-test.true))

pub loop-thread-preserved : goal.loop-thread-preserved
loop-thread-preserved c =
    let threads = c.threads-thread-end.ensures.same ∙ ap (λ (x : Shape). x.threads) c.shape.ensures in
    round_made c.loop-thread.invariant (omega (arith, threads, c.loop-thread-test.true)) c.walk_thread.ensures refl

pub returns : goal.returns
returns c =
    let threads = c.threads-thread-end.ensures.same ∙ ap (λ (x : Shape). x.threads) c.shape.ensures in
    all_rounds c.loop-thread.invariant (omega (arith, threads, c.loop-thread-test.false))
