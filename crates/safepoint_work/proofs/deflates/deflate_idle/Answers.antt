use Rattle.std.proofs.Common.{length, refl, ap, ◌∙◌, ne_eqb, arith}
use Rattle.core_world.specs.Trees.DeflateSteps.{deflate_steps}
use Rattle.core_world.specs.Words.Shape.{Shape}
use Rattle.heap_table.proofs.Aside.{aside}
use Rattle.heap_table.proofs.StepsLeft.{all_left, left_else}
use Rattle.safepoint_work.proofs.Deflating.{deflate_aside}
use Rattle.safepoint_work.proofs.Rounds.{no_round, round_due, round_made, all_rounds}
use Rattle.safepoint_work.proofs.deflates.deflate_idle.Goals as goal

pub loop-monitor-init : goal.loop-monitor-init
loop-monitor-init c =
    let objects = c.objects-objects.ensures ∙ ap (λ (x : Shape). length x.objects) c.shape.ensures in
    no_round (left_else _ _ _ (all_left c.requires.heap c.requires.due) (ne_eqb _ _ (λ zero. c.if-objects-eq0.false (objects ∙ zero))))

pub deflate_monitor-requires-clause-heap : goal.deflate_monitor-requires-clause-heap
deflate_monitor-requires-clause-heap c = c.loop-monitor.invariant.left.heap

pub deflate_monitor-requires-clause-due : goal.deflate_monitor-requires-clause-due
deflate_monitor-requires-clause-due c =
    let objects = c.objects-objects.ensures ∙ ap (λ (x : Shape). length x.objects) c.shape.ensures in
    let threads = c.threads.ensures.same ∙ ap (λ (x : Shape). x.threads) c.shape-2.ensures in
    round_due c.loop-monitor.invariant (omega (arith, objects, threads, c.loop-monitor-test.true))

pub loop-monitor-preserved : goal.loop-monitor-preserved
loop-monitor-preserved c =
    let objects = c.objects-objects.ensures ∙ ap (λ (x : Shape). length x.objects) c.shape.ensures in
    let threads = c.threads.ensures.same ∙ ap (λ (x : Shape). x.threads) c.shape-2.ensures in
    round_made c.loop-monitor.invariant (omega (arith, objects, threads, c.loop-monitor-test.true)) c.deflate_monitor.ensures refl

pub returns-clause-run : goal.returns-clause-run
returns-clause-run c =
    let objects = c.objects-objects.ensures ∙ ap (λ (x : Shape). length x.objects) c.shape.ensures in
    let threads = c.threads.ensures.same ∙ ap (λ (x : Shape). x.threads) c.shape-2.ensures in
    all_rounds c.loop-monitor.invariant (omega (arith, objects, threads, c.loop-monitor-test.false))

pub returns-clause-local : goal.returns-clause-local
returns-clause-local c =
    let s = c.args.heap.now.heap.shape in
    (aside c.args.heap.now (deflate_steps s c.args.call.now c.args.stage) c.args.pass.now c.loop-monitor.pass tt
    (deflate_aside s c.args.call.now c.args.stage) (returns-clause-run c)).local
