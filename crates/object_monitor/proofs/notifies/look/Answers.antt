use Rattle.std.proofs.Common.{◌≡◌, ◌≤◌, refl, ap, ◌∙◌, arith, length-set}
use Rattle.plain_monitor.specs.Limits.{most_threads}
use Rattle.core_world.specs.Words.Shape.{Shape}
use Rattle.object_monitor.proofs.Looking.{none_looked, can_look, looked_on, all_looked}
use Rattle.object_monitor.proofs.notifies.look.Goals as goal

pub loop-thread-init : goal.loop-thread-init
loop-thread-init c = (none_looked c.args.heap.now c.args.call.now c.args.pass.now c.args.heap.now.heap.shape.threads _ c.requires.heap c.requires.due, refl)

pub load-requires : goal.load-requires
load-requires c =
    let h = c.args.heap.now in
    let l = c.loop-thread in
    let all : c.threads-thread-end.result ≡ h.heap.shape.threads = c.threads-thread-end.ensures.same ∙ ap (λ (s : Shape). s.threads) c.shape.ensures in
    can_look h c.args.call.now c.args.pass.now h.heap.shape.threads l.pass l.thread l.words l.invariant.0 (omega (arith, all, c.loop-thread-test.true))

pub loop-thread-preserved : goal.loop-thread-preserved
loop-thread-preserved c =
    let h = c.args.heap.now in
    let l = c.loop-thread in
    let all : c.threads-thread-end.result ≡ h.heap.shape.threads = c.threads-thread-end.ensures.same ∙ ap (λ (s : Shape). s.threads) c.shape.ensures in
    let few : c.threads-thread-end.result ≤ most_threads = omega (arith, c.threads-thread-end.ensures.same, c.threads-thread-end.ensures.limits.threads) in
    let sixteen = l.invariant.1 in (
      looked_on h c.args.call.now c.args.pass.now h.heap.shape.threads l.pass l.thread l.words l.invariant.0 (omega (arith, all, c.loop-thread-test.true))
          c.load.new.pass c.load.result c.load.ensures (omega (arith, sixteen, few, c.loop-thread-test.true)),
      length-set l.words l.thread c.load.result ∙ sixteen,
    )

pub returns : goal.returns
returns c =
    let h = c.args.heap.now in
    let l = c.loop-thread in
    let all : c.threads-thread-end.result ≡ h.heap.shape.threads = c.threads-thread-end.ensures.same ∙ ap (λ (s : Shape). s.threads) c.shape.ensures in
    all_looked h c.args.call.now c.args.pass.now h.heap.shape.threads l.pass l.thread l.words l.invariant.0
    (omega (arith, all, l.auto.thread-end, c.loop-thread-test.false))
