use Rattle.std.proofs.Common.{◌<◌, ◌≤◌, [], length, refl, sym, arith}
use Rattle.machine_words.specs.inner.Reading.{place_step}
use Rattle.machine_words.proofs.Walking.{walks_none, walks_more, walks_all}
use Rattle.machine_words.proofs.place_thread.place_threads.Goals as goal

pub loop-t-init : goal.loop-t-init
loop-t-init c = walks_none (place_step c.args.program.now c.args.fuel) c.args.threads.now []

pub place_thread-requires : goal.place_thread-requires
place_thread-requires c = omega (arith, c.requires.count, c.loop-t.invariant.count)

pub loop-t-preserved : goal.loop-t-preserved
loop-t-preserved c =
    let inv = c.loop-t.invariant in
    let within : c.loop-t.t < length c.loop-t.threads = omega (arith, c.loop-t-test.true, inv.count) in
    walks_more c.place_thread.new.thread c.index-threads-t.result [] inv within c.place_thread.ensures refl

pub returns : goal.returns
returns c =
    let inv = c.loop-t.invariant in
    let past : length c.loop-t.threads ≤ c.loop-t.t = omega (arith, c.loop-t-test.false, inv.count) in
    sym (walks_all inv past).0
