use Rattle.std.proofs.Common.{◌≡◌, ◌<◌, ◌≤◌, [], length, slice_get, slice_index_or, Some, refl, sym, ◌∙◌, arith}
use Rattle.std.proofs.lemmas.Option.{slice_get-get_or}
use Rattle.plain_machine.specs.Thread.{ThreadState}
use Rattle.plain_monitor.proofs.Lists.{all_at}
use Rattle.machine_words.specs.inner.Reading.{hold_step}
use Rattle.machine_words.proofs.Walking.{walks_none, walks_more, walks_all}
use Rattle.machine_words.proofs.Jumps.{left_at}
use Rattle.machine_words.proofs.place_object.place_object.Goals as goal

pub loop-t-init : goal.loop-t-init
loop-t-init c = walks_none (hold_step c.args.number c.args.object.now) c.args.threads.now []

pub hold-requires : goal.hold-requires
hold-requires c =
    let inv = c.loop-t.invariant in
    let threads = c.loop-t.threads in
    let s = slice_index_or threads c.loop-t.t c.index-threads-t.result in
    let here : slice_get threads c.loop-t.t ≡ Some s =
    slice_get-get_or threads c.loop-t.t c.index-threads-t.result (omega (arith, c.loop-t-test.true, inv.count)) in
    let first : slice_get c.args.threads.now c.loop-t.t ≡ Some s =
    sym (left_at inv c.loop-t.t (omega arith)) ∙ here in
    all_at (λ (s : ThreadState). c.args.number < length s.holds) c.args.threads.now c.loop-t.t s c.requires.number first

pub loop-t-preserved : goal.loop-t-preserved
loop-t-preserved c =
    let inv = c.loop-t.invariant in
    let within : c.loop-t.t < length c.loop-t.threads = omega (arith, c.loop-t-test.true, inv.count) in
    walks_more c.hold.new.thread c.index-threads-t.result [] inv within c.in_ok-hold.ensures.held refl

pub returns : goal.returns
returns c =
    let inv = c.loop-t.invariant in
    let past : length c.loop-t.threads ≤ c.loop-t.t = omega (arith, c.loop-t-test.false, inv.count) in
    record { lost = tt; held = sym (walks_all inv past).0 }
