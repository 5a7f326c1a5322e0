use Rattle.std.proofs.Common.{◌∙◌}
use Rattle.plain_machine.specs.Thread.{ThreadState}
use Rattle.plain_machine.proofs.Places.{one_written, all_done}
use Rattle.plain_machine.proofs.machine.parts.refuel_all.Goals as goal

pub loop-thread-preserved : goal.loop-thread-preserved
loop-thread-preserved c =
    one_written (λ (s : ThreadState). record s { fuel = c.args.fuel }) c.loop-thread.thread-index c.args.threads.now c.loop-thread.threads
    c.refuel.new.self c.thread-item.result c.loop-thread-test.true c.refuel.ensures c.loop-thread.invariant

pub returns : goal.returns
returns c =
    c.loop-thread.invariant
    ∙ all_done (λ (s : ThreadState). record s { fuel = c.args.fuel }) c.loop-thread.thread-index c.args.threads.now c.loop-thread-test.false
