use Rattle.std.proofs.Common.{◌<◌, length, arith, ap}
use Rattle.object_program.specs.Program.{ProgramText}
use Rattle.lock_journal.proofs.ThreadsLeft.{threads_left-line}
use Rattle.lock_journal.proofs.threads.next_thread.Goals as goal

pub returns : goal.returns
returns c =
    let within : c.args.thread.now < length c.args.machine.now.threads =
    omega (arith, ap length c.items.ensures, ap (λ (p : ProgramText). length p.threads) c.program.view_is) in
    rw c.push_thread_line.ensures (threads_left-line c.args.machine.now c.args.thread.now within)
