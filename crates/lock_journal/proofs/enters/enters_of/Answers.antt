use Rattle.std.proofs.Common.{◌≡◌, ◌∙◌, length, drop, take, [], arith, ap}
use Rattle.std.proofs.lemmas.List.{drop_all}
use Rattle.plain_monitor.specs.Limits.{most_threads}
use Rattle.lock_journal.specs.inner.Enters.{enters_of}
use Rattle.lock_journal.proofs.Counts.{counts_are}
use Rattle.lock_journal.proofs.Sixteen.{all_in_order}
use Rattle.lock_journal.proofs.enters.enters_of.Goals as goal

pub returns : goal.returns
returns c =
    let run = c.args.run.now in
    let logs = take most_threads run.logs in
    let none : drop c.loop-log.log-index logs ≡ [] = drop_all c.loop-log.log-index logs (omega (arith, ap length c.first_logs-log-items.ensures.first)) in
    counts_are c.args.machine.now c.args.c logs c.loop-log.counts c.loop-log.invariant.six (λ path.
    let all = rw none at (c.loop-log.invariant.counted path) in
    omega arith)
    ∙ ap (enters_of c.args.machine.now c.args.c) (all_in_order run.logs c.requires)
