-- Stacked words are as many as the places in use.
use Rattle.std.proofs.Common.{rules, ◌≡◌, length, sym, arith}
use Rattle.plain_monitor.specs.Limits.{most_holds}
use Rattle.heap_table.proofs.Stacked.{number_stacked}
use Rattle.heap_table.proofs.holds.Holds.count.Goals as goal

pub returns-then-self-clause-holds : goal.returns-then-self-clause-holds
returns-then-self-clause-holds c =
    let holds = c.args.self.now in
    let n : length holds.words ≡ most_holds = search rules in
    sym (number_stacked holds.used holds.words (holds.stacks c.if-self.true) holds.within (omega (arith, n, holds.within)) holds.rest)
