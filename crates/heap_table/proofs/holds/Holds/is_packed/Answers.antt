use Rattle.std.proofs.Common.{rules, ◌≡◌, length, arith}
use Rattle.plain_monitor.specs.Limits.{most_holds}
use Rattle.heap_table.proofs.Stacked.{free_past}
use Rattle.heap_table.proofs.holds.Holds.is_packed.Goals as goal

pub returns-clause-free : goal.returns-clause-free
returns-clause-free c =
    let holds = c.args.self.now in
    let n : length holds.words ≡ most_holds = search rules in
    λ _. free_past holds.used holds.words (holds.stacks c.if-not-self.false) holds.within (omega (arith, n, holds.within)) holds.rest
