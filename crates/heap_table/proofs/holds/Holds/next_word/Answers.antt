-- The newest hold tells how many its object has.
use Rattle.std.proofs.Common.{rules, ◌≡◌, ◌<◌, length, arith}
use Rattle.plain_monitor.specs.Limits.{most_holds}
use Rattle.heap_table.proofs.Held.{none_held}
use Rattle.heap_table.proofs.Stacked.{newest_tells}
use Rattle.heap_table.proofs.holds.Holds.next_word.Goals as goal

pub returns-then-self-eq0 : goal.returns-then-self-eq0
returns-then-self-eq0 c =
    let holds = c.args.self.now in
    let none = none_held c.args.object holds.used holds.words c.if-self-eq0.true holds.rest in
    omega (arith, none)

pub returns-then-newest-number : goal.returns-then-newest-number
returns-then-newest-number c =
    let holds = c.args.self.now in
    let n : length holds.words ≡ most_holds = search rules in
    let some : 0 < holds.used = omega arith in
    let newest = newest_tells holds.used holds.words (holds.stacks c.if-self.true) holds.within (omega (arith, n, holds.within)) holds.rest
    c.args.object some c.if-newest-number.true in
    omega (arith, newest.1)
