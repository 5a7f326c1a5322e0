-- The newest hold tells how many its object has.
use Rattle.std.proofs.Common.{rules, ◌≡◌, ◌<◌, length, sym, arith}
use Rattle.plain_monitor.specs.Limits.{most_holds}
use Rattle.heap_table.proofs.Stacked.{newest_place, newest_tells}
use Rattle.heap_table.proofs.holds.Holds.newest.Goals as goal

pub returns-then-newest-object-clause-newest : goal.returns-then-newest-object-clause-newest
returns-then-newest-object-clause-newest c =
    let holds = c.args.self.now in
    let n : length holds.words ≡ most_holds = search rules in
    let some : 0 < holds.used = omega arith in
    let tells = newest_tells holds.used holds.words (holds.stacks c.if-self.true) holds.within (omega (arith, n, holds.within)) holds.rest
    c.args.object some c.if-newest-object.true in (
      sym tells.0,
      sym (newest_place holds.used holds.words (holds.stacks c.if-self.true) holds.within (omega (arith, n, holds.within)) c.args.object some tells.1),
      omega (arith, tells.0, tells.2),
    )
