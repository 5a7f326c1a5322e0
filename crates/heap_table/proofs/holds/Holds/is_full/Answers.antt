use Rattle.std.proofs.Common.{sym, ne_eqb, arith}
use Rattle.plain_monitor.specs.Limits.{most_holds}
use Rattle.heap_table.proofs.Held.{place_left}
use Rattle.heap_table.proofs.holds.Holds.is_full.Goals as goal

pub returns-then-self-lt-HOLDS : goal.returns-then-self-lt-HOLDS
returns-then-self-lt-HOLDS c =
    let holds = c.args.self.now in
    let low = place_left holds.used holds.words holds.rest in
    let used = c.if-self-lt-HOLDS.true in
    sym (ne_eqb _ most_holds (λ same. omega (arith, low, used, same)))
