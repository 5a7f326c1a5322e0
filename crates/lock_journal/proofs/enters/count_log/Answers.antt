use Rattle.std.proofs.Common.{arith}
use Rattle.lock_journal.proofs.Counts.{enters_in-few}
use Rattle.lock_journal.proofs.enters.count_log.Goals as goal

pub count_entry-requires : goal.count_entry-requires
count_entry-requires c path =
    let whole = c.loop-logged.invariant path in
    let below = c.requires path in
    let few = enters_in-few c.args.machine.now c.args.c path c.args.log.now in
    omega arith

pub returns-clause-few : goal.returns-clause-few
returns-clause-few c path =
    let whole = c.loop-logged.invariant path in
    let few = enters_in-few c.args.machine.now c.args.c path c.args.log.now in
    omega arith
