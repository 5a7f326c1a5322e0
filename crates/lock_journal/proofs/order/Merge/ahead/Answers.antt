use Rattle.std.proofs.Common.{arith}
use Rattle.lock_journal.proofs.Sixteen.{held_by_first}
use Rattle.lock_journal.proofs.order.Merge.ahead.Goals as goal

pub returns-clause-stamps : goal.returns-clause-stamps
returns-clause-stamps c = record {
  held = held_by_first c.args.run.now.logs c.first_logs.result.now c.self.inside.places c.head_stamps.result c.first_logs.ensures.first c.head_stamps.ensures;
  limit = record { within = omega arith; others = λ u h other. omega arith };
}
