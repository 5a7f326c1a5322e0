use Rattle.bias_law.proofs.RefusedCounts.{never_counted, not_twice}
use Rattle.bias_law.proofs.refused.no_verdict_counted_twice_or_never.Goals as goal

pub returns-clause-twice : goal.returns-clause-twice
returns-clause-twice c = not_twice

pub returns-clause-never : goal.returns-clause-never
returns-clause-never c = λ w t d v counts within. never_counted w t d within counts v
