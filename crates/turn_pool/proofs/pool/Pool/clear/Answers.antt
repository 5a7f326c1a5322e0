use Rattle.std.proofs.Common.{arith}
use Rattle.turn_pool.proofs.Laws.{noted_as}
use Rattle.turn_pool.specs.inner.Words.{by_number}
use Rattle.turn_pool.proofs.pool.Pool.clear.Goals as goal

pub store-requires : goal.store-requires
store-requires g c = (
  c.requires.table,
  (let s = c.args.self.now.sized.0 in omega (arith, s)),
  noted_as (by_number g.P.TurnRule.may_be) _ c.args.seat.now.id c.args.seat.now.me (λ x. 0) c.requires.free,
)
