use Rattle.std.proofs.Common.{arith}
use Rattle.std.specs.Int.Bits.{bit_or}
use Rattle.turn_pool.specs.inner.Pooled.{bit_of}
use Rattle.turn_pool.proofs.Laws.{noted_as}
use Rattle.turn_pool.specs.inner.Words.{by_number}
use Rattle.turn_pool.proofs.pool.Pool.note.Goals as goal

pub fetch_or-requires : goal.fetch_or-requires
fetch_or-requires g c = (
  c.requires.table,
  (let s = c.args.self.now.sized.0 in omega (arith, s)),
  noted_as (by_number g.P.TurnRule.may_be) _ c.args.seat.now.id c.args.seat.now.me (λ x. bit_or x (bit_of c.args.place)) c.requires.free,
)
