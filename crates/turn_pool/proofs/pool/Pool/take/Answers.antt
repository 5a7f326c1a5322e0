use Rattle.std.proofs.Common.{◌<◌, refl, sym, subst, arith}
use mathlib.Core.Option.{none}
use Rattle.std.specs.Int.Bits.{bit_and}
use Rattle.atomic_table.specs.Table.{Me, Allows, step}
use Rattle.turn_pool.specs.declared.rule.SeatView.{SeatView}
use Rattle.turn_pool.specs.inner.Pooled.{Pooled, Took, all_but}
use Rattle.turn_pool.proofs.Bits.{by_bit}
use Rattle.turn_pool.proofs.Laws.{took}
use Rattle.turn_pool.specs.inner.Words.{by_number}
use Rattle.turn_pool.proofs.pool.Pool.take.Goals as goal

pub fetch_and-found-requires : goal.fetch_and-found-requires
fetch_and-found-requires g c =
    let h = c.requires.knows in
    let n = c.args.self.now.slots.shared.table_id.slots in
    let k = c.args.place in (
      c.requires.table,
      (let a = c.args.self.now.sized.0 in omega (arith, a)),
      subst (λ (m : Me g.row.T.Denot SeatView). Allows (Pooled (by_number g.P.TurnRule.may_be)) n c.args.seat.now.id m 0 (λ x. bit_and x (all_but k))
          (Took (by_number g.P.TurnRule.may_be) (step n 0 (all_but k) 0 none) m)) (sym h.3)
          (took (by_number g.P.TurnRule.may_be) n c.args.seat.now.id h.0 k h.1 h.2 c.requires.place),
    )

pub returns : goal.returns
returns g c =
    let s = c.args.self.now.sized in
    let small : c.args.place < 64 = (let p = c.requires.place in let a = s.1 in let b = s.2 in omega (arith, p, a, b)) in
    let took = c.fetch_and-found.ensures.2 c.args.place small refl in
    record { table = c.fetch_and-found.ensures.0; taken = by_bit c.fetch_and-found.result c.args.place took.0 took.1 }
