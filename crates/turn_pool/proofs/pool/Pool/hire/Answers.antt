use Rattle.std.proofs.Common.{◌-◌, sym, ap, subst, arith, None, false}
use Rattle.atomic_table.specs.Table.{Me, Splits}
use Rattle.turn_pool.specs.declared.rule.SeatView.{SeatView}
use Rattle.turn_pool.specs.Pool.{seat_view}
use Rattle.turn_pool.specs.inner.Pooled.{Pooled}
use Rattle.turn_pool.proofs.Laws.{splits}
use Rattle.turn_pool.specs.inner.Words.{by_number}
use Rattle.turn_pool.proofs.pool.Pool.hire.Goals as goal

pub split_seat-requires : goal.split_seat-requires
split_seat-requires g c =
    let h = c.requires.knows in
    let view = ap (λ (m : Me g.row.T.Denot SeatView). m.0) h.3 in (
      c.requires.table,
      (let s = c.args.self.now.sized.0 in omega (arith, s)),
      subst (λ (v : SeatView). Splits (Pooled (by_number g.P.TurnRule.may_be)) c.args.seat.now.id v (seat_view (v.parts - 1) None v.over)
          (seat_view 1 None false)) (sym view) (splits (by_number g.P.TurnRule.may_be) c.args.seat.now.id h.0 h.1 h.2),
    )
