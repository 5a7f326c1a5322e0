use Rattle.std.proofs.Common.{◌+◌, sym, ap, ◌∙◌, subst, arith, None, false, ◌||◌}
use Rattle.atomic_table.specs.Table.{Me, Joins}
use Rattle.turn_pool.specs.declared.rule.SeatView.{SeatView}
use Rattle.turn_pool.specs.Pool.{seat_view}
use Rattle.turn_pool.specs.inner.Pooled.{Pooled}
use Rattle.turn_pool.proofs.Laws.{joins}
use Rattle.turn_pool.specs.inner.Words.{by_number}
use Rattle.turn_pool.proofs.pool.Pool.dismiss.Goals as goal

pub join_seat-requires : goal.join_seat-requires
join_seat-requires g c =
    let h = c.requires.knows in
    let view = ap (λ (m : Me g.row.T.Denot SeatView). m.0) h.2 in
    let theirs = ap (λ (m : Me g.row.T.Denot SeatView). m.0) c.requires.worker.1 in (
      c.requires.table.0,
      c.requires.table.1,
      ap (λ (m : Me g.row.T.Denot SeatView). m.1) c.requires.worker.1,
      (let s = c.args.self.now.sized.0 in omega (arith, s)),
      subst (λ (v : SeatView). Joins (Pooled (by_number g.P.TurnRule.may_be)) c.args.seat.now.id v c.args.worker.id c.args.worker.me.0
          (seat_view (v.parts + c.args.worker.me.0.parts) None (v.over || c.args.worker.me.0.over)) (seat_view 0 None false)) (sym view)
          (subst (λ (w : SeatView). Joins (Pooled (by_number g.P.TurnRule.may_be)) c.args.seat.now.id (seat_view h.0 None h.1) c.args.worker.id w
          (seat_view (h.0 + w.parts) None (h.1 || w.over)) (seat_view 0 None false)) (sym theirs)
          (joins (by_number g.P.TurnRule.may_be) c.args.seat.now.id h.0 c.args.worker.id 1 h.1 c.requires.worker.0)),
    )

pub returns : goal.returns
returns g c =
    let e = c.join_seat.ensures in
    let theirs = ap (λ (m : Me g.row.T.Denot SeatView). m.0.parts) c.requires.worker.1 in
    record {
      seat = (
        e.0,
        e.2 ∙ λ i. (
          seat_view (c.args.seat.now.me.0.parts + theirs i) None (c.args.seat.now.me.0.over || c.args.worker.me.0.over),
          (c.requires.knows.2 i).1,
        ),
      );
    }
