use Rattle.std.proofs.Common.{◌≡◌, ℕ, ◌*◌, sym, subst, arith, [], None}
use Rattle.std.specs.Int.Bits.{bit_or}
use Rattle.atomic_table.specs.Table.{Me, Allows}
use Rattle.turn_pool.specs.declared.rule.SeatView.{SeatView}
use Rattle.turn_pool.specs.Pool.{seat_view}
use Rattle.turn_pool.specs.inner.Pooled.{Pooled, bit_of}
use Rattle.turn_pool.proofs.Laws.{gave}
use Rattle.turn_pool.specs.inner.Words.{by_number, number}
use Rattle.turn_pool.specs.declared.word.Word.{Word}
use Rattle.turn_pool.proofs.Numbers.{below, back}
use Rattle.turn_pool.proofs.pool.Pool.give.Goals as goal

pub fetch_or-requires : goal.fetch_or-requires
fetch_or-requires g c =
    let h = c.requires.knows in
    let n = c.args.self.now.slots.shared.table_id.slots in
    let k = c.args.place in
    let b = number c.args.word in
    let low = below c.args.word in (
      c.requires.table,
      (let a = c.args.self.now.sized.0 in let e = c.place.ensures in omega (arith, a, low, e)),
      subst (λ (w : ℕ). Allows (Pooled (by_number g.P.TurnRule.may_be)) n c.args.seat.now.id c.args.seat.now.me w (λ x. bit_or x (bit_of k))
          (λ found after. after ≡ (seat_view c.args.seat.now.me.0.parts None c.args.seat.now.me.0.over, []))) (sym c.place.ensures)
          (subst (λ (m : Me g.row.T.Denot SeatView). Allows (Pooled (by_number g.P.TurnRule.may_be)) n c.args.seat.now.id m (16 * b)
          (λ x. bit_or x (bit_of k)) (λ found after. after ≡ (seat_view m.0.parts None m.0.over, []))) (sym h.4)
          (gave (by_number g.P.TurnRule.may_be) n c.args.seat.now.id h.0 k b h.1 h.2 h.3 low
          (subst (λ (w : Word). g.P.TurnRule.may_be w k h.2) (sym (back c.args.word)) h.5))),
    )
