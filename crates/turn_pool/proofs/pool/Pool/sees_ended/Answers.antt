use Rattle.std.proofs.Common.{◌≡◌, ℕ, ◌*◌, ◌-◌, ◌^◌, ◌%◌, ap, ◌∙◌, sym, subst, arith}
use mathlib.Core.Option.{none}
use Rattle.atomic_table.specs.Table.{Me, Allows, step}
use Rattle.turn_pool.specs.declared.rule.SeatView.{SeatView}
use Rattle.turn_pool.specs.inner.Pooled.{Pooled, SawEnded}
use Rattle.std.proofs.lemmas.Nat.{one_shl}
use Rattle.turn_pool.proofs.Bits.{by_word}
use Rattle.turn_pool.proofs.Laws.{sees_ended}
use Rattle.turn_pool.specs.inner.Words.{by_number}
use Rattle.turn_pool.proofs.pool.Pool.sees_ended.Goals as goal

pub load-requires : goal.load-requires
load-requires g c =
    let h = c.requires.knows in
    let n = c.args.self.now.slots.shared.table_id.slots in (
      c.requires.table,
      (let a = c.args.self.now.sized.0 in omega (arith, a)),
      subst (λ (m : Me g.row.T.Denot SeatView). Allows (Pooled (by_number g.P.TurnRule.may_be)) n c.args.seat.now.id m 16 (λ x. x)
          (SawEnded (step n 16 0 0 none) m)) (sym h.2)
          (sees_ended (by_number g.P.TurnRule.may_be) n c.args.seat.now.id h.0 h.1),
    )

pub returns-clause-seen : goal.returns-clause-seen
returns-clause-seen g c =
    let s = c.args.self.now.sized in
    let n = c.args.self.now.count in
    let one : 1 * 2 ^ n % 2 ^ 64 ≡ 2 ^ n = one_shl n 64 (let b = s.2 in omega (arith, b)) in
    let all = ap (λ (m : ℕ). m - 1) one ∙ ap (λ (m : ℕ). 2 ^ m - 1) (sym s.1) in
    let saw = c.load.ensures.2 in
    by_word c.load.result (1 * 2 ^ n % 2 ^ 64 - 1) (λ e. saw.0 (e ∙ all)) (λ d. saw.1 (λ h. d (h ∙ sym all)))
