use Rattle.std.proofs.Common.{ℕ, ◌*◌, ◌-◌, ◌^◌, ◌%◌, None, false, slice_set, replicate, sym, ◌∙◌, subst, arith}
use Rattle.atomic_table.specs.Table.{opening}
use Rattle.turn_pool.specs.Pool.{width, seat_view, all_parts}
use Rattle.turn_pool.specs.inner.Pooled.{Pooled}
use Rattle.turn_pool.proofs.Laws.{opens}
use Rattle.turn_pool.specs.inner.Words.{by_number}
use Rattle.turn_pool.proofs.pool.Pool.new.Goals as goal

pub new-requires : goal.new-requires
new-requires g c =
    subst (λ (n : ℕ). Pooled (by_number g.P.TurnRule.may_be) (opening
    (slice_set (replicate width 0) 0 (1 * 2 ^ n % 18446744073709551616 - 1)) c.args.things.items (seat_view all_parts None false)))
    (sym (c.len-count.ensures ∙ c.args.things.ok.0))
    (opens (by_number g.P.TurnRule.may_be) c.args.things.items (let f = c.requires.few in let o = c.args.things.ok.0 in omega (arith, f, o)) c.requires.are)
