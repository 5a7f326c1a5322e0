use Rattle.std.proofs.Common.{List, sym, ap, ◌∙◌, subst, refl, slice_get}
use Rattle.std.specs.Slots.{slots_items}
use Rattle.atomic_table.specs.Table.{Me}
use Rattle.turn_pool.specs.declared.rule.SeatView.{SeatView}
use Rattle.turn_pool.specs.Pool.{EndsOver}
use Rattle.turn_pool.proofs.Laws.{at_last, over_at_last}
use Rattle.turn_pool.specs.inner.Words.{by_number, word_of}
use Rattle.turn_pool.proofs.pool.Pool.end.Goals as goal

pub returns-clause-are : goal.returns-clause-are
returns-clause-are g c = λ i y e.
    let x = at_last (by_number g.P.TurnRule.may_be) _ _ c.requires.whole.0 _ _ (slots_items c.close_with.result.slots)
    (ap (λ (m : Me g.row.T.Denot SeatView). m.0) c.requires.whole.1) c.close_with.ensures.values.2 refl i y
    (ap (λ (l : List g.row.T.Denot). slice_get l i) (sym c.unload.ensures) ∙ e) in
    (word_of x.0, x.2)

pub returns-clause-over : goal.returns-clause-over
returns-clause-over g c = λ is.
    subst (λ (l : List g.row.T.Denot). EndsOver g.P.TurnRule.may_be l) (sym c.unload.ensures)
    (over_at_last (by_number g.P.TurnRule.may_be) _ c.requires.whole.0 _ _ (slots_items c.close_with.result.slots)
    (ap (λ (m : Me g.row.T.Denot SeatView). m.0) c.requires.whole.1) c.close_with.ensures.values.2 is)
