use Rattle.std.proofs.Common.{◌≡◌, false, List, length, All, sym, ap, ◌∙◌, subst, inl}
use Rattle.heap_table.specs.Seen.{HeapSeen, PassSeen, ClosedSeen, IsOf, InOrder, knowns}
use Rattle.heap_table.proofs.AtLast.{both}
use Rattle.heap_table.proofs.Resting.{if_ok}
use Rattle.heap_tests.proofs.last.end.Goals as goal

-- the two passes, in the order of their threads
pub close-requires-clause-passes : goal.close-requires-clause-passes
close-requires-clause-passes c =
    let p = c.requires.passes in
    subst (λ (x : HeapSeen × List PassSeen). All (IsOf x.0) x.1) (λ i. (sym c.into_inner.ensures i, sym c.in_ok-passes.ensures i))
    (both (IsOf c.args.heap.value) c.args.first.value c.args.second.value p.0.is_of p.1.is_of)

pub close-requires-clause-order : goal.close-requires-clause-order
close-requires-clause-order c =
    let p = c.requires.passes in
    subst (λ (x : HeapSeen × List PassSeen). InOrder 0 (knowns x.1) × (length x.1 ≡ x.0.heap.shape.threads))
    (λ i. (sym c.into_inner.ensures i, sym c.in_ok-passes.ensures i)) ((p.0.thread, (p.1.thread, tt)), sym c.requires.threads)

pub close-requires-clause-stopped : goal.close-requires-clause-stopped
close-requires-clause-stopped c =
    let p = c.requires.passes in
    subst (All (λ p. p.known.running ≡ false)) (sym c.in_ok-passes.ensures)
    (both (λ p. p.known.running ≡ false) c.args.first.value c.args.second.value p.0.stopped p.1.stopped)

pub close-requires-clause-quiet : goal.close-requires-clause-quiet
close-requires-clause-quiet c =
    let p = c.requires.passes in
    inl (subst (All (λ p. p.known.requesting ≡ false)) (sym c.in_ok-passes.ensures)
    (both (λ p. p.known.requesting ≡ false) c.args.first.value c.args.second.value p.0.quiet p.1.quiet))

pub returns : goal.returns
returns c =
    if_ok c.boxed.result (λ closed e. ap (λ (x : ClosedSeen). x.heap) e ∙ c.close.ensures.heap ∙ ap (λ (h : HeapSeen). h.heap) c.into_inner.ensures)
    c.boxed.ensures
