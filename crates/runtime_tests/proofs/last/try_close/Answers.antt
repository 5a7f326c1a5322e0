use Rattle.std.proofs.Common.{◌≡◌, ◌<◌, [], ◌∷◌, false, List, length, All, sym, subst, inl, rules}
use Rattle.heap_table.specs.Seen.{PassSeen, IsOf, InOrder, knowns}
use Rattle.heap_table.proofs.AtLast.{both}
use Rattle.runtime_tests.proofs.last.try_close.Goals as goal

-- the two passes, in the order of their threads
pub close-requires-clause-passes : goal.close-requires-clause-passes
close-requires-clause-passes c =
    let two : c.of.result ≡ c.args.first ∷ c.args.second ∷ [] = search rules in
    subst (All (IsOf c.args.heap)) (sym two) (both (IsOf c.args.heap) c.args.first c.args.second c.requires.0.is_of c.requires.1.is_of)

pub close-requires-clause-order : goal.close-requires-clause-order
close-requires-clause-order c =
    let two : c.of.result ≡ c.args.first ∷ c.args.second ∷ [] = search rules in
    let may = c.may_close.ensures c.if-may_close.true in
    subst (λ (ps : List PassSeen). InOrder 0 (knowns ps) × (length ps ≡ c.args.heap.heap.shape.threads)) (sym two) ((may.1.0, (may.1.1, tt)), sym may.0)

pub close-requires-clause-stopped : goal.close-requires-clause-stopped
close-requires-clause-stopped c =
    let two : c.of.result ≡ c.args.first ∷ c.args.second ∷ [] = search rules in
    let may = c.may_close.ensures c.if-may_close.true in
    subst (All (λ p. p.known.running ≡ false)) (sym two) (both (λ p. p.known.running ≡ false) c.args.first c.args.second may.2.0 may.2.1)

pub close-requires-clause-quiet : goal.close-requires-clause-quiet
close-requires-clause-quiet c =
    let two : c.of.result ≡ c.args.first ∷ c.args.second ∷ [] = search rules in
    let may = c.may_close.ensures c.if-may_close.true in
    inl (subst (All (λ p. p.known.requesting ≡ false)) (sym two) (both (λ p. p.known.requesting ≡ false) c.args.first c.args.second may.3.0 may.3.1))
