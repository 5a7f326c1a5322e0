use Rattle.std.proofs.Common.{◌≡◌, true, false, List, length, All, sym, subst, inl, rules}
use Rattle.plain_monitor.specs.History.{LegalObjects}
use Rattle.plain_history.specs.ExactStamps.{StampsAreExact}
use Rattle.heap_table.specs.Seen.{PassSeen, IsOf, InOrder, knowns}
use Rattle.heap_table.proofs.AtLast.{both}
use Rattle.embed_example.proofs.close_door.Goals as goal

-- the two passes, in the order of their threads
pub close-requires-clause-passes : goal.close-requires-clause-passes
close-requires-clause-passes c =
    let two = c.in_ok-passes.ensures.passes in
    subst (All (IsOf c.args.heap)) (sym two) (both (IsOf c.args.heap) c.args.first c.args.second c.requires.first.rests.is_of c.requires.second.rests.is_of)

pub close-requires-clause-order : goal.close-requires-clause-order
close-requires-clause-order c =
    let two = c.in_ok-passes.ensures.passes in
    let in_order : c.in_order.result ≡ true = search (rules, c.if-not-in_order) in
    let may = c.in_order.ensures.all in_order in
    subst (λ (ps : List PassSeen). InOrder 0 (knowns ps) × (length ps ≡ c.args.heap.heap.shape.threads)) (sym two) ((may.1.0, (may.1.1, tt)), sym may.0)

pub close-requires-clause-stopped : goal.close-requires-clause-stopped
close-requires-clause-stopped c =
    subst (All (λ p. p.known.running ≡ false)) (sym c.in_ok-passes.ensures.passes)
    (both (λ p. p.known.running ≡ false) c.args.first c.args.second c.requires.first.stopped.runs c.requires.second.stopped.runs)

pub close-requires-clause-quiet : goal.close-requires-clause-quiet
close-requires-clause-quiet c =
    inl (subst (All (λ p. p.known.requesting ≡ false)) (sym c.in_ok-passes.ensures.passes)
    (both (λ p. p.known.requesting ≡ false) c.args.first c.args.second c.requires.first.stopped.asks c.requires.second.stopped.asks))

-- what is left are the whole logs
pub returns-clause-legal : goal.returns-clause-legal
returns-clause-legal c =
    let room = c.args.heap.room in
    let whole = c.close.ensures.whole (subst (All (λ (p : PassSeen). p.limit ≡ room)) (sym c.in_ok-passes.ensures.passes)
    (both (λ p. p.limit ≡ room) c.args.first c.args.second c.requires.first.whole c.requires.second.whole)) in
    subst (λ b. LegalObjects b.shape.objects c.close.result.logs) (sym c.close.ensures.heap)
    (subst (LegalObjects c.args.heap.heap.shape.objects) (sym whole) c.close.ensures.legal)

pub returns-clause-stamps : goal.returns-clause-stamps
returns-clause-stamps c =
    let room = c.args.heap.room in
    let whole = c.close.ensures.whole (subst (All (λ (p : PassSeen). p.limit ≡ room)) (sym c.in_ok-passes.ensures.passes)
    (both (λ p. p.limit ≡ room) c.args.first c.args.second c.requires.first.whole c.requires.second.whole)) in
    subst StampsAreExact (sym whole) c.close.ensures.stamps
