use Rattle.std.proofs.Common.{◌≡◌, ◌⊎◌, List, length, false, true, None, sym, ap, ◌∙◌, subst, arith, All, Any, ℕ}
use Rattle.plain_monitor.specs.History.{LegalObjects}
use Rattle.plain_history.specs.ExactStamps.{StampsAreExact}
use Rattle.core_world.specs.declared.heap_call.Operation.TheVariants as op
use Rattle.core_world.specs.Clauses.Safepoints.{IsUnfinished}
use Rattle.heap_table.specs.BiasesAtEnd.{BiasesAtEnd}
use Rattle.heap_table.specs.Seen.{HeapSeen, PassSeen, IsOf, InOrder, LastWorld, knowns, logs_of, pages_of, shots_of, counts_of_all}
use Rattle.lending.specs.Lending.{AreAt}
use Rattle.lock_runtime_c.specs.Rest.{IsHome}
use Rattle.lock_runtime_c.proofs.Closed.{all_of, all_stopped, ordered, quiet}
use Rattle.lock_runtime_c.proofs.gives.close_room.Goals as goal

pub close-requires-clause-passes : goal.close-requires-clause-passes
close-requires-clause-passes c =
    let h = c.args.room.heap in
    let home : AreAt (IsHome h) c.in-Ok.passes.items =
    subst (λ (x : HeapSeen). AreAt (IsHome x) c.in-Ok.passes.items) c.args.room.keyed c.in-Ok.ensures.all.1 in
    subst (All (IsOf h)) (sym c.of.ensures) (all_of h c.in-Ok.passes.items home)

pub close-requires-clause-order : goal.close-requires-clause-order
close-requires-clause-order c =
    let h = c.args.room.heap in
    let home : AreAt (IsHome h) c.in-Ok.passes.items =
    subst (λ (x : HeapSeen). AreAt (IsHome x) c.in-Ok.passes.items) c.args.room.keyed c.in-Ok.ensures.all.1 in
    let many = c.in-Ok.ensures.all.0 in
    let each = c.args.room.each in
    let ok = c.in-Ok.passes.ok in
    let count : length c.in-Ok.passes.items ≡ h.heap.shape.threads = omega (arith, many, each, ok) in
    subst (λ (ps : List PassSeen). InOrder 0 (knowns ps) × (length ps ≡ h.heap.shape.threads)) (sym c.of.ensures) (ordered h c.in-Ok.passes.items home, count)

pub close-requires-clause-stopped : goal.close-requires-clause-stopped
close-requires-clause-stopped c =
    let h = c.args.room.heap in
    let home : AreAt (IsHome h) c.in-Ok.passes.items =
    subst (λ (x : HeapSeen). AreAt (IsHome x) c.in-Ok.passes.items) c.args.room.keyed c.in-Ok.ensures.all.1 in
    subst (All (λ (p : PassSeen). p.known.running ≡ false)) (sym c.of.ensures) (all_stopped h c.in-Ok.passes.items home)

pub close-requires-clause-quiet : goal.close-requires-clause-quiet
close-requires-clause-quiet c =
    let h = c.args.room.heap in
    let home : AreAt (IsHome h) c.in-Ok.passes.items =
    subst (λ (x : HeapSeen). AreAt (IsHome x) c.in-Ok.passes.items) c.args.room.keyed c.in-Ok.ensures.all.1 in
    subst (λ (ps : List PassSeen). All (λ (p : PassSeen). p.known.requesting ≡ false) ps ⊎ Any (λ (p : PassSeen). p.known.halted ≡ true) ps)
    (sym c.of.ensures) (quiet h c.in-Ok.passes.items home)

pub returns-in-Ok-clause-left : goal.returns-in-Ok-clause-left
returns-in-Ok-clause-left c =
    let h = c.args.room.heap in
    let ps : List PassSeen = c.in-Ok.passes.items in
    let home : AreAt (IsHome h) ps = subst (λ (x : HeapSeen). AreAt (IsHome x) ps) c.args.room.keyed c.in-Ok.ensures.all.1 in
    let many = c.in-Ok.ensures.all.0 in
    let each = c.args.room.each in
    let ok = c.in-Ok.passes.ok in
    let same : c.of.result ≡ ps = c.of.ensures in
    let e = c.close.ensures in
    let left = c.close.result in
    record {
      passes = ps;
      home = home;
      count = omega (arith, many, each, ok);
      heap = e.heap;
      world = subst (λ (l : List PassSeen). LastWorld h.heap left.words (knowns l)) same e.world;
      logs = e.logs ∙ ap pages_of same;
      shots = e.shots ∙ ap shots_of same;
      counts = e.counts ∙ ap counts_of_all same;
      legal = subst (λ (l : List PassSeen). LegalObjects h.heap.shape.objects (logs_of l)) same e.legal;
      stamps = subst (λ (l : List PassSeen). StampsAreExact (logs_of l)) same e.stamps;
      biases_stuck = subst
          (λ (l : List PassSeen). All (λ (p : PassSeen). (o : ℕ) → IsUnfinished p.known.unfinished op.Hash o → ⊥) l
          → BiasesAtEnd 1 h.heap left.words (logs_of l) (knowns l)) same e.biases_stuck;
      law = e.law;
      still = e.still;
      biases = subst (λ (l : List PassSeen). All (λ (p : PassSeen). p.known.unfinished ≡ None) l
          → BiasesAtEnd 0 h.heap left.words (logs_of l) (knowns l)) same e.biases;
    }
