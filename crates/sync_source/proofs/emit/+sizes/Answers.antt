use Rattle.std.proofs.Common.{arith}
use Rattle.sync_source.specs.Source.{Nothing}
use Rattle.sync_source.proofs.Viewed.{before-Sync, before-If, before-While, size-of, size-next}
use Rattle.sync_source.proofs.emit.+sizes.Goals as goal

pub statement_size-returns-in-Sync : goal.statement_size-returns-in-Sync
statement_size-returns-in-Sync t c =
    omega (arith, size-of c.in-Sync.is (before-Sync c.in-Sync.local c.in-Sync.body Nothing), c.block_size.ensures)

pub statement_size-returns-in-While : goal.statement_size-returns-in-While
statement_size-returns-in-While t c =
    omega (arith, size-of c.in-While.is (before-While c.in-While.test c.in-While.body Nothing), c.block_size-in-While.ensures)

pub statement_size-returns-in-If : goal.statement_size-returns-in-If
statement_size-returns-in-If t c =
    let k = size-of c.in-If.is (before-If c.in-If.test c.in-If.body c.in-If.other Nothing) in
    omega (arith, k, c.block_size-in-If.ensures, c.block_size-in-If-2.ensures)

pub statement_size-overflow_add-result : goal.statement_size-overflow_add-result
statement_size-overflow_add-result t c =
    omega (arith, size-of c.in-Sync.is (before-Sync c.in-Sync.local c.in-Sync.body Nothing), c.block_size.ensures, c.requires)

pub statement_size-overflow_add-result-in-While : goal.statement_size-overflow_add-result-in-While
statement_size-overflow_add-result-in-While t c =
    omega (arith, size-of c.in-While.is (before-While c.in-While.test c.in-While.body Nothing), c.block_size-in-While.ensures, c.requires)

pub statement_size-overflow_add-result-in-If : goal.statement_size-overflow_add-result-in-If
statement_size-overflow_add-result-in-If t c =
    omega (arith, size-of c.in-If.is (before-If c.in-If.test c.in-If.body c.in-If.other Nothing), c.block_size-in-If.ensures, c.requires)

pub statement_size-overflow_add-result-in-If-2 : goal.statement_size-overflow_add-result-in-If-2
statement_size-overflow_add-result-in-If-2 t c =
    let k = size-of c.in-If.is (before-If c.in-If.test c.in-If.body c.in-If.other Nothing) in
    omega (arith, k, c.block_size-in-If.ensures, c.block_size-in-If-2.ensures, c.requires)

pub statement_size-block_size-requires : goal.statement_size-block_size-requires
statement_size-block_size-requires t c =
    let k = size-of c.in-Sync.is (before-Sync c.in-Sync.local c.in-Sync.body Nothing) in
    (omega (arith, k, c.decreases), omega (arith, k, c.requires))

pub statement_size-block_size-requires-in-While : goal.statement_size-block_size-requires-in-While
statement_size-block_size-requires-in-While t c =
    let k = size-of c.in-While.is (before-While c.in-While.test c.in-While.body Nothing) in
    (omega (arith, k, c.decreases), omega (arith, k, c.requires))

pub statement_size-block_size-requires-in-If : goal.statement_size-block_size-requires-in-If
statement_size-block_size-requires-in-If t c =
    let k = size-of c.in-If.is (before-If c.in-If.test c.in-If.body c.in-If.other Nothing) in
    (omega (arith, k, c.decreases), omega (arith, k, c.requires))

pub statement_size-block_size-requires-in-If-2 : goal.statement_size-block_size-requires-in-If-2
statement_size-block_size-requires-in-If-2 t c =
    let k = size-of c.in-If.is (before-If c.in-If.test c.in-If.body c.in-If.other Nothing) in
    (omega (arith, k, c.decreases), omega (arith, k, c.requires))

pub block_size-loop-statement-preserved : goal.block_size-loop-statement-preserved
block_size-loop-statement-preserved t c =
    let l = c.loop-statement in
    let next = size-next c.deref-statement-items.result.now l.statement-index c.statement-item.result (omega arith) c.statement-item.is in
    omega (arith, next, c.statement_size-sum.ensures, l.invariant)

pub block_size-statement_size-sum-requires : goal.block_size-statement_size-sum-requires
block_size-statement_size-sum-requires t c =
    let l = c.loop-statement in
    let next = size-next c.deref-statement-items.result.now l.statement-index c.statement-item.result (omega arith) c.statement-item.is in
    (omega (arith, next, l.invariant, c.decreases), omega (arith, next, l.invariant, c.requires))

pub block_size-overflow_add-sum : goal.block_size-overflow_add-sum
block_size-overflow_add-sum t c =
    let l = c.loop-statement in
    let next = size-next c.deref-statement-items.result.now l.statement-index c.statement-item.result (omega arith) c.statement-item.is in
    omega (arith, next, l.invariant, c.requires, c.statement_size-sum.ensures)
