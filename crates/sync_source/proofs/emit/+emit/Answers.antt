use Rattle.std.proofs.Common.{◌≡◌, arith, ◌∙◌, sym, ap, subst, ◌+◌, ◌∷◌, [], ◌++◌, length, drop}
use Rattle.std.specs.Prelude.{OnOk}
use Rattle.std.proofs.lemmas.List.{drop_more}
use Rattle.sync_source.specs.BlockView.{before, all_of}
use Rattle.sync_source.specs.Source.{Nothing}
use Rattle.sync_source.specs.Compiled.{size, code_at}
use Rattle.sync_source.proofs.Viewed.{before-Sync, before-If, before-While, size-of, size-next, size-before, put_before, put_size, if_size, put_if}
use Rattle.sync_source.proofs.emit.+emit.Goals as goal

pub emit_statement-emit_sync-requires : goal.emit_statement-emit_sync-requires
emit_statement-emit_sync-requires t c =
    let k = size-of c.in-Sync.is (before-Sync c.in-Sync.local c.in-Sync.body Nothing) in
    (omega (arith, k, c.decreases), omega (arith, k, c.requires))

pub emit_statement-emit_if-requires : goal.emit_statement-emit_if-requires
emit_statement-emit_if-requires t c =
    let k = size-of c.in-If.is (before-If c.in-If.test c.in-If.body c.in-If.other Nothing) in
    (omega (arith, k, c.decreases), omega (arith, k, c.requires))

pub emit_statement-emit_while-requires : goal.emit_statement-emit_while-requires
emit_statement-emit_while-requires t c =
    let k = size-of c.in-While.is (before-While c.in-While.test c.in-While.body Nothing) in
    (omega (arith, k, c.decreases), omega (arith, k, c.requires))

pub emit_statement-returns-in-Sync : goal.emit_statement-returns-in-Sync
emit_statement-returns-in-Sync t c =
    let old = c.args.code.now.items in
    let is = ap (λ s. before s Nothing) c.in-Sync.is ∙ before-Sync c.in-Sync.local c.in-Sync.body Nothing in
    subst (λ b. OnOk c.emit_sync.result (c.emit_sync.new.code.items ≡ old ++ code_at (length old) b)) (sym is) c.emit_sync.ensures

pub emit_statement-returns-in-If : goal.emit_statement-returns-in-If
emit_statement-returns-in-If t c =
    let old = c.args.code.now.items in
    let is = ap (λ s. before s Nothing) c.in-If.is ∙ before-If c.in-If.test c.in-If.body c.in-If.other Nothing in
    subst (λ b. OnOk c.emit_if.result (c.emit_if.new.code.items ≡ old ++ code_at (length old) b)) (sym is) c.emit_if.ensures

pub emit_statement-returns-in-While : goal.emit_statement-returns-in-While
emit_statement-returns-in-While t c =
    let old = c.args.code.now.items in
    let is = ap (λ s. before s Nothing) c.in-While.is ∙ before-While c.in-While.test c.in-While.body Nothing in
    subst (λ b. OnOk c.emit_while.result (c.emit_while.new.code.items ≡ old ++ code_at (length old) b)) (sym is) c.emit_while.ensures

pub emit_if-emit_block-requires-2 : goal.emit_if-emit_block-requires-2
emit_if-emit_block-requires-2 t c =
    let l = if_size _ _ _ _ _ _ _ c.in_ok-put.ensures c.in_ok-emit_block.ensures c.in_ok-put-2.ensures in
    (omega (arith, c.decreases), omega (arith, l, c.requires))

pub emit_if-returns : goal.emit_if-returns
emit_if-returns t c =
    let old = c.args.code.now.items in
    let b = all_of c.args.body.now.statements.items in
    let o = all_of c.args.other.now.statements.items in
    let held = c.len.result + 1 + c.block_size.result + 1 in
    let past = held + c.block_size-2.result in
    let h : held ≡ length old + 1 + size o + 1 = omega (arith, c.len.ensures, c.args.code.now.ok.0, c.block_size.ensures) in
    let p : past ≡ held + size b = omega (arith, c.block_size-2.ensures) in
    let e = c.in_ok-put.ensures ∙ ap (λ i. old ++ i ∷ []) c.jump_where.ensures in
    let g = c.in_ok-put-2.ensures ∙ ap (λ i. c.emit_block.new.code.items ++ i ∷ []) c.jump_to.ensures in
    subst (λ z. OnOk c.emit_block-2.result (c.emit_block-2.new.code.items ≡ z))
    (put_if old _ _ _ c.args.test b o held past h p e c.in_ok-emit_block.ensures g) c.emit_block-2.ensures

pub emit_block-loop-statement-preserved : goal.emit_block-loop-statement-preserved
emit_block-loop-statement-preserved t c =
    let l = c.loop-statement in
    let xs = c.deref-statement-items.result.now in
    let x = c.statement-item.result in
    let later = all_of (drop (l.statement-index + 1) xs) in
    let here : drop l.statement-index xs ≡ x ∷ drop (l.statement-index + 1) xs =
    drop_more xs l.statement-index x (omega arith) ∙ ap (λ y. y ∷ drop (l.statement-index + 1) xs) (sym c.statement-item.is) in
    let done = c.in_ok-emit_statement.ensures in (
      put_before _ _ x later done ∙ ap (λ ys. l.code.items ++ code_at (length l.code.items) (all_of ys)) (sym here) ∙ l.invariant.0,
      put_size _ _ x later done ∙ ap (λ ys. length l.code.items + size (all_of ys)) (sym here) ∙ l.invariant.1,
      omega (arith, put_size _ _ x later done, size-before x later, l.invariant.2),
    )

pub emit_block-emit_statement-requires : goal.emit_block-emit_statement-requires
emit_block-emit_statement-requires t c =
    let l = c.loop-statement in
    let next = size-next c.deref-statement-items.result.now l.statement-index c.statement-item.result (omega arith) c.statement-item.is in
    let whole = ap (λ ys. size (all_of ys)) c.deref-statement-items.ensures.value in (
      omega (arith, next, whole, l.invariant.1, l.invariant.2, c.decreases),
      omega (arith, next, whole, l.invariant.1, c.requires.fits),
    )
