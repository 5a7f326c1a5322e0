use Rattle.std.proofs.Common.{◌≡◌, arith, ◌∙◌, sym, ap, subst, ◌++◌, ◌==◌, ℕ, false, length}
use Rattle.std.specs.Prelude.{OnOk}
use Rattle.sync_source.specs.BlockView.{before, all_of}
use Rattle.sync_source.specs.Source.{Nothing}
use Rattle.sync_source.specs.Compiled.{size}
use Rattle.sync_source.proofs.Viewed.{before-Sync, before-If, before-While}
use Rattle.sync_syntax.specs.inner.Written.{statements_text}
use Rattle.sync_syntax.proofs.Written.{else_written, if_written}
use Rattle.sync_syntax.proofs.write.+lines.Goals as goal

pub write_statement-write_sync_block-requires : goal.write_statement-write_sync_block-requires
write_statement-write_sync_block-requires t c =
    let h = ap (λ s. size (before s Nothing)) c.in-Sync.is in
    let k = ap size (before-Sync c.in-Sync.local c.in-Sync.body Nothing) in
    omega (arith, h, k, c.decreases)

pub write_statement-write_if-requires : goal.write_statement-write_if-requires
write_statement-write_if-requires t c =
    let h = ap (λ s. size (before s Nothing)) c.in-If.is in
    let k = ap size (before-If c.in-If.test c.in-If.body c.in-If.other Nothing) in
    omega (arith, h, k, c.decreases)

pub write_statement-write_while-requires : goal.write_statement-write_while-requires
write_statement-write_while-requires t c =
    let h = ap (λ s. size (before s Nothing)) c.in-While.is in
    let k = ap size (before-While c.in-While.test c.in-While.body Nothing) in
    omega (arith, h, k, c.decreases)

pub write_statement-returns-in-Sync : goal.write_statement-returns-in-Sync
write_statement-returns-in-Sync t c =
    let is = ap (λ s. before s Nothing) c.in-Sync.is ∙ before-Sync c.in-Sync.local c.in-Sync.body Nothing in
    let text = statements_text c.args.classes.now c.args.objects.now c.args.thread.now in
    subst (λ s. OnOk c.write_sync_block.result (c.write_sync_block.new.out.items ≡ c.args.out.now.items ++ text s)) (sym is) c.write_sync_block.ensures

pub write_statement-returns-in-If : goal.write_statement-returns-in-If
write_statement-returns-in-If t c =
    let is = ap (λ s. before s Nothing) c.in-If.is ∙ before-If c.in-If.test c.in-If.body c.in-If.other Nothing in
    let text = statements_text c.args.classes.now c.args.objects.now c.args.thread.now in
    subst (λ s. OnOk c.write_if.result (c.write_if.new.out.items ≡ c.args.out.now.items ++ text s)) (sym is) c.write_if.ensures

pub write_statement-returns-in-While : goal.write_statement-returns-in-While
write_statement-returns-in-While t c =
    let is = ap (λ s. before s Nothing) c.in-While.is ∙ before-While c.in-While.test c.in-While.body Nothing in
    let text = statements_text c.args.classes.now c.args.objects.now c.args.thread.now in
    subst (λ s. OnOk c.write_while.result (c.write_while.new.out.items ≡ c.args.out.now.items ++ text s)) (sym is) c.write_while.ensures

pub write_else-returns : goal.write_else-returns
write_else-returns t c =
    let ss = c.args.other.now.statements.items in
    let count : c.args.other.now.statements.len ≡ length ss = omega (arith, c.args.other.now.statements.ok.0) in
    let some : (length ss == 0) ≡ false = subst (λ (n : ℕ). (n == 0) ≡ false) count (sym c.if-bare.ensures) in
    subst (λ bs. OnOk c.write_block.result (c.write_block.new.out.items ≡ bs))
    (else_written c.args.classes.now c.args.objects.now c.args.thread.now ss c.args.out.now.items _ some c.in_ok-write_line.ensures.ok) c.write_block.ensures

pub write_if-returns : goal.write_if-returns
write_if-returns t c =
    let body = all_of c.args.body.now.statements.items in
    let other = all_of c.args.other.now.statements.items in
    let written = if_written c.args.classes.now c.args.objects.now c.args.thread.now c.args.test body other c.args.out.now.items _ _ _
    c.in_ok-write_test.ensures c.in_ok-write_block.ensures c.in_ok-write_else.ensures in
    subst (λ bs. OnOk c.write_done.result (c.write_done.new.out.items ≡ bs)) written c.write_done.ensures
