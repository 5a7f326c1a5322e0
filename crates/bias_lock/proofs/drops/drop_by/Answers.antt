use Rattle.std.proofs.Common.{ℕ, Option, Some, sym, ap, ◌∙◌, subst}
use Rattle.mark_word.specs.declared.mark.MarkForm.{MarkForm}
use Rattle.core_world.specs.Trees.BiasSteps.{bias_drop_at, bias_drop_by}
use Rattle.heap_table.specs.Parts.{IsDueOn}
use Rattle.heap_table.proofs.Ruled.{not_due}
use Rattle.bias_lock.proofs.drops.drop_by.Goals as goal

pub unbias-requires-clause-due : goal.unbias-requires-clause-due
unbias-requires-clause-due c =
    let a = c.args in
    let h = a.heap.now in
    let p = a.pass.now in
    let e = a.call.now in
    subst (λ (x : Option ℕ). IsDueOn h p e.task (bias_drop_by x e a.object a.mark a.prototype)) c.in-None.is c.requires.due

pub unreachable-requires : goal.unreachable-requires
unreachable-requires c =
    let a = c.args in
    let h = a.heap.now in
    let p = a.pass.now in
    let e = a.call.now in
    let epoch = c.in-Some.epoch in
    let due = subst (λ (x : Option ℕ). IsDueOn h p e.task (bias_drop_by x e a.object a.mark a.prototype)) c.in-Some.is c.requires.due in
    not_due h p e.task (bias_drop_by (Some epoch) e a.object a.mark a.prototype) c.requires.heap due
    (ap (λ (f : Option MarkForm). bias_drop_at f epoch e a.object a.mark) (sym c.mark_of_word.ensures ∙ c.in-None-mark_of_word.is))
