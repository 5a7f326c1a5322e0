use Rattle.std.proofs.Common.{Option, refl, sym, ap, ◌∙◌, subst}
use Rattle.mark_word.specs.declared.mark.MarkForm.{MarkForm}
use Rattle.mark_word.specs.Mark.{read_mark}
use Rattle.core_world.specs.Threads.ThreadView.{local_of}
use Rattle.core_world.specs.Trees.BiasSteps.{bias_enter_by}
use Rattle.heap_table.specs.Parts.{IsDueOn, HasMadeSteps}
use Rattle.heap_table.proofs.StepsLeft.{all_left, left_as, never}
use Rattle.bias_lock.proofs.Keeping.{by_keeps}
use Rattle.bias_lock.proofs.enters.bias_enter_loaded.Goals as goal

pub enter_by_prototype-requires-clause-due : goal.enter_by_prototype-requires-clause-due
enter_by_prototype-requires-clause-due c =
    let a = c.args in
    subst (λ (f : Option MarkForm). IsDueOn a.heap.now a.pass.now a.call.now.task
    (bias_enter_by f a.call.now (local_of a.pass.now.known) a.object a.mark a.prototype)) (sym c.mark_of_word.ensures ∙ c.in-Some.is) c.requires.due

pub unreachable-requires : goal.unreachable-requires
unreachable-requires c =
    let a = c.args in
    never (left_as (all_left c.requires.heap c.requires.due) (ap (λ (f : Option MarkForm).
    bias_enter_by f a.call.now (local_of a.pass.now.known) a.object a.mark a.prototype) (sym c.mark_of_word.ensures ∙ c.in-None.is))) refl

pub returns-clause-run : goal.returns-clause-run
returns-clause-run c =
    let a = c.args in
    subst (λ (f : Option MarkForm). HasMadeSteps a.heap.now (bias_enter_by f a.call.now (local_of a.pass.now.known) a.object a.mark a.prototype)
    a.pass.now c.enter_by_prototype.new.pass c.enter_by_prototype.result) (sym (sym c.mark_of_word.ensures ∙ c.in-Some.is)) c.enter_by_prototype.ensures

pub returns-clause-kept : goal.returns-clause-kept
returns-clause-kept c =
    let a = c.args in
    by_keeps a.heap.now.heap.shape a.heap.now.heap.start a.call.now (local_of a.pass.now.known) a.object a.mark c.enter_by_prototype.new.pass.known
    c.enter_by_prototype.result (read_mark a.prototype) a.prototype a.pass.now.known (returns-clause-run c).ran.by
