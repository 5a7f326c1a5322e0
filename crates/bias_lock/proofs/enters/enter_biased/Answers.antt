use Rattle.std.proofs.Common.{◌≡◌, ℕ, Option, Some, refl, sym, ap, ◌∙◌, eq-eqb}
use Rattle.mark_word.specs.declared.mark.MarkForm.{MarkForm}
use Rattle.mark_word.specs.declared.mark.MarkForm.TheVariants.{Anonymous}
use Rattle.plain_monitor.specs.declared.entry.Path.TheVariants.{BiasOwn}
use Rattle.mark_word.specs.Mark.{read_mark}
use Rattle.core_world.specs.Threads.ThreadView.{local_of}
use Rattle.core_world.specs.Trees.BiasSteps.{bias_enter_at, bias_enter_by, took_steps}
use Rattle.bias_lock.specs.inner.Parts.{prototype_enter}
use Rattle.heap_table.specs.Own.{IsOwn}
use Rattle.heap_table.proofs.StepsLeft.{AreLeft, all_left, can_make, step_made, left_as, left_then, never}
use Rattle.bias_lock.proofs.enters.enter_biased.Goals as goal
use Rattle.bias_lock.proofs.enters.enter_biased.Goals.{After-load-prototype}

pub load-prototype-requires : goal.load-prototype-requires
load-prototype-requires c = can_make (all_left c.requires.heap c.requires.due) refl refl refl tt

-- what is left once the prototype is loaded, by its form
by_form : (c : After-load-prototype) (f : Option MarkForm) → read_mark c.load-prototype.result ≡ f
    → AreLeft c.args.heap.now c.args.call.now.task c.args.pass.now
    (prototype_enter c.args.call.now (local_of c.args.pass.now.known) c.args.class c.args.object c.args.mark) c.load-prototype.new.pass
    (bias_enter_by f c.args.call.now (local_of c.load-prototype.new.pass.known) c.args.object c.args.mark c.load-prototype.result)
by_form c f form =
    let local = ap local_of c.load-prototype.ensures.known in
    left_as (step_made (all_left c.requires.heap c.requires.due) refl refl refl c.load-prototype.ensures)
    (λ i. bias_enter_by (form i) c.args.call.now (sym local i) c.args.object c.args.mark c.load-prototype.result)

-- and where the bias is the thread's own
own : (c : After-load-prototype) (t : ℕ) → IsOwn c.args.mark c.load-prototype.result t → t ≡ c.load-prototype.new.pass.known.thread
    → AreLeft c.args.heap.now c.args.call.now.task c.args.pass.now
    (prototype_enter c.args.call.now (local_of c.args.pass.now.known) c.args.class c.args.object c.args.mark) c.load-prototype.new.pass
    (took_steps c.args.call.now (local_of c.load-prototype.new.pass.known) c.args.object BiasOwn)
own c t o same =
    let local = local_of c.load-prototype.new.pass.known in
    let marked = ap (λ (f : Option MarkForm). bias_enter_at f o.epoch c.args.call.now local c.args.object c.args.mark) o.mark_is in
    let left = left_as (by_form c (Some (Anonymous o.epoch o.prototype_age)) o.prototype_is) marked in
    left_then _ _ _ (left_then _ _ _ left (eq-eqb o.epoch o.epoch refl)) (eq-eqb _ _ same)

pub log_biased_enter-requires-clause-due : goal.log_biased_enter-requires-clause-due
log_biased_enter-requires-clause-due c =
    (own (goal.at.log_biased_enter-requires-clause-due c).After-load-prototype _ (c.is_own.ensures c.if-is_own.true) c.thread-own.ensures.same).due

pub returns-then-is_own : goal.returns-then-is_own
returns-then-is_own c =
    (own (goal.at.returns-then-is_own c).After-load-prototype _ (c.is_own.ensures c.if-is_own.true) c.thread-own.ensures.same).whole _ _
    c.log_biased_enter.ensures

pub enter_by_prototype-requires-clause-due : goal.enter_by_prototype-requires-clause-due
enter_by_prototype-requires-clause-due c =
    (by_form (goal.at.enter_by_prototype-requires-clause-due c).After-load-prototype _ (sym c.mark_of_word.ensures ∙ c.in-Some.is)).due

pub unreachable-requires : goal.unreachable-requires
unreachable-requires c = never (by_form (goal.at.unreachable-requires c).After-load-prototype _ (sym c.mark_of_word.ensures ∙ c.in-None.is)) refl

pub returns : goal.returns
returns c =
    (by_form (goal.at.returns c).After-load-prototype _ (sym c.mark_of_word.ensures ∙ c.in-Some.is)).whole _ _ c.enter_by_prototype.ensures
