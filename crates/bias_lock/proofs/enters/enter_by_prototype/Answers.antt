use Rattle.std.proofs.Common.{◌≡◌, Option, Some, refl, sym, ap, ◌∙◌}
use Rattle.mark_word.specs.declared.mark.MarkForm.{MarkForm}
use Rattle.mark_word.specs.declared.mark.MarkForm.TheVariants.{Anonymous}
use Rattle.mark_word.specs.Mark.{read_mark}
use Rattle.mark_word.proofs.ReadingMarks.{read_mark-spells}
use Rattle.core_world.specs.Threads.ThreadView.{local_of}
use Rattle.core_world.specs.Trees.BiasSteps.{bias_enter_at, bias_enter_by}
use Rattle.heap_table.proofs.StepsLeft.{AreLeft, all_left, left_as, never}
use Rattle.bias_lock.proofs.Never.{no_prototype}
use Rattle.bias_lock.proofs.enters.enter_by_prototype.Goals as goal
use Rattle.bias_lock.proofs.enters.enter_by_prototype.Goals.{In-Anonymous}

pub unbias-requires-clause-due : goal.unbias-requires-clause-due
unbias-requires-clause-due c = (left_as (all_left c.requires.heap c.requires.due)
    (ap (λ (f : MarkForm). bias_enter_by (Some f) c.args.call.now (local_of c.args.pass.now.known) c.args.object c.args.mark c.args.prototype)
    c.in-Neutral.is)).due

pub enter_at-requires-clause-epoch : goal.enter_at-requires-clause-epoch
enter_at-requires-clause-epoch c =
    let b = c.in-Anonymous in
    (read_mark-spells c.args.prototype (Anonymous b.epoch b.age) (c.requires.form ∙ ap Some b.is)).0.0

-- the prototype is anonymous: the form of the mark says what is left
by_form : (c : In-Anonymous) (f : Option MarkForm) → read_mark c.args.mark ≡ f → AreLeft c.args.heap.now c.args.call.now.task c.args.pass.now
    (bias_enter_by (Some c.args.form) c.args.call.now (local_of c.args.pass.now.known) c.args.object c.args.mark c.args.prototype) c.args.pass.now
    (bias_enter_at f c.in-Anonymous.epoch c.args.call.now (local_of c.args.pass.now.known) c.args.object c.args.mark)
by_form c f form = left_as (all_left c.requires.heap c.requires.due)
    (ap (λ (g : MarkForm). bias_enter_by (Some g) c.args.call.now (local_of c.args.pass.now.known) c.args.object c.args.mark c.args.prototype) c.in-Anonymous.is
    ∙ ap (λ (g : Option MarkForm). bias_enter_at g c.in-Anonymous.epoch c.args.call.now (local_of c.args.pass.now.known) c.args.object c.args.mark) form)

pub enter_at-requires-clause-due : goal.enter_at-requires-clause-due
enter_at-requires-clause-due c = (by_form (goal.at.enter_at-requires-clause-due c).In-Anonymous _ (sym c.mark_of_word.ensures ∙ c.in-Some.is)).due

pub unreachable-requires : goal.unreachable-requires
unreachable-requires c = never (by_form (goal.at.unreachable-requires c).In-Anonymous _ (sym c.mark_of_word.ensures ∙ c.in-None.is)) refl

pub unreachable-requires-in_default : goal.unreachable-requires-in_default
unreachable-requires-in_default c =
    never (all_left c.requires.heap c.requires.due) (no_prototype c.args.form _ _ _ _ _ c.in_default.not-Neutral c.in_default.not-Anonymous)
