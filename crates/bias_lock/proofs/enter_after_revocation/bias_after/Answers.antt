use Rattle.std.proofs.Common.{if◌then◌else◌, refl, sym, ap, ◌∙◌}
use Rattle.mark_word.specs.Mark.{read_mark}
use Rattle.core_world.specs.declared.answer.BiasTry.TheVariants.{Unbiased}
use Rattle.core_world.specs.declared.word_id.WordId.TheVariants.{Mark}
use Rattle.core_world.specs.Threads.ThreadView.{local_of}
use Rattle.core_world.specs.Words.Forms.{is_biased}
use Rattle.core_world.specs.Trees.BiasSteps.{bias_after_at, bias_after_steps}
use Rattle.core_world.specs.Trees.Plans.{load_plan}
use Rattle.core_world.specs.Trees.StepTree.{done}
use Rattle.heap_table.proofs.StepsLeft.{AreLeft, all_left, can_make, step_made, left_as, left_then, left_else, all_made}
use Rattle.bias_lock.proofs.Keeping.{after_keeps}
use Rattle.bias_lock.proofs.enter_after_revocation.bias_after.Goals as goal
use Rattle.bias_lock.proofs.enter_after_revocation.bias_after.Goals.{After-load-mark, After-mark_of_word-form}

pub load-mark-requires : goal.load-mark-requires
load-mark-requires c =
    can_make (all_left c.requires.heap c.requires.due) (ap (λ z. load_plan c.args.call.now z (Mark c.args.object)) c.stage_after-stage.ensures) refl refl tt

loaded : (c : After-load-mark) → AreLeft c.args.heap.now c.args.call.now.task c.args.pass.now
    (bias_after_steps c.args.call.now (local_of c.args.pass.now.known) c.args.object c.args.took) c.load-mark.new.pass
    (if is_biased c.load-mark.result
    then bias_after_at (read_mark c.load-mark.result) c.args.call.now (local_of c.load-mark.new.pass.known) c.args.object
    else done (Unbiased c.load-mark.result))
loaded c =
    let left = step_made (all_left c.requires.heap c.requires.due)
    (ap (λ z. load_plan c.args.call.now z (Mark c.args.object)) c.stage_after-stage.ensures) refl refl c.load-mark.ensures in
    let local = ap local_of c.load-mark.ensures.known in
    left_as left (λ i. if is_biased c.load-mark.result
    then bias_after_at (read_mark c.load-mark.result) c.args.call.now (sym local i) c.args.object
    else done (Unbiased c.load-mark.result))

-- it has the bias pattern, and its form is read
biased : (c : After-mark_of_word-form) → AreLeft c.args.heap.now c.args.call.now.task c.args.pass.now
    (bias_after_steps c.args.call.now (local_of c.args.pass.now.known) c.args.object c.args.took) c.load-mark.new.pass
    (bias_after_at c.mark_of_word-form.result c.args.call.now (local_of c.load-mark.new.pass.known) c.args.object)
biased c = left_as (left_then _ _ _ (loaded c.before.before.before) (sym c.is_biased.ensures ∙ c.if-is_biased.true))
    (λ i. bias_after_at (sym c.mark_of_word-form.ensures i) c.args.call.now (local_of c.load-mark.new.pass.known) c.args.object)

pub enter_own-requires-clause-due : goal.enter_own-requires-clause-due
enter_own-requires-clause-due c = (biased (goal.at.enter_own-requires-clause-due c).After-mark_of_word-form).due

pub returns-then-is_biased-clause-run : goal.returns-then-is_biased-clause-run
returns-then-is_biased-clause-run c = (biased (goal.at.returns-then-is_biased-clause-run c).After-mark_of_word-form).whole _ _ c.enter_own.ensures

pub returns-clause-run : goal.returns-clause-run
returns-clause-run c = all_made (left_else _ _ _ (loaded (goal.at.returns-clause-run c).After-load-mark) (sym c.is_biased.ensures ∙ c.if-is_biased.false))

pub returns-then-is_biased-clause-kept : goal.returns-then-is_biased-clause-kept
returns-then-is_biased-clause-kept c =
    after_keeps c.args.heap.now.heap.shape c.args.heap.now.heap.start c.args.call.now (local_of c.args.pass.now.known) c.args.object c.args.took
    c.args.pass.now.known c.enter_own.new.pass.known c.enter_own.result (returns-then-is_biased-clause-run c).ran.by

pub returns-clause-kept : goal.returns-clause-kept
returns-clause-kept c =
    after_keeps c.args.heap.now.heap.shape c.args.heap.now.heap.start c.args.call.now (local_of c.args.pass.now.known) c.args.object c.args.took
    c.args.pass.now.known c.load-mark.new.pass.known (Unbiased c.load-mark.result) (returns-clause-run c).ran.by
