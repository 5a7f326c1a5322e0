-- The steps that change a bias without a safepoint, and that enter and leave an object under a bias, after OpenJDK 8's biasedLocking.cpp
-- (revoke_and_rebias) and Russell and Detlefs, OOPSLA 2006.
use Rattle.std.specs.Prelude.{ℕ, ◌==◌, if◌then◌else◌, Bool, true, false, Option, Some, None}
use Rattle.mark_word.specs.declared.mark.MarkForm.{MarkForm}
use Rattle.mark_word.specs.declared.mark.MarkForm.TheVariants.{Neutral, Anonymous, Biased}
use Rattle.mark_word.specs.Mark.{mark_of, read_mark}
use Rattle.plain_monitor.specs.declared.entry.Path.{Path}
use Rattle.plain_monitor.specs.declared.entry.Path.TheVariants.{BiasOwn, BiasTaken}
use Rattle.core_world.specs.declared.word_id.WordId.TheVariants.{Mark, Prototype}
use Rattle.core_world.specs.declared.plan.StepPlan.{StepPlan}
use Rattle.core_world.specs.declared.stage.Stage.{Stage}
use Rattle.core_world.specs.declared.stage.Stage.TheVariants.{Settled, BiasAcquired}
use Rattle.core_world.specs.declared.answer.BiasTry.{BiasTry}
use Rattle.core_world.specs.declared.answer.BiasTry.TheVariants.{Took, Unbiased, Valid, Raced}
use Rattle.core_world.specs.Words.Shape.{Shape}
use Rattle.core_world.specs.Words.Forms.{epoch_in, is_biased}
use Rattle.core_world.specs.Threads.ThreadView.{Local}
use Rattle.core_world.specs.Trees.StepTree.{StepTree, done, unreachable, ◌>>=◌, ask}
use Rattle.core_world.specs.Trees.Plans.{CallContext, with_stage, load_plan, load, swap, class_steps}
use Rattle.core_world.specs.Trees.LockSteps.{hold_steps, raise_steps, leave_steps}

-- THE PLANS. The mark of o is exchanged for a neutral one.
abbrev pub unbias_plan : CallContext → ℕ → ℕ → ℕ → StepPlan
unbias_plan e o mark neutral = swap e (Mark o) mark neutral

-- The mark of o is exchanged for the bias to thread t itself.
abbrev pub rebias_plan : CallContext → ℕ → ℕ → ℕ → ℕ → StepPlan
rebias_plan e t o mark epoch = with_stage (BiasAcquired o) (swap e (Mark o) mark (mark_of (Biased t epoch 0)))

-- THE STEPS. The hold is stored under the bias.
abbrev pub took_steps : CallContext → Local → ℕ → Path → StepTree BiasTry
took_steps e k o by = do
  path ← hold_steps e k o by
  done (Took path)

-- The mark is exchanged for a neutral one.
abbrev pub unbias_swap_steps : CallContext → ℕ → ℕ → ℕ → StepTree BiasTry
unbias_swap_steps e o mark neutral = do
  found ← ask (unbias_plan e o mark neutral)
  if found == mark then done (Unbiased neutral) else done (Raced mark found)

-- Stale, or valid and anonymous: the mark is exchanged for the bias to this thread.
abbrev pub rebias_steps : CallContext → Local → ℕ → ℕ → ℕ → StepTree BiasTry
rebias_steps e k o mark epoch = do
  found ← ask (rebias_plan e k.thread o mark epoch)
  if found == mark then took_steps e k o BiasTaken else done (Raced mark found)

-- Valid and biased to this thread: only the hold is stored. Valid and biased to another: nothing is done.
abbrev pub bias_valid_steps : CallContext → Local → ℕ → ℕ → ℕ → StepTree BiasTry
bias_valid_steps e k o mark thread = if thread == k.thread then took_steps e k o BiasOwn else done (Valid mark)

abbrev pub bias_enter_at : Option MarkForm → ℕ → CallContext → Local → ℕ → ℕ → StepTree BiasTry
bias_enter_at (Some (Biased thread old age)) epoch e k o mark =
    if old == epoch then bias_valid_steps e k o mark thread else rebias_steps e k o mark epoch
bias_enter_at (Some (Anonymous old age)) epoch e k o mark = rebias_steps e k o mark epoch
bias_enter_at _ epoch e k o mark = unreachable

-- A neutral prototype: the mark is exchanged for it.
abbrev pub bias_enter_by : Option MarkForm → CallContext → Local → ℕ → ℕ → ℕ → StepTree BiasTry
bias_enter_by (Some (Neutral hash age)) e k o mark prototype = unbias_swap_steps e o mark prototype
bias_enter_by (Some (Anonymous epoch age)) e k o mark prototype = bias_enter_at (read_mark mark) epoch e k o mark
bias_enter_by _ e k o mark prototype = unreachable

-- an enter of o
abbrev pub bias_enter_steps : Shape → CallContext → Local → ℕ → StepTree BiasTry
bias_enter_steps s e k o = do
  mark ← ask (load e (Mark o))
  if is_biased mark then (do
    class ← class_steps e Settled s o
    prototype ← ask (load e (Prototype class))
    bias_enter_by (read_mark prototype) e k o mark prototype) else done (Unbiased mark)

-- An exit under a bias makes no exchange: the stamp is raised, and where the mark has the bias pattern the hold word is cleared, which logs
-- Exit. It answers whether that was so.
abbrev pub bias_exit_steps : CallContext → Local → ℕ → StepTree Bool
bias_exit_steps e k o = do
  _ ← raise_steps e k o
  mark ← ask (load e (Mark o))
  if is_biased mark then (do
    _ ← leave_steps e k o
    done true) else done false

-- Anonymous or stale: the mark is exchanged for the neutral one. Valid and biased to a thread: nothing is done.
abbrev pub bias_drop_at : Option MarkForm → ℕ → CallContext → ℕ → ℕ → StepTree BiasTry
bias_drop_at (Some (Biased thread old age)) epoch e o mark =
    if old == epoch then done (Valid mark) else unbias_swap_steps e o mark (mark_of (Neutral 0 0))
bias_drop_at (Some (Anonymous old age)) epoch e o mark = unbias_swap_steps e o mark (mark_of (Neutral 0 0))
bias_drop_at _ epoch e o mark = unreachable

abbrev pub bias_drop_by : Option ℕ → CallContext → ℕ → ℕ → ℕ → StepTree BiasTry
bias_drop_by None e o mark prototype = unbias_swap_steps e o mark prototype
bias_drop_by (Some epoch) e o mark prototype = bias_drop_at (read_mark mark) epoch e o mark

-- the end of o's bias, as far as it needs no safepoint
abbrev pub bias_drop_steps : Shape → CallContext → ℕ → StepTree BiasTry
bias_drop_steps s e o = do
  mark ← ask (load e (Mark o))
  if is_biased mark then (do
    class ← class_steps e Settled s o
    prototype ← ask (load e (Prototype class))
    bias_drop_by (epoch_in prototype) e o mark prototype) else done (Unbiased mark)

abbrev pub bias_after_at : Option MarkForm → CallContext → Local → ℕ → StepTree BiasTry
bias_after_at (Some (Biased thread epoch age)) e k o = if thread == k.thread then took_steps e k o BiasTaken else unreachable
bias_after_at _ e k o = unreachable

-- where the thread stands once it has revoked o's bias, by whether it gave itself a new one
abbrev pub stage_after : Bool → ℕ → Stage
stage_after took o = if took then BiasAcquired o else Settled

-- an enter of o after its bias was revoked at this thread's safepoint, which may have made a new one
abbrev pub bias_after_steps : CallContext → Local → ℕ → Bool → StepTree BiasTry
bias_after_steps e k o took = do
  mark ← ask (load_plan e (stage_after took o) (Mark o))
  if is_biased mark then bias_after_at (read_mark mark) e k o else done (Unbiased mark)
