use Rattle.std.proofs.Common.{◌≡◌, ◌==◌, if◌then◌else◌, refl, sym, ap, ◌∙◌, eq-eqb, ne_eqb, arith}
use Rattle.mark_word.specs.declared.mark.MarkForm.TheVariants.{Biased}
use Rattle.mark_word.specs.Mark.{mark_of}
use Rattle.plain_monitor.specs.declared.entry.Path.TheVariants.{BiasTaken}
use Rattle.core_world.specs.declared.answer.BiasTry.TheVariants.{Raced}
use Rattle.core_world.specs.declared.word_id.WordId.TheVariants.{Mark}
use Rattle.core_world.specs.declared.stage.Stage.TheVariants.{BiasAcquired}
use Rattle.core_world.specs.Threads.ThreadView.{local_of}
use Rattle.core_world.specs.Trees.BiasSteps.{rebias_plan, rebias_steps, took_steps}
use Rattle.core_world.specs.Trees.StepTree.{done}
use Rattle.heap_table.specs.StepPlans.{swap_plan}
use Rattle.heap_table.proofs.StepsLeft.{AreLeft, all_left, can_make, step_made, left_as, left_then, left_else, all_made, alike_after, room_after}
use Rattle.bias_lock.proofs.enters.rebias.Goals as goal
use Rattle.bias_lock.proofs.enters.rebias.Goals.{After-encode-own, After-exchange-found}

pub encode-own-requires : goal.encode-own-requires
encode-own-requires c = (omega (arith, c.thread-thread.ensures.low), c.requires.epoch, omega arith)

-- the tree's plan, as the code says it
rebiasing : (c : After-encode-own) → swap_plan c.args.call.now (BiasAcquired c.args.object) (Mark c.args.object) c.args.mark c.encode-own.result
    ≡ rebias_plan c.args.call.now c.args.pass.now.known.thread c.args.object c.args.mark c.args.epoch
rebiasing c = ap (λ w. swap_plan c.args.call.now (BiasAcquired c.args.object) (Mark c.args.object) c.args.mark w)
    (c.encode-own.ensures ∙ (λ i. mark_of (Biased (c.thread-thread.ensures.same i) c.args.epoch 0)))

exchanged : (c : After-exchange-found) → AreLeft c.args.heap.now c.args.call.now.task c.args.pass.now
    (rebias_steps c.args.call.now (local_of c.args.pass.now.known) c.args.object c.args.mark c.args.epoch) c.exchange-found.new.pass
    (if c.exchange-found.result == c.args.mark then took_steps c.args.call.now (local_of c.exchange-found.new.pass.known) c.args.object BiasTaken
    else done (Raced c.args.mark c.exchange-found.result))
exchanged c =
    let local = (alike_after c.exchange-found.ensures refl refl refl).local in
    left_as (step_made (all_left c.requires.heap c.requires.due) (rebiasing c.before.before) refl refl c.exchange-found.ensures)
    (λ i. if c.exchange-found.result == c.args.mark then took_steps c.args.call.now (sym local i) c.args.object BiasTaken
    else done (Raced c.args.mark c.exchange-found.result))

pub exchange-found-requires : goal.exchange-found-requires
exchange-found-requires c =
    can_make (all_left c.requires.heap c.requires.due) (rebiasing (goal.at.exchange-found-requires c).After-encode-own) refl refl tt

pub log_biased_enter-requires-clause-due : goal.log_biased_enter-requires-clause-due
log_biased_enter-requires-clause-due c =
    (left_then _ _ _ (exchanged (goal.at.log_biased_enter-requires-clause-due c).After-exchange-found) (eq-eqb _ _ c.if-found-mark.false)).due

pub log_biased_enter-requires-clause-room : goal.log_biased_enter-requires-clause-room
log_biased_enter-requires-clause-room c = room_after c.exchange-found.ensures refl refl refl c.requires.room

pub returns-then-found-mark : goal.returns-then-found-mark
returns-then-found-mark c =
    all_made (left_else _ _ _ (exchanged (goal.at.returns-then-found-mark c).After-exchange-found) (ne_eqb _ _ c.if-found-mark.true))

pub returns : goal.returns
returns c =
    (left_then _ _ _ (exchanged (goal.at.returns c).After-exchange-found) (eq-eqb _ _ c.if-found-mark.false)).whole _ _ c.log_biased_enter.ensures
