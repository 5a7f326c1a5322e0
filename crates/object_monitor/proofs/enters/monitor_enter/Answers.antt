use Rattle.std.proofs.Common.{◌≡◌, refl, sym, ap, ◌∙◌}
use Rattle.mark_word.specs.declared.owner.OwnerForm.TheVariants.{ByThread}
use Rattle.mark_word.specs.Owner.{owner_of, read_owner}
use Rattle.core_world.specs.declared.word_id.WordId.TheVariants.{Owner}
use Rattle.core_world.specs.declared.stage.Stage.TheVariants.{MonitorAcquired}
use Rattle.core_world.specs.Threads.ThreadView.{local_of}
use Rattle.core_world.specs.Trees.MonitorSteps.{grab_plan, monitor_enter_at, monitor_enter_steps}
use Rattle.heap_table.specs.StepPlans.{swap_plan}
use Rattle.heap_table.proofs.StepsLeft.{AreLeft, all_left, can_make, step_made, left_as, alike_after}
use Rattle.object_monitor.proofs.enters.monitor_enter.Goals as goal
use Rattle.object_monitor.proofs.enters.monitor_enter.Goals.{After-encode_owner-word, After-exchange-found}

-- the tree's plan, as the code says it
grabbing : (c : After-encode_owner-word)
    → swap_plan c.args.call.now (MonitorAcquired c.args.object) (Owner c.args.monitor) c.encode_owner-free.result c.encode_owner-word.result
    ≡ grab_plan c.args.call.now c.args.pass.now.known.thread c.args.object c.args.monitor
grabbing c =
    let word = c.encode_owner-word.ensures ∙ ap (λ t. owner_of (ByThread t)) c.thread-thread.ensures.same in
    λ i. swap_plan c.args.call.now (MonitorAcquired c.args.object) (Owner c.args.monitor) (c.encode_owner-free.ensures i) (word i)

pub exchange-found-requires : goal.exchange-found-requires
exchange-found-requires c =
    can_make (all_left c.requires.heap c.requires.due) (grabbing (goal.at.exchange-found-requires c).After-encode_owner-word) refl refl tt

-- what is left after the exchange, by what it found
found_left : (c : After-exchange-found) → AreLeft c.args.heap.now c.args.call.now.task c.args.pass.now
    (monitor_enter_steps c.args.call.now (local_of c.args.pass.now.known) c.args.object c.args.monitor) c.exchange-found.new.pass
    (monitor_enter_at (read_owner c.exchange-found.result) c.args.call.now (local_of c.exchange-found.new.pass.known) c.args.object c.args.monitor
    c.exchange-found.result)
found_left c =
    let local = (alike_after c.exchange-found.ensures refl refl refl).local in
    left_as (step_made (all_left c.requires.heap c.requires.due) (grabbing c.before.before) refl refl c.exchange-found.ensures)
    (λ i. monitor_enter_at (read_owner c.exchange-found.result) c.args.call.now (sym local i) c.args.object c.args.monitor c.exchange-found.result)

pub monitor_enter_found-requires-clause-due : goal.monitor_enter_found-requires-clause-due
monitor_enter_found-requires-clause-due c = (found_left (goal.at.monitor_enter_found-requires-clause-due c).After-exchange-found).due

pub returns : goal.returns
returns c = (found_left (goal.at.returns c).After-exchange-found).whole _ _ c.monitor_enter_found.ensures
