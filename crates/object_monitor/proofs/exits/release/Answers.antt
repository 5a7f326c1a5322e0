use Rattle.std.proofs.Common.{refl, sym}
use Rattle.plain_monitor.specs.declared.entry.Entry.TheVariants as entry
use Rattle.core_world.specs.declared.word_id.WordId.TheVariants.{Owner}
use Rattle.core_world.specs.declared.stage.Stage.TheVariants.{Exits}
use Rattle.core_world.specs.Threads.ThreadView.{local_of}
use Rattle.core_world.specs.Trees.MonitorSteps.{release_steps}
use Rattle.heap_table.specs.StepPlans.{log_store_plan}
use Rattle.stack_lock.specs.Parts.{clear_at}
use Rattle.heap_table.proofs.StepsLeft.{AreLeft, all_left, can_make, step_made, left_as, thread_stays}
use Rattle.object_monitor.proofs.exits.release.Goals as goal
use Rattle.object_monitor.proofs.exits.release.Goals.{After-log_store}

pub log_store-requires : goal.log_store-requires
log_store-requires c = can_make (all_left c.requires.heap c.requires.due)
    (λ i. log_store_plan c.args.call.now (Exits c.args.object (c.requires.place i)) (Owner c.args.monitor) (c.encode_owner-word.ensures i)
    (entry.Exit c.args.object)) refl refl c.requires.room

freed : (c : After-log_store) → AreLeft c.args.heap.now c.args.call.now.task c.args.pass.now
    (release_steps c.args.call.now (local_of c.args.pass.now.known) c.args.object c.args.monitor) c.log_store.new.pass
    (clear_at c.args.call.now c.log_store.new.pass.known.thread c.args.place)
freed c =
    let left = step_made (all_left c.requires.heap c.requires.due)
    (λ i. log_store_plan c.args.call.now (Exits c.args.object (c.requires.place i)) (Owner c.args.monitor) (c.encode_owner-word.ensures i)
    (entry.Exit c.args.object)) refl refl c.log_store.ensures in
    let thread = thread_stays c.log_store.ensures in
    left_as left (λ i. clear_at c.args.call.now (sym thread i) (sym c.requires.place i))

pub clear-requires-clause-due : goal.clear-requires-clause-due
clear-requires-clause-due c = (freed (goal.at.clear-requires-clause-due c).After-log_store).due

pub returns : goal.returns
returns c = (freed (goal.at.returns c).After-log_store).whole _ _ c.clear.ensures
