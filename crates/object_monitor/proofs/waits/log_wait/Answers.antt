use Rattle.std.proofs.Common.{◌+◌, refl, ap, ◌∙◌, arith}
use Rattle.mark_word.specs.declared.wait.WaitForm.TheVariants as wait
use Rattle.mark_word.specs.Wait.{wait_of}
use Rattle.plain_monitor.specs.declared.entry.Entry.TheVariants as entry
use Rattle.core_world.specs.declared.word_id.WordId.TheVariants.{Waiting}
use Rattle.core_world.specs.declared.stage.Stage.TheVariants.{Waits}
use Rattle.core_world.specs.Trees.LockSteps.{raise_stamp_plan}
use Rattle.heap_table.specs.StepPlans.{log_store_within_plan}
use Rattle.heap_table.proofs.Ruled.{few_objects}
use Rattle.heap_table.proofs.Stamps.{low}
use Rattle.heap_table.proofs.StepsLeft.{all_left, can_make, step_made, thread_stays, room_after}
use Rattle.object_monitor.proofs.waits.log_wait.Goals as goal

pub overflow_add-stamp : goal.overflow_add-stamp
overflow_add-stamp c =
    let l = low c.args.heap.now c.args.pass.now c.requires.heap in
    let is = c.last_stamp-stamp.ensures in
    omega (arith, l, is)

pub raise-requires : goal.raise-requires
raise-requires c = can_make (all_left c.requires.heap c.requires.due)
    (ap (λ n. raise_stamp_plan c.args.call.now c.args.object (n + 1)) c.last_stamp-stamp.ensures) refl refl tt

pub encode_wait-word-requires : goal.encode_wait-word-requires
encode_wait-word-requires c =
    let a = c.args in
    let l = low a.heap.now a.pass.now c.requires.heap in
    let few = few_objects a.heap.now a.pass.now c.requires.heap in
    let stamp = c.last_stamp-stamp.ensures in
    (omega (arith, few, c.requires.object), omega (arith, l, stamp))

pub log_store_within-requires : goal.log_store_within-requires
log_store_within-requires c =
    let raised = step_made (all_left c.requires.heap c.requires.due)
    (ap (λ n. raise_stamp_plan c.args.call.now c.args.object (n + 1)) c.last_stamp-stamp.ensures) refl refl c.raise.ensures in
    let thread = c.thread.ensures.same ∙ thread_stays c.raise.ensures in
    let word = c.encode_wait-word.ensures ∙ ap (λ n. wait_of (wait.Waiting c.args.object (n + 1))) c.last_stamp-stamp.ensures in
    can_make raised (λ i. log_store_within_plan c.args.call.now (Waits c.args.object) (Waiting (thread i)) (word i) (entry.Wait c.args.object))
    refl refl (room_after c.raise.ensures refl refl refl c.requires.room)
