use Rattle.std.proofs.Common.{refl, arith}
use Rattle.core_world.specs.declared.word_id.WordId.TheVariants.{Waiting}
use Rattle.core_world.specs.declared.stage.Stage.TheVariants.{Settled}
use Rattle.heap_table.specs.StepPlans.{store_plan}
use Rattle.heap_table.proofs.Ruled.{few_objects}
use Rattle.heap_table.proofs.StepsLeft.{all_left, can_make, step_made, all_made}
use Rattle.object_monitor.proofs.enters.pend_on_owner.Goals as goal

pub encode_wait-entering-requires : goal.encode_wait-entering-requires
encode_wait-entering-requires c = let few = few_objects c.args.heap.now c.args.pass.now c.requires.heap in omega (arith, few, c.requires.object)

pub store-requires : goal.store-requires
store-requires c = can_make (all_left c.requires.heap c.requires.due)
    (λ i. store_plan c.args.call.now Settled (Waiting (c.thread.ensures.same i)) (c.encode_wait-entering.ensures i)) refl refl tt

pub returns : goal.returns
returns c = all_made (step_made (all_left c.requires.heap c.requires.due)
    (λ i. store_plan c.args.call.now Settled (Waiting (c.thread.ensures.same i)) (c.encode_wait-entering.ensures i)) refl refl c.store.ensures)
