use Rattle.std.proofs.Common.{None, refl, ap}
use Rattle.core_world.specs.Trees.LockSteps.{clear_plan}
use Rattle.core_world.specs.Trees.Plans.{CallContext}
use Rattle.heap_table.proofs.StepsLeft.{all_left, can_make, step_made, all_made}
use Rattle.stack_lock.proofs.exits.clear.Goals as goal

pub store_hold-requires : goal.store_hold-requires
store_hold-requires c = can_make (all_left c.requires.heap c.requires.due)
    (ap (λ (x : CallContext). clear_plan (record x { unfinished = None }) c.args.pass.now.known.thread c.args.place) c.call.view_is) refl refl tt

pub returns : goal.returns
returns c = all_made (step_made (all_left c.requires.heap c.requires.due)
    (ap (λ (x : CallContext). clear_plan (record x { unfinished = None }) c.args.pass.now.known.thread c.args.place) c.call.view_is)
    refl refl c.store_hold.ensures)
