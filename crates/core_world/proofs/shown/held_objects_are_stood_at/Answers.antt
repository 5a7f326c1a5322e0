use Rattle.core_world.proofs.enter_exit.ObjectHolds.{held_is_stood_at}
use Rattle.core_world.proofs.shown.held_objects_are_stood_at.Goals as goal

pub returns : goal.returns
returns c = held_is_stood_at
