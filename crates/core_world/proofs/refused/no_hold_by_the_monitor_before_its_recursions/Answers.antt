use Rattle.core_world.proofs.RefusedWorlds.{no_hold_by_the_monitor_before_its_recursions}
use Rattle.core_world.proofs.refused.no_hold_by_the_monitor_before_its_recursions.Goals as goal

pub returns : goal.returns
returns c = no_hold_by_the_monitor_before_its_recursions
