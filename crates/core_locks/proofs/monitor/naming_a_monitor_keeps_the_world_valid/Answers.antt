use Rattle.core_locks.proofs.monitor.NamesLaws.{names_inflated, names_neutral}
use Rattle.core_locks.proofs.monitor.naming_a_monitor_keeps_the_world_valid.Goals as goal

pub returns : goal.returns
returns c = record { store = names_inflated; exchange = names_neutral }
