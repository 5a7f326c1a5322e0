use Rattle.core_locks.proofs.wait.Saves.{saves_count, loads_word}
use Rattle.core_locks.proofs.monitor.loading_a_word_of_a_monitor_keeps_the_world_valid.Goals as goal

pub returns : goal.returns
returns c = record { saving = saves_count; looking = loads_word }
