use Rattle.machine_laws.proofs.ReachedPaths.{path_changes_nothing, draw_changes_nothing}
use Rattle.machine_laws.proofs.laws.paths_and_draws_change_nothing.Goals as goal

pub returns-clause-path : goal.returns-clause-path
returns-clause-path c = path_changes_nothing

pub returns-clause-drawn : goal.returns-clause-drawn
returns-clause-drawn c = draw_changes_nothing
