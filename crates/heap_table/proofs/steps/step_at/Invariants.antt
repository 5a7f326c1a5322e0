use Rattle.heap_table.specs.Ruled.{heap_in}
use Rattle.heap_table.proofs.steps.step_at.Given as goal

abbrev pub ghosts-step_as : goal.ghosts-step_as
ghosts-step_as a = record { heap = heap_in a.setting.now; plan = a.plan.now }
