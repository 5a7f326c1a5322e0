use Rattle.program_run.proofs.Passed.{shows}
use Rattle.program_run.proofs.laws.a_dump_shows_a_state_that_the_run_passes_through.Goals as goal

pub returns : goal.returns
returns c = shows c.machines_pass_through_a_cut_in_order.ensures
