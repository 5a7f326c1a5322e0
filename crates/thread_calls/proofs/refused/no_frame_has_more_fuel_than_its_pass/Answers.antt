use Rattle.thread_calls.proofs.OtherPasses.{not_richer, not_above_most}
use Rattle.thread_calls.proofs.refused.no_frame_has_more_fuel_than_its_pass.Goals as goal

pub returns-clause-richer : goal.returns-clause-richer
returns-clause-richer c = not_richer

pub returns-clause-most : goal.returns-clause-most
returns-clause-most c = not_above_most
