use Rattle.program_run.proofs.RefusedRecords.{wanders}
use Rattle.program_run.proofs.refused.no_record_with_a_bias_that_wanders.Goals as goal

pub returns : goal.returns
returns c = wanders
