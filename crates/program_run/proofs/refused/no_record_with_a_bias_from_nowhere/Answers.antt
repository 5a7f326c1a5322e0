use Rattle.program_run.proofs.RefusedRecords.{from_nowhere}
use Rattle.program_run.proofs.refused.no_record_with_a_bias_from_nowhere.Goals as goal

pub returns : goal.returns
returns c = from_nowhere
