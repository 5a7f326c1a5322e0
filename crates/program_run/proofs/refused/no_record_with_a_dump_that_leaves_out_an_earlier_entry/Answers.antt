use Rattle.program_run.proofs.RefusedRecords.{leaves_out}
use Rattle.program_run.proofs.refused.no_record_with_a_dump_that_leaves_out_an_earlier_entry.Goals as goal

pub returns : goal.returns
returns c = leaves_out
