use Rattle.bias_cli.proofs.Refuted.{no_call_wrote, not_allowed, not_written}
use Rattle.bias_cli.proofs.refused.no_other_status_by_other_settings.Goals as goal

pub returns-clause-plain : goal.returns-clause-plain
returns-clause-plain c = not_written

pub returns-clause-allowed : goal.returns-clause-allowed
returns-clause-allowed c o status text fuel other = not_allowed o status other fuel text

pub returns-clause-call : goal.returns-clause-call
returns-clause-call c = no_call_wrote
