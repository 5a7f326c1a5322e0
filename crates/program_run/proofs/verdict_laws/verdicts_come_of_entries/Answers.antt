use Rattle.program_run.proofs.Verdicts.{all_few, operations_few, revoked_late}
use Rattle.program_run.proofs.verdict_laws.verdicts_come_of_entries.Goals as goal

pub returns-clause-verdicts : goal.returns-clause-verdicts
returns-clause-verdicts c = λ s p r closed ran. all_few r closed ran.biases

pub returns-clause-bulk : goal.returns-clause-bulk
returns-clause-bulk c = λ s p r closed ran. operations_few r closed ran.biases

pub returns-clause-late : goal.returns-clause-late
returns-clause-late c = λ s p r closed ran. revoked_late r closed ran.biases
