use Rattle.bias_cli.proofs.Refuted.{run_of_another, run_without_record, sync_of_another, sync_without_record}
use Rattle.bias_cli.proofs.refused.no_run_without_a_record_of_its_program.Goals as goal

pub returns-clause-run : goal.returns-clause-run
returns-clause-run c o p before after f = run_without_record o before after f p

pub returns-clause-sync : goal.returns-clause-sync
returns-clause-sync c o s before after f = sync_without_record o before after f s

pub returns-clause-program : goal.returns-clause-program
returns-clause-program c o p before after f r = run_of_another o before after f p r

pub returns-clause-code : goal.returns-clause-code
returns-clause-code c o s before after f r = sync_of_another o before after f s r
