use Rattle.sync_source.proofs.WrongCode.{exit_fault_logged, exit_fault_begun, not_changed}
use Rattle.sync_source.proofs.refused.an_exit_faults_where_its_local_is_changed.Goals as goal

pub returns-clause-logged : goal.returns-clause-logged
returns-clause-logged c = exit_fault_logged

pub returns-clause-ending : goal.returns-clause-ending
returns-clause-ending c = exit_fault_begun

pub returns-clause-barred : goal.returns-clause-barred
returns-clause-barred c = not_changed
