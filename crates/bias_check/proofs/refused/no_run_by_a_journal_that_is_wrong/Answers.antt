use Rattle.bias_check.proofs.Refuted.{not_read_again, too_high, without_enter}
use Rattle.bias_check.proofs.refused.no_run_by_a_journal_that_is_wrong.Goals as goal

pub returns-clause-stamp : goal.returns-clause-stamp
returns-clause-stamp c = too_high

pub returns-clause-enter : goal.returns-clause-enter
returns-clause-enter c = without_enter

pub returns-clause-lines : goal.returns-clause-lines
returns-clause-lines c = not_read_again
