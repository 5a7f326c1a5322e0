use Rattle.bias_cli.proofs.PlainRuns.{all_allowed, allowed_under_others, call_wrote_allowed, may_be_written}
use Rattle.bias_cli.proofs.settings_laws.settings_change_nothing_that_may_be_written.Goals as goal

pub returns-clause-run : goal.returns-clause-run
returns-clause-run c = may_be_written

pub returns-clause-call : goal.returns-clause-call
returns-clause-call c = call_wrote_allowed

pub returns-clause-all : goal.returns-clause-all
returns-clause-all c = all_allowed

pub returns-clause-others : goal.returns-clause-others
returns-clause-others c = allowed_under_others
