use Rattle.bias_check.proofs.JournalsRun.{journal_run, journal_lines}
use Rattle.bias_check.proofs.laws.journals_of_legal_logs_are_runs.Goals as goal

pub returns-clause-run : goal.returns-clause-run
returns-clause-run c p fuel logs machine legal under tellable = journal_run p fuel logs machine legal.rises under tellable

pub returns-clause-lines : goal.returns-clause-lines
returns-clause-lines c = journal_lines
