use Rattle.bias_cli.proofs.JournalsLegal.{journal_few_bytes, journal_legal, journal_lines_again, journal_only, journal_written, call_legal}
use Rattle.bias_cli.proofs.JournalsChecked.{answered, joined_due}
use Rattle.bias_cli.proofs.laws.the_journal_of_each_run_is_legal_for_check.Goals as goal

pub returns-clause-written : goal.returns-clause-written
returns-clause-written c = journal_written

pub returns-clause-lines : goal.returns-clause-lines
returns-clause-lines c = journal_lines_again

pub returns-clause-short : goal.returns-clause-short
returns-clause-short c = journal_few_bytes

pub returns-clause-legal : goal.returns-clause-legal
returns-clause-legal c = journal_legal

pub returns-clause-only : goal.returns-clause-only
returns-clause-only c = journal_only

pub returns-clause-call : goal.returns-clause-call
returns-clause-call c = call_legal

pub returns-clause-joined : goal.returns-clause-joined
returns-clause-joined c = joined_due

pub returns-clause-answered : goal.returns-clause-answered
returns-clause-answered c o p r closed m text sb sa kb ka f has terminated few run short =
    answered o p r closed m text has terminated few run short sb sa kb ka f
