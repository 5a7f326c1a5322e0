use Rattle.journal_laws.proofs.LegalJournals.{ended_state, legal_journal, stuck_state}
use Rattle.journal_laws.proofs.ShortJournals.{journal_short}
use Rattle.journal_laws.proofs.laws.journals_of_runs_are_legal.Goals as goal

pub returns-clause-legal : goal.returns-clause-legal
returns-clause-legal c = legal_journal

pub returns-clause-short : goal.returns-clause-short
returns-clause-short c = journal_short

pub returns-clause-ended : goal.returns-clause-ended
returns-clause-ended c = ended_state

pub returns-clause-stuck : goal.returns-clause-stuck
returns-clause-stuck c = stuck_state
