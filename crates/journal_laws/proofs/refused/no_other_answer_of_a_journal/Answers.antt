use Rattle.journal_laws.proofs.RefusedJournals.{other_count, other_start, other_state}
use Rattle.journal_laws.proofs.refused.no_other_answer_of_a_journal.Goals as goal

pub returns-clause-count : goal.returns-clause-count
returns-clause-count c = other_count

pub returns-clause-state : goal.returns-clause-state
returns-clause-state c = other_state

pub returns-clause-start : goal.returns-clause-start
returns-clause-start c = other_start
