use Rattle.journal_laws.proofs.RefusedJournals.{too_long}
use Rattle.journal_laws.proofs.refused.no_short_journal_of_too_many_entries.Goals as goal

pub returns : goal.returns
returns c = too_long
