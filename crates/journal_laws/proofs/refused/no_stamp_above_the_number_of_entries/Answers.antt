use Rattle.journal_laws.proofs.RefusedJournals.{above}
use Rattle.journal_laws.proofs.refused.no_stamp_above_the_number_of_entries.Goals as goal

pub returns : goal.returns
returns c = above
