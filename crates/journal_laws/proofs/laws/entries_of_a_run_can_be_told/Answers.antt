use Rattle.journal_laws.proofs.EntriesTold.{all_tellable}
use Rattle.journal_laws.proofs.laws.entries_of_a_run_can_be_told.Goals as goal

pub returns : goal.returns
returns c = all_tellable
