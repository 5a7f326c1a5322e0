use Rattle.lock_journal.proofs.LegalLogs.{legal_of_sixteen}
use Rattle.lock_journal.proofs.replaying.legal_logs_can_be_merged.Goals as goal

pub returns : goal.returns
returns c = legal_of_sixteen
