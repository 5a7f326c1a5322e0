use Rattle.lock_journal.proofs.Seventeen.{can_be_legal}
use Rattle.lock_journal.proofs.witnesses.seventeen_logs_can_be_legal.Goals as goal

pub returns : goal.returns
returns c = can_be_legal
