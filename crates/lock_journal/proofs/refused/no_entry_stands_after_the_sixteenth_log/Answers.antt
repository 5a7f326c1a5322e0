use Rattle.lock_journal.proofs.Seventeen.{not_of_sixteen}
use Rattle.lock_journal.proofs.refused.no_entry_stands_after_the_sixteenth_log.Goals as goal

pub returns : goal.returns
returns c = not_of_sixteen
