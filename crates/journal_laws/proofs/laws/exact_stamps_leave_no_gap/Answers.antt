use Rattle.journal_laws.proofs.NoGaps.{stamps_are_few}
use Rattle.journal_laws.proofs.laws.exact_stamps_leave_no_gap.Goals as goal

pub returns : goal.returns
returns c = stamps_are_few
