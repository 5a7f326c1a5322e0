use Rattle.single_thread_law.proofs.OneLog.{stamps_count}
use Rattle.single_thread_law.proofs.laws.stamps_of_one_thread_count_its_entries.Goals as goal

pub returns : goal.returns
returns c = stamps_count
