use Rattle.core_locks.proofs.hash.DrawnLogs.{valid_hashes}
use Rattle.core_locks.proofs.hash.each_hash_is_drawn_once.Goals as goal

pub returns : goal.returns
returns c = valid_hashes
