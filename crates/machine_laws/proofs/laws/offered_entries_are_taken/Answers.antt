use Rattle.machine_laws.proofs.ReachedOffered.{offered_is_taken, offered_hash_is_taken}
use Rattle.machine_laws.proofs.laws.offered_entries_are_taken.Goals as goal

pub returns-clause-next : goal.returns-clause-next
returns-clause-next c = offered_is_taken

pub returns-clause-hash : goal.returns-clause-hash
returns-clause-hash c = offered_hash_is_taken
