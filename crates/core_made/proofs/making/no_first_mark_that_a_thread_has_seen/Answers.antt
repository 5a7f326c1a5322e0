use Rattle.core_made.proofs.RefusedMakings.{seen_refuses}
use Rattle.core_made.proofs.making.no_first_mark_that_a_thread_has_seen.Goals as goal

pub returns : goal.returns
returns c = seen_refuses
