use Rattle.hash_laws.proofs.RefusedHashes.{drawn_twice, unfit_twice}
use Rattle.hash_laws.proofs.refused.no_hash_that_two_threads_draw.Goals as goal

pub returns-clause-fit : goal.returns-clause-fit
returns-clause-fit c = unfit_twice

pub returns-clause-drawn : goal.returns-clause-drawn
returns-clause-drawn c = drawn_twice
