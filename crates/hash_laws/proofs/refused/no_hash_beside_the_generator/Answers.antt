use Rattle.hash_laws.proofs.RefusedHashes.{undrawn, unfit}
use Rattle.hash_laws.proofs.refused.no_hash_beside_the_generator.Goals as goal

pub returns-clause-fit : goal.returns-clause-fit
returns-clause-fit c = unfit

pub returns-clause-drawn : goal.returns-clause-drawn
returns-clause-drawn c = undrawn
