use Rattle.hash_laws.proofs.LegalHashes.{fitting_hashes_are_draws, legal_hashes_fit}
use Rattle.hash_laws.proofs.laws.hashes_fit_just_where_they_are_draws.Goals as goal

pub returns-clause-fit : goal.returns-clause-fit
returns-clause-fit c = legal_hashes_fit

pub returns-clause-first : goal.returns-clause-first
returns-clause-first c = λ start logs h. h.first

pub returns-clause-drawn : goal.returns-clause-drawn
returns-clause-drawn c = fitting_hashes_are_draws
