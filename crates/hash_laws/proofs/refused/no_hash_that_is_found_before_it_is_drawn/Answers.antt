use Rattle.hash_laws.proofs.RefusedHashes.{drawn_late, found_first, found_fits, found_legal}
use Rattle.hash_laws.proofs.refused.no_hash_that_is_found_before_it_is_drawn.Goals as goal

pub returns-clause-legal : goal.returns-clause-legal
returns-clause-legal c = found_legal

pub returns-clause-fit : goal.returns-clause-fit
returns-clause-fit c = found_fits

pub returns-clause-first : goal.returns-clause-first
returns-clause-first c = found_first

pub returns-clause-drawn : goal.returns-clause-drawn
returns-clause-drawn c = drawn_late
