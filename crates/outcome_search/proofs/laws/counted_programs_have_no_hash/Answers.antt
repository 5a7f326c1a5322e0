use Rattle.outcome_search.proofs.KnownEnds.{fuel_is}
use Rattle.outcome_search.proofs.Hashes.{none_has}
use Rattle.outcome_search.proofs.laws.counted_programs_have_no_hash.Goals as goal

pub returns-clause-none : goal.returns-clause-none
returns-clause-none c = none_has

pub returns-clause-fuel : goal.returns-clause-fuel
returns-clause-fuel c = fuel_is
