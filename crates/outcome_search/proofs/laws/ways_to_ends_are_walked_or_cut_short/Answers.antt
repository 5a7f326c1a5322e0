use Rattle.outcome_search.proofs.CutShort.{cut_short}
use Rattle.outcome_search.proofs.Hashes.{none_has}
use Rattle.outcome_search.proofs.laws.ways_to_ends_are_walked_or_cut_short.Goals as goal

pub returns : goal.returns
returns c = λ p choices key end valid free. cut_short p choices key end valid (none_has p free)
