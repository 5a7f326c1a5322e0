use Rattle.closed_heap_laws.proofs.Prototypes.{biased_prototype, plain_prototype}
use Rattle.closed_heap_laws.proofs.laws.the_end_of_a_heap_tells_its_prototypes.Goals as goal

pub returns-clause-biased : goal.returns-clause-biased
returns-clause-biased c = λ heap words ks class e within biasing. biased_prototype heap words ks e class within biasing

pub returns-clause-plain : goal.returns-clause-plain
returns-clause-plain c = λ heap words ks class e within biasing. plain_prototype heap words ks e class within biasing
