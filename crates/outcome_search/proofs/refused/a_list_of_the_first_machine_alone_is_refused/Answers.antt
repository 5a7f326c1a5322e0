use Rattle.outcome_search.proofs.KeptAlone.{first_alone_refused}
use Rattle.outcome_search.proofs.refused.a_list_of_the_first_machine_alone_is_refused.Goals as goal

pub returns : goal.returns
returns c = first_alone_refused
