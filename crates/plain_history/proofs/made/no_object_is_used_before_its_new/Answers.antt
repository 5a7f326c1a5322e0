use Rattle.plain_history.proofs.NotTaken.{names_nothing, hands_on_nothing}
use Rattle.plain_history.proofs.made.no_object_is_used_before_its_new.Goals as goal

pub returns-clause-named : goal.returns-clause-named
returns-clause-named c = names_nothing

pub returns-clause-handed_on : goal.returns-clause-handed_on
returns-clause-handed_on c = hands_on_nothing
