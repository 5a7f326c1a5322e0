use Rattle.plain_history.proofs.NotTaken.{another_number, anothers_number, one_too_many, no_class}
use Rattle.plain_history.proofs.made.no_object_is_made_out_of_turn.Goals as goal

pub returns-clause-next : goal.returns-clause-next
returns-clause-next c = another_number

pub returns-clause-of_another : goal.returns-clause-of_another
returns-clause-of_another c = anothers_number

pub returns-clause-too_many : goal.returns-clause-too_many
returns-clause-too_many c = one_too_many

pub returns-clause-class : goal.returns-clause-class
returns-clause-class c = no_class
