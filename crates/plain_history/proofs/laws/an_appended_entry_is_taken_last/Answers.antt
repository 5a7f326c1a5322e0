use Rattle.plain_history.proofs.Inserting.{legal_with, objects_with, order_with}
use Rattle.plain_history.proofs.laws.an_appended_entry_is_taken_last.Goals as goal

pub returns-clause-legal : goal.returns-clause-legal
returns-clause-legal c = legal_with

pub returns-clause-taken_last : goal.returns-clause-taken_last
returns-clause-taken_last c = objects_with

pub returns-clause-inserted : goal.returns-clause-inserted
returns-clause-inserted c = order_with
