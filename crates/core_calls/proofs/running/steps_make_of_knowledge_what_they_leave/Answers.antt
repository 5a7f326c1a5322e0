use Rattle.core_calls.proofs.Runs.{did, did_none, did_one}
use Rattle.core_calls.proofs.running.steps_make_of_knowledge_what_they_leave.Goals as goal

pub returns-clause-did : goal.returns-clause-did
returns-clause-did c = did

pub returns-clause-none : goal.returns-clause-none
returns-clause-none c = did_none

pub returns-clause-one : goal.returns-clause-one
returns-clause-one c = did_one
