use Rattle.core_calls.proofs.Runs.{tells}
use Rattle.core_calls.proofs.made.CreatesSay.{create_says, create_stamps, create_refuses}
use Rattle.core_calls.proofs.made.create_logs_its_object.Goals as goal

pub returns-clause-steps : goal.returns-clause-steps
returns-clause-steps c = create_says

pub returns-clause-run : goal.returns-clause-run
returns-clause-run g s k c shape start before after answer ran = tells (create_says s k c) ran

pub returns-clause-stamped : goal.returns-clause-stamped
returns-clause-stamped g s k c shape start o before after ran = create_stamps s k c shape start before after o ran

pub returns-clause-refused : goal.returns-clause-refused
returns-clause-refused g s k c shape start before after e ran = create_refuses s k c shape start before after e ran
