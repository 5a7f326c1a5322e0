use Rattle.bias_cli.proofs.Refuted.{given_up_has_7, wrote_with_7}
use Rattle.bias_cli.proofs.refused.no_status_7_of_a_call_that_wrote.Goals as goal

pub returns-clause-wrote : goal.returns-clause-wrote
returns-clause-wrote c = wrote_with_7

pub returns-clause-given_up : goal.returns-clause-given_up
returns-clause-given_up c = given_up_has_7
