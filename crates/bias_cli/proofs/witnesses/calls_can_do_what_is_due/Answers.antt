use Rattle.bias_cli.proofs.Exemplified.{check_call, leaving_call, refused_call, run_call, words_ask}
use Rattle.bias_cli.proofs.witnesses.calls_can_do_what_is_due.Goals as goal

pub returns-clause-refused : goal.returns-clause-refused
returns-clause-refused c = refused_call

pub returns-clause-words : goal.returns-clause-words
returns-clause-words c = words_ask

pub returns-clause-run : goal.returns-clause-run
returns-clause-run c = run_call

pub returns-clause-leaves : goal.returns-clause-leaves
returns-clause-leaves c = leaving_call

pub returns-clause-check : goal.returns-clause-check
returns-clause-check c = check_call
