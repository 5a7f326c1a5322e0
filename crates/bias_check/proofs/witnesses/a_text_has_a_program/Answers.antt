use Rattle.bias_check.proofs.Exemplified.{terminated, text_has}
use Rattle.bias_check.proofs.witnesses.a_text_has_a_program.Goals as goal

pub returns-clause-program : goal.returns-clause-program
returns-clause-program c = text_has

pub returns-clause-terminated : goal.returns-clause-terminated
returns-clause-terminated c = terminated
