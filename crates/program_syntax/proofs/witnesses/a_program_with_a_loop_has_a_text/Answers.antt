use Rattle.program_syntax.proofs.WrongTexts.{has_text}
use Rattle.program_syntax.proofs.witnesses.a_program_with_a_loop_has_a_text.Goals as goal

pub returns : goal.returns
returns c = has_text
