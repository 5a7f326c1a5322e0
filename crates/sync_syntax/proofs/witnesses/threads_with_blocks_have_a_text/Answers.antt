use Rattle.sync_syntax.proofs.WrongTexts.{has_text, has_end}
use Rattle.sync_syntax.proofs.witnesses.threads_with_blocks_have_a_text.Goals as goal

pub returns-clause-text : goal.returns-clause-text
returns-clause-text c = has_text

pub returns-clause-end : goal.returns-clause-end
returns-clause-end c = has_end
