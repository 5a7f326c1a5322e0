use Rattle.sync_syntax.proofs.WrongTexts.{open_at_done, nothing_unclosed}
use Rattle.sync_syntax.proofs.refused.a_block_is_open_at_its_done.Goals as goal

pub returns-clause-inside : goal.returns-clause-inside
returns-clause-inside c = open_at_done

pub returns-clause-unclosed : goal.returns-clause-unclosed
returns-clause-unclosed c = nothing_unclosed
