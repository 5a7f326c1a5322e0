use Rattle.solo_progress.proofs.Missing.{no_other_word}
use Rattle.solo_progress.proofs.refused.no_enter_that_expects_another_word.Goals as goal

pub returns : goal.returns
returns c = no_other_word
