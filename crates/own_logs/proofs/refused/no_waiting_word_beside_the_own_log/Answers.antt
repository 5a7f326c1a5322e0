use Rattle.own_logs.proofs.OtherWords.{not_silent, not_early}
use Rattle.own_logs.proofs.refused.no_waiting_word_beside_the_own_log.Goals as goal

pub returns-clause-silent : goal.returns-clause-silent
returns-clause-silent c = not_silent

pub returns-clause-early : goal.returns-clause-early
returns-clause-early c = not_early
