use Rattle.own_logs.proofs.OtherWords.{not_more, not_fewer, not_any, not_one, not_full}
use Rattle.own_logs.proofs.refused.no_hold_words_beside_the_own_log.Goals as goal

pub returns-clause-more : goal.returns-clause-more
returns-clause-more c = not_more

pub returns-clause-fewer : goal.returns-clause-fewer
returns-clause-fewer c = not_fewer

pub returns-clause-all : goal.returns-clause-all
returns-clause-all c = not_any

pub returns-clause-none : goal.returns-clause-none
returns-clause-none c = not_one

pub returns-clause-full : goal.returns-clause-full
returns-clause-full c = not_full
