use Rattle.program_syntax.proofs.WrongTexts.{not_barred, not_long, two_words_refused, not_late}
use Rattle.program_syntax.proofs.refused.no_text_is_read_back_as_what_is_no_program.Goals as goal

pub returns-clause-barred : goal.returns-clause-barred
returns-clause-barred c = not_barred

pub returns-clause-long : goal.returns-clause-long
returns-clause-long c = not_long

pub returns-clause-words : goal.returns-clause-words
returns-clause-words c = two_words_refused

pub returns-clause-numbered : goal.returns-clause-numbered
returns-clause-numbered c = not_late
