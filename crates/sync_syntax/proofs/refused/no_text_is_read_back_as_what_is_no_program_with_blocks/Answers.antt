use Rattle.sync_syntax.proofs.WrongTexts.{not_barred, not_long, changed_refused, ended_refused}
use Rattle.sync_syntax.proofs.refused.no_text_is_read_back_as_what_is_no_program_with_blocks.Goals as goal

pub returns-clause-barred : goal.returns-clause-barred
returns-clause-barred c = not_barred

pub returns-clause-long : goal.returns-clause-long
returns-clause-long c = not_long

pub returns-clause-changed : goal.returns-clause-changed
returns-clause-changed c = changed_refused

pub returns-clause-ended : goal.returns-clause-ended
returns-clause-ended c = ended_refused
