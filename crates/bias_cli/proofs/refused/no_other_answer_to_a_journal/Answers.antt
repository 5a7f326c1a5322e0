use Rattle.bias_check.proofs.Refuted.{not_read_again}
use Rattle.bias_cli.proofs.Refuted.{no_line_more, one_more, other_line_written, other_status_written, stuck_for_ended, too_long, too_many, unterminated}
use Rattle.bias_cli.proofs.refused.no_other_answer_to_a_journal.Goals as goal

pub returns-clause-written : goal.returns-clause-written
returns-clause-written c = no_line_more

pub returns-clause-lines : goal.returns-clause-lines
returns-clause-lines c = not_read_again

pub returns-clause-short : goal.returns-clause-short
returns-clause-short c = too_many

pub returns-clause-one_more : goal.returns-clause-one_more
returns-clause-one_more c = one_more

pub returns-clause-stuck : goal.returns-clause-stuck
returns-clause-stuck c = stuck_for_ended

pub returns-clause-unterminated : goal.returns-clause-unterminated
returns-clause-unterminated c = unterminated

pub returns-clause-long : goal.returns-clause-long
returns-clause-long c = too_long

pub returns-clause-status : goal.returns-clause-status
returns-clause-status c = other_status_written

pub returns-clause-line : goal.returns-clause-line
returns-clause-line c = other_line_written
