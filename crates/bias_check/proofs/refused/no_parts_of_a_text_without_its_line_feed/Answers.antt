use Rattle.bias_check.proofs.Refuted.{marked, too_short, unterminated}
use Rattle.bias_check.proofs.refused.no_parts_of_a_text_without_its_line_feed.Goals as goal

pub returns-clause-unterminated : goal.returns-clause-unterminated
returns-clause-unterminated c = unterminated

pub returns-clause-shorter : goal.returns-clause-shorter
returns-clause-shorter c = too_short

pub returns-clause-marked : goal.returns-clause-marked
returns-clause-marked c = marked
