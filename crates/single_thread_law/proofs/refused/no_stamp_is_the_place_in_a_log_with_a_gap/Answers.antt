use Rattle.single_thread_law.proofs.PairExample.{gap, gap_exact, two}
use Rattle.single_thread_law.proofs.refused.no_stamp_is_the_place_in_a_log_with_a_gap.Goals as goal

pub returns-clause-gap : goal.returns-clause-gap
returns-clause-gap c = gap

pub returns-clause-exact : goal.returns-clause-exact
returns-clause-exact c = gap_exact

pub returns-clause-two : goal.returns-clause-two
returns-clause-two c = two
