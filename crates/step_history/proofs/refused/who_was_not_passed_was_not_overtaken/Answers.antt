use Rattle.step_history.proofs.Missed.{alone_not, unchanged_not, elsewhere_not, later_not, earlier_not, hit_not}
use Rattle.step_history.proofs.refused.who_was_not_passed_was_not_overtaken.Goals as goal

pub returns-clause-alone : goal.returns-clause-alone
returns-clause-alone c = alone_not

pub returns-clause-unchanged : goal.returns-clause-unchanged
returns-clause-unchanged c = unchanged_not

pub returns-clause-elsewhere : goal.returns-clause-elsewhere
returns-clause-elsewhere c = elsewhere_not

pub returns-clause-later : goal.returns-clause-later
returns-clause-later c = later_not

pub returns-clause-earlier : goal.returns-clause-earlier
returns-clause-earlier c = earlier_not

pub returns-clause-hit : goal.returns-clause-hit
returns-clause-hit c = hit_not
