use Rattle.outcome_search.proofs.Spinning.{never_walked, never_cut}
use Rattle.outcome_search.proofs.refused.ways_on_which_no_thread_is_spent_are_not_cut_short.Goals as goal

pub returns-clause-alive : goal.returns-clause-alive
returns-clause-alive c = λ p end alive cut. alive cut.before cut.machine cut.comes cut.spent

pub returns-clause-walked : goal.returns-clause-walked
returns-clause-walked c = never_walked

pub returns-clause-cut : goal.returns-clause-cut
returns-clause-cut c = never_cut
