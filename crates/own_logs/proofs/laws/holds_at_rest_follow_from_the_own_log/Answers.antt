use Rattle.own_logs.proofs.OwnHolds.{own_number, own_all, own_full, own_none}
use Rattle.own_logs.proofs.laws.holds_at_rest_follow_from_the_own_log.Goals as goal

pub returns-clause-number : goal.returns-clause-number
returns-clause-number c = λ h p o rests within. own_number h p o rests

pub returns-clause-all : goal.returns-clause-all
returns-clause-all c = own_all

pub returns-clause-full : goal.returns-clause-full
returns-clause-full c = own_full

pub returns-clause-none : goal.returns-clause-none
returns-clause-none c = own_none
