use Rattle.plain_history.proofs.MadeHistories.{known_stays, new_is_known}
use Rattle.plain_history.proofs.ClassesStay.{class_stays}
use Rattle.plain_history.proofs.SlotsKnown.{made_by_log}
use Rattle.plain_history.proofs.made.what_is_known_stays_known.Goals as goal

pub returns-clause-stays : goal.returns-clause-stays
returns-clause-stays c = known_stays

pub returns-clause-new : goal.returns-clause-new
returns-clause-new c = new_is_known

pub returns-clause-own_log : goal.returns-clause-own_log
returns-clause-own_log c = made_by_log

pub returns-clause-class : goal.returns-clause-class
returns-clause-class c = class_stays
