use Rattle.core_world.proofs.enter_exit.OwnersShown.{at_rest_shown, at_safepoint_shown, taken_shown, taken_alone, leaving_shown, safepoint_shown}
use Rattle.core_world.proofs.shown.shown_is_plain.Goals as goal

pub returns-clause-at_rest : goal.returns-clause-at_rest
returns-clause-at_rest c = at_rest_shown

pub returns-clause-at_safepoint : goal.returns-clause-at_safepoint
returns-clause-at_safepoint c = at_safepoint_shown

pub returns-clause-taken : goal.returns-clause-taken
returns-clause-taken c = taken_shown

pub returns-clause-alone : goal.returns-clause-alone
returns-clause-alone c = taken_alone

pub returns-clause-leaving : goal.returns-clause-leaving
returns-clause-leaving c = leaving_shown

pub returns-clause-safepoint : goal.returns-clause-safepoint
returns-clause-safepoint c = safepoint_shown
