use Rattle.every_outcome.proofs.Standing.{all_stand_first, all_stand_after, all_stand_full, calls_told}
use Rattle.every_outcome.proofs.states.threads_stand_before_their_calls.Goals as goal

pub returns-clause-first : goal.returns-clause-first
returns-clause-first c = all_stand_first

pub returns-clause-each : goal.returns-clause-each
returns-clause-each c = all_stand_after

pub returns-clause-full : goal.returns-clause-full
returns-clause-full c = all_stand_full

pub returns-clause-told : goal.returns-clause-told
returns-clause-told c = calls_told
