use Rattle.turn_progress.proofs.Unbarred.{never_raced, never_inflating, never_stopping, never_requested, never_begins, never_enters, never_waits}
use Rattle.turn_progress.proofs.refused.no_bar_for_another_cause.Goals as goal

pub returns-clause-raced : goal.returns-clause-raced
returns-clause-raced c = never_raced

pub returns-clause-inflating : goal.returns-clause-inflating
returns-clause-inflating c = never_inflating

pub returns-clause-stopping : goal.returns-clause-stopping
returns-clause-stopping c = never_stopping

pub returns-clause-requested : goal.returns-clause-requested
returns-clause-requested c = never_requested

pub returns-clause-begins : goal.returns-clause-begins
returns-clause-begins c = never_begins

pub returns-clause-enters : goal.returns-clause-enters
returns-clause-enters c = never_enters

pub returns-clause-waits : goal.returns-clause-waits
returns-clause-waits c = never_waits
