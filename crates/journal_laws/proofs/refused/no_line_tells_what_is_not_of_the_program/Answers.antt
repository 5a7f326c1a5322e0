use Rattle.journal_laws.proofs.RefusedJournals.{no_hash, no_object, no_stamp, no_thread}
use Rattle.journal_laws.proofs.refused.no_line_tells_what_is_not_of_the_program.Goals as goal

pub returns-clause-object : goal.returns-clause-object
returns-clause-object c = no_object

pub returns-clause-hash : goal.returns-clause-hash
returns-clause-hash c = no_hash

pub returns-clause-thread : goal.returns-clause-thread
returns-clause-thread c = no_thread

pub returns-clause-stamp : goal.returns-clause-stamp
returns-clause-stamp c = no_stamp
