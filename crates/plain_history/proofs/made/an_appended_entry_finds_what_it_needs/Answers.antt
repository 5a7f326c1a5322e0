use Rattle.plain_history.proofs.MadeHistories.{made_with, known_may_follow}
use Rattle.plain_history.proofs.made.an_appended_entry_finds_what_it_needs.Goals as goal

pub returns-clause-taken_last : goal.returns-clause-taken_last
returns-clause-taken_last c = made_with

pub returns-clause-known : goal.returns-clause-known
returns-clause-known c = known_may_follow
