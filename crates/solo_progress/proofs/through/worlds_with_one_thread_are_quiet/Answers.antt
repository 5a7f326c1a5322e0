use Rattle.solo_progress.proofs.Worlds.{quiet, prototype_some, who_is_owner}
use Rattle.solo_progress.proofs.through.worlds_with_one_thread_are_quiet.Goals as goal

pub returns-clause-words : goal.returns-clause-words
returns-clause-words c = quiet

pub returns-clause-prototypes : goal.returns-clause-prototypes
returns-clause-prototypes g w objects t c alone fits = prototype_some w objects t alone fits c

pub returns-clause-owners : goal.returns-clause-owners
returns-clause-owners g w objects t o alone fits = who_is_owner w objects t alone fits o
