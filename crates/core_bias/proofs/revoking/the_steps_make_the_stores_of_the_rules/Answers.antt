use Rattle.core_bias.proofs.RevocationRuns.{steps_next, steps_all}
use Rattle.core_bias.proofs.revoking.the_steps_make_the_stores_of_the_rules.Goals as goal

pub returns-clause-next : goal.returns-clause-next
returns-clause-next c s t e b ms earlier p g word looked = steps_next s t e b ms earlier looked p g word

pub returns-clause-all : goal.returns-clause-all
returns-clause-all c s t e b ms earlier a looked = steps_all s t e b ms earlier looked a
