use Rattle.bias_law.proofs.QuietKinds.{claims, fetches, prepares_owner, prepares_recursions, prepares_header, prepares_object, inflates, names, names_neutral}
use Rattle.bias_law.proofs.kinds.making_a_monitor_keeps_the_law_of_biases.Goals as goal

pub returns-clause-claimed : goal.returns-clause-claimed
returns-clause-claimed c = claims

pub returns-clause-owner : goal.returns-clause-owner
returns-clause-owner c = prepares_owner

pub returns-clause-recursions : goal.returns-clause-recursions
returns-clause-recursions c = prepares_recursions

pub returns-clause-header : goal.returns-clause-header
returns-clause-header c = prepares_header

pub returns-clause-object : goal.returns-clause-object
returns-clause-object c = prepares_object

pub returns-clause-inflates : goal.returns-clause-inflates
returns-clause-inflates c = inflates

pub returns-clause-named : goal.returns-clause-named
returns-clause-named c = names

pub returns-clause-named_neutral : goal.returns-clause-named_neutral
returns-clause-named_neutral c = names_neutral

pub returns-clause-fetched : goal.returns-clause-fetched
returns-clause-fetched c = fetches
