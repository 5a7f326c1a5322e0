use Rattle.bias_law.proofs.QuietKinds.{detaches, cleans_owner, cleans_recursions, cleans_header, cleans_object, enqueues, advances, releases_taking}
use Rattle.bias_law.proofs.kinds.giving_a_monitor_back_keeps_the_law_of_biases.Goals as goal

pub returns-clause-detached : goal.returns-clause-detached
returns-clause-detached c = detaches

pub returns-clause-owner : goal.returns-clause-owner
returns-clause-owner c = cleans_owner

pub returns-clause-recursions : goal.returns-clause-recursions
returns-clause-recursions c = cleans_recursions

pub returns-clause-header : goal.returns-clause-header
returns-clause-header c = cleans_header

pub returns-clause-object : goal.returns-clause-object
returns-clause-object c = cleans_object

pub returns-clause-enqueued : goal.returns-clause-enqueued
returns-clause-enqueued c = enqueues

pub returns-clause-advanced : goal.returns-clause-advanced
returns-clause-advanced c = advances

pub returns-clause-released : goal.returns-clause-released
returns-clause-released c = releases_taking
