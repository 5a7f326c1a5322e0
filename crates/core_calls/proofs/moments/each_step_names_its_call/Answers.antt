use Rattle.core_world.specs.Trees.Calls.{steps_of}
use Rattle.core_calls.proofs.Named.{named_says}
use Rattle.core_calls.proofs.NamedCalls.{call_named}
use Rattle.core_calls.proofs.moments.each_step_names_its_call.Goals as goal

pub returns : goal.returns
returns c s t k = named_says t (steps_of s t k) (call_named s t k)
