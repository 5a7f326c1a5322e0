use Rattle.core_world.specs.Trees.Operations.{revocation_steps}
use Rattle.core_calls.specs.Bounds.{a_revocation}
use Rattle.core_calls.proofs.CallsSpend.{revocation_spends, spend_within}
use Rattle.core_calls.proofs.bounding.a_revocation_is_bounded.Goals as goal

pub returns : goal.returns
returns c s t requesting e b = spend_within (revocation_steps s t requesting e b) (a_revocation s) (revocation_spends s e t requesting b)
