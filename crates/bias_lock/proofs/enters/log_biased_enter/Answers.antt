use Rattle.std.proofs.Common.{refl}
use Rattle.core_world.specs.declared.answer.BiasTry.TheVariants.{Took}
use Rattle.core_world.specs.Trees.StepTree.{done}
use Rattle.heap_table.proofs.StepsLeft.{all_left, part_of, last_made}
use Rattle.bias_lock.proofs.enters.log_biased_enter.Goals as goal

pub hold-requires-clause-due : goal.hold-requires-clause-due
hold-requires-clause-due c = part_of (λ path. done (Took path)) (all_left c.requires.heap c.requires.due)

pub returns : goal.returns
returns c = last_made (λ path. done (Took path)) c.hold.ensures refl (all_left c.requires.heap c.requires.due)
