-- For the tests: what a thread of a heap with biases knows where it may enter the first object.
use Rattle.std.specs.Prelude.{◌<◌, length}
use Rattle.core_world.specs.declared.heap_call.Operation.TheVariants as op
use Rattle.core_world.specs.declared.heap_call.HeapCall.TheVariants as task
use Rattle.core_world.specs.Threads.ThreadView.{local_of}
use Rattle.core_world.specs.Trees.BiasSteps.{bias_enter_steps}
use Rattle.core_world.specs.Trees.Plans.{CallContext, call_context}
use Rattle.heap_table.specs.Parts.{IsDueOn}
use Rattle.heap_table.specs.Seen.{HeapSeen, PassSeen, IsOf}

abbrev pub entering : CallContext
entering = call_context (task.Enter 0 0) op.Enter 0

-- its thread may enter the first object
pub record MayEnter (h : HeapSeen) (p : PassSeen) : Type 0 where
  pub is_of : IsOf h p
  pub object : 0 < length h.heap.shape.objects
  pub due : IsDueOn h p (task.Enter 0 0) (bias_enter_steps h.heap.shape entering (local_of p.known) 0)
  pub room : length p.known.log < p.limit
