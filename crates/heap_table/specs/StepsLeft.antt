-- What is left of the steps of a part of a call, at a place in its code.
use Rattle.core_world.specs.declared.heap_call.HeapCall.{HeapCall}
use Rattle.core_world.specs.Trees.StepTree.{StepTree}
use Rattle.heap_table.specs.Parts.{IsDueOn, HasMadeSteps}
use Rattle.heap_table.specs.Seen.{HeapSeen, PassSeen, IsOf}

-- Of the steps d, which were due on pass o in a call of task t, the steps x are left on pass p: they are due there, and who makes them has made
-- the whole.
pub record AreLeft {A : Type 0} (h : HeapSeen) (t : HeapCall) (o : PassSeen) (d : StepTree A) (p : PassSeen) (x : StepTree A) : Type 0 where
  pub heap : IsOf h p
  pub due : IsDueOn h p t x
  pub whole : (q : PassSeen) (a : A) → HasMadeSteps h x p q a → HasMadeSteps h d o q a
