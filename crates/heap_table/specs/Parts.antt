-- What a part of a call asks of a pass, and what it does: its steps are due, and it makes them.
use Rattle.std.specs.Prelude.{◌≡◌}
use Rattle.core_world.specs.declared.heap_call.HeapCall.{HeapCall}
use Rattle.core_world.specs.Due.{IsDue, Ran}
use Rattle.core_world.specs.Trees.StepTree.{StepTree}
use Rattle.heap_table.specs.Seen.{HeapSeen, PassSeen, IsOf}

-- these are the steps that the pass has to make now, in a call of this task
abbrev pub IsDueOn : {A : Type 0} → HeapSeen → PassSeen → HeapCall → StepTree A → Type 0
IsDueOn h p t d = IsDue h.heap.shape h.heap.start h.heap.biasing p.known t d

-- The pass was p, and is q after these steps, with this answer. It is a pass of this heap still, with the same limit and the same draft of a shot.
pub record HasMadeSteps {A : Type 0} (h : HeapSeen) (d : StepTree A) (p q : PassSeen) (a : A) : Type 0 where
  pub heap : IsOf h q
  pub limit : q.limit ≡ p.limit
  pub cut : q.cut ≡ p.cut
  pub cells : q.cells ≡ p.cells
  pub ran : Ran h.heap.shape h.heap.start d p.known q.known a
