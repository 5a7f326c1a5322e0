-- What each call that makes a step asks, and what it does.
use Rattle.std.specs.Prelude.{◌≡◌, ℕ, true}
use Rattle.core_world.specs.declared.plan.StepPlan.{StepPlan}
use Rattle.core_world.specs.Due.{IsNext}
use Rattle.core_world.specs.Steps.{known_after, rest_of_call}
use Rattle.core_law.specs.Reached.{is_reachable}
use Rattle.heap_table.specs.Drafts.{IsDrafted, IsLeft}
use Rattle.heap_table.specs.Kept.{LogHasRoom}
use Rattle.heap_table.specs.Ruled.{Stepped}
use Rattle.heap_table.specs.Seen.{HeapSeen, PassSeen, IsOf}

-- The pass can make this step on the heap.
pub record CanStep (h : HeapSeen) (p : PassSeen) (plan : StepPlan) : Type 0 where
  -- it is a pass of this heap
  pub heap : IsOf h p
  -- the step is the next one of its thread
  pub next : IsNext h.heap.shape h.heap.start h.heap.biasing p.known plan
  -- its log has room, where the step logs
  pub room : LogHasRoom plan.note p.known.log p.limit
  -- where the step takes a shot, the pass's draft is that shot
  pub drafted : IsDrafted plan.own h.heap.shape p.known p.cut p.cells

-- The pass was p, and is q after this step, which found this word.
pub record HasStepped (h : HeapSeen) (p q : PassSeen) (plan : StepPlan) (found : ℕ) : Type 0 where
  -- it is a pass of this heap still, with the same limit; only a step that takes a shot changes the draft
  pub heap : IsOf h q
  pub limit : q.limit ≡ p.limit
  pub draft : IsLeft plan.own p.cut p.cells q.cut q.cells
  -- it knows what the step makes of its knowledge
  pub known : q.known ≡ known_after h.heap.shape h.heap.start plan found p.known
  -- there was a sound world in which it knew what it did, and the word stood there; the step made a sound world of it
  pub stepped : Stepped h.heap p.known plan found
  -- what is left of the call comes to an end or to a next step
  pub comes : is_reachable (rest_of_call h.heap.shape q.known) ≡ true
