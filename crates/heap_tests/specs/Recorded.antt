-- For the tests: what a thread of a heap without biases knows where it may enter the first object.
use Rattle.std.specs.Prelude.{◌≡◌, ℕ, ◌<◌, ◌&&◌, true, false, length}
use Rattle.core_world.specs.declared.heap_call.HeapCall.TheVariants as task
use Rattle.core_world.specs.Steps.{is_idle}
use Rattle.core_world.specs.Threads.Stages.{is_calm}
use Rattle.core_world.specs.Trees.Calls.{may_begin}
use Rattle.heap_table.specs.Seen.{HeapSeen, PassSeen, IsOf}
use Rattle.heap_tests.specs.Known.{two}

-- its thread may enter the first object by this mark
pub record MayEnter (h : HeapSeen) (p : PassSeen) (mark : ℕ) : Type 0 where
  pub is_of : IsOf h p
  pub heap : h.heap ≡ record { shape = two; start = 7; biasing = false }
  pub over : is_idle two p.known ≡ true
  pub may : (is_calm p.known.stage && may_begin two false p.known (task.StackEnter 0 mark)) ≡ true
  pub room : length p.known.log < p.limit
