-- What the proof of each call gives to the law of all steps.
use Rattle.std.specs.Prelude.{◌≡◌, true}
use Rattle.core_world.specs.declared.heap_call.HeapCall.{HeapCall}
use Rattle.core_world.specs.Threads.AtRest.{AtRest}
use Rattle.core_world.specs.Trees.Calls.{steps_of, may_begin}
use Rattle.core_world.specs.Threads.ThreadView.{ThreadView, start_of}
use Rattle.core_law.specs.Logic.{Heap, SoundWorldWith}
use Rattle.core_law.specs.Sound.{Finishes}

-- every call of this task that begins at rest does its steps and ends at rest
pub record BeginsWell (heap : Heap) (task : HeapCall) : Type 0 where
  pub does : (k : ThreadView) → SoundWorldWith heap k → AtRest heap.shape k → may_begin heap.shape heap.biasing k task ≡ true
      → Finishes heap true (steps_of heap.shape task (start_of heap.start k)) k
