-- The law of a heap, as one asks for it: what the law of all steps says of the worlds to which the heap comes.
use Rattle.plain_history.specs.ExactStamps.{StampsAreExact}
use Rattle.core_world.specs.declared.heap_call.HeapCall.{HeapCall}
use Rattle.core_world.specs.Opening.{opening}
use Rattle.core_world.specs.World.{World, logs}
use Rattle.core_law.specs.Begins.{BeginsWell}
use Rattle.core_law.specs.Draws.{HasDraws}
use Rattle.core_law.specs.Logic.{Heap}
use Rattle.core_law.specs.Reached.{IsReachable}
use Rattle.core_law.specs.Sound.{Sound}

pub record HeapLaw (heap : Heap) : Type 0 where
  -- its opening world is sound
  pub opens : Sound (opening heap.shape heap.start heap.biasing)
  -- every call that begins at rest in a valid world keeps it valid, by each of its steps, and ends at rest
  pub begins : (task : HeapCall) → BeginsWell heap task
  -- in each world to which it comes every stamp in the logs is exact,
  pub exact : (w : World) → IsReachable heap w → StampsAreExact (logs w)
  -- and the hashes are drawn as `HasDraws` says
  pub draws : (w : World) → IsReachable heap w → HasDraws heap.start (logs w)
