-- A heap's law says that its opening world is sound.
use Rattle.std.proofs.Common.{◌≡◌, Result, Ok, Err, IfOk, subst}
use Rattle.core_world.specs.Opening.{opening}
use Rattle.core_law.specs.HeapLaw.{HeapLaw}
use Rattle.core_law.specs.Logic.{Heap}
use Rattle.core_law.specs.Sound.{Sound}
use Rattle.heap_table.specs.Seen.{HeapSeen}

pub opens : {B E : Type 0} (heap : Heap) (r : Result (HeapSeen × B) E) → IfOk r (λ x. x.0.heap ≡ heap) → IfOk r (λ x. HeapLaw x.0.heap)
    → IfOk r (λ x. Sound (opening heap.shape heap.start heap.biasing))
opens heap (Ok x) same law = (subst HeapLaw same law).opens
opens heap (Err e) same law = tt
