-- Small heaps, and worlds to which they come by turns.
use Rattle.std.specs.Prelude.{ℕ, List, [], ◌∷◌, ◌++◌, replicate, true, false}
use Rattle.core_world.specs.declared.heap_call.HeapCall.{HeapCall}
use Rattle.core_world.specs.declared.heap_call.HeapCall.TheVariants.{Enter, Wait, Stop, Resume, Check}
use Rattle.core_world.specs.Opening.{opening}
use Rattle.core_world.specs.World.{World}
use Rattle.core_law.specs.Logic.{Heap}
use Rattle.step_history.specs.Turns.{after_turns}

-- one thread, and one object with a slot; and two threads with biases
abbrev pub lone : Heap
lone = record { shape = record { threads = 1; classes = 1; declared = 1; objects = (0, 1) ∷ [] }; start = 0; biasing = false }

abbrev pub biased : Heap
biased = record { shape = record { threads = 2; classes = 1; declared = 1; objects = (0, 0) ∷ [] }; start = 0; biasing = true }

-- the world after these turns
abbrev pub world_of : Heap → List (ℕ × HeapCall) → World
world_of heap turns = after_turns turns (opening heap.shape heap.start heap.biasing)

-- Thread t resumes, and enters the object; then it waits; then it finds that nobody can go on.
abbrev pub enters : ℕ → List (ℕ × HeapCall)
enters t = replicate 2 (t, Resume) ++ replicate 5 (t, Enter 0 0)

abbrev pub waits : ℕ → List (ℕ × HeapCall)
waits t = enters t ++ replicate 20 (t, Wait 0 0)

abbrev pub halts : ℕ → List (ℕ × HeapCall)
halts t = waits t ++ replicate 11 (t, Check)

-- Thread 1 inflates the lock that thread 0 has, and is pending for it; and it enters where thread 0 waits.
abbrev pub contends : List (ℕ × HeapCall)
contends = enters 0 ++ replicate 2 (1, Resume) ++ replicate 13 (1, Enter 0 0)

abbrev pub owns_beside : List (ℕ × HeapCall)
owns_beside = waits 0 ++ enters 1

-- Thread 1 revokes the bias of thread 0, up to its first store.
abbrev pub revokes : List (ℕ × HeapCall)
revokes = enters 0 ++ replicate 2 (0, Stop) ++ replicate 2 (1, Resume) ++ replicate 10 (1, Enter 0 0)
