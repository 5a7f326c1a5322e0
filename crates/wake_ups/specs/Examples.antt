-- Turns after which a thread that waited was notified.
use Rattle.std.specs.Prelude.{ℕ, List, [], ◌∷◌, ◌++◌, replicate, false}
use Rattle.core_world.specs.declared.heap_call.HeapCall.{HeapCall}
use Rattle.core_world.specs.declared.heap_call.HeapCall.TheVariants.{Check, Enter, Exit, Notify, Stop, Wait}
use Rattle.core_law.specs.Logic.{Heap}
use Rattle.step_history.specs.Examples.{owns_beside}

-- Thread 0 waits on object 0; thread 1 enters it and notifies thread 0; then it leaves the object.
abbrev pub notifies : List (ℕ × HeapCall)
notifies = owns_beside ++ replicate 5 (1, Notify 0 0)

abbrev pub leaving : List (ℕ × HeapCall)
leaving = replicate 9 (1, Exit 0)

abbrev pub leaves : List (ℕ × HeapCall)
leaves = notifies ++ leaving

-- In a heap of two threads and two objects, thread 1 keeps object 0, enters the other one and waits there; thread 0 stops; and thread 1
-- finds that nobody can go on.
abbrev pub pair : Heap
pair = record { shape = record { threads = 2; classes = 1; declared = 2; objects = (0, 0) ∷ (0, 0) ∷ [] }; start = 0; biasing = false }

abbrev pub halts_owned : List (ℕ × HeapCall)
halts_owned =
    notifies ++ replicate 5 (1, Enter 1 0) ++ replicate 20 (1, Wait 1 0) ++ replicate 2 (0, Stop) ++ replicate 20 (1, Check)
