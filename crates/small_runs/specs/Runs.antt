-- Small runs: a heap of one thread, the turns of its thread from the opening world on, and what a thread knows then.
use Rattle.std.specs.Prelude.{ℕ, List, [], ◌∷◌, ◌++◌, replicate, true}
use Rattle.atomic_table.specs.Seated.{TableId}
use Rattle.plain_monitor.specs.declared.entry.Ending.TheVariants.{Done}
use Rattle.core_world.specs.declared.heap_call.HeapCall.{HeapCall}
use Rattle.core_world.specs.declared.heap_call.HeapCall.TheVariants.{Enter, Exit, Dump, Finish, Stop, Resume}
use Rattle.core_world.specs.Threads.ThreadView.{ThreadView}
use Rattle.core_world.specs.World.{World}
use Rattle.core_law.specs.Logic.{Heap}
use Rattle.step_history.specs.Examples.{lone, world_of, enters}
use Rattle.heap_table.specs.Seen.{HeapSeen, PassSeen, first_pass}

-- one thread, and one object with a slot; with biases
abbrev pub lone_biased : Heap
lone_biased = record lone { biasing = true }

-- what all threads of such a heap know in this world
abbrev pub all_known : World → List ThreadView
all_known w = w.known 0 ∷ []

-- the thread has left all objects: it finishes, and stops
abbrev pub finishes : List (ℕ × HeapCall)
finishes = replicate 2 (0, Finish Done) ++ replicate 2 (0, Stop)

-- It resumes, dumps, enters the object and leaves it, and finishes; and, where the object gets its bias, it does so but for the dump.
abbrev pub dumps_and_finishes : List (ℕ × HeapCall)
dumps_and_finishes =
    replicate 2 (0, Resume) ++ replicate 12 (0, Dump) ++ replicate 5 (0, Enter 0 0) ++ replicate 7 (0, Exit 0) ++ finishes

abbrev pub biased_finishes : List (ℕ × HeapCall)
biased_finishes = enters 0 ++ replicate 3 (0, Exit 0) ++ finishes

-- the worlds after these turns
abbrev pub has_finished : World
has_finished = world_of lone dumps_and_finishes

abbrev pub has_finished_biased : World
has_finished_biased = world_of lone_biased biased_finishes

-- the heap in this table, with 16 entries a page
abbrev pub lone_in : TableId → HeapSeen
lone_in table = record { table = table; heap = lone; room = 16 }

-- the pass of a heap's thread where that knows what it does in this world; and that of thread 0
abbrev pub pass_of : HeapSeen → ℕ → World → PassSeen
pass_of h t w = record (first_pass h 16 t) { known = w.known t }

abbrev pub pass_in : HeapSeen → World → PassSeen
pass_in h w = pass_of h 0 w
