-- Which numbers the objects of a heap have, where it is one of a program.
use Rattle.std.proofs.Common.{◌≡◌}
use Rattle.core_world.specs.Threads.References.{numbering}
use Rattle.core_law.specs.Logic.{Heap}
use Rattle.heap_table.specs.Seen.{HeapSeen}
use Rattle.object_program.specs.Program.{ProgramText, numbering_of}
use Rattle.thread_calls.specs.Between.{IsHeapOf}
use Rattle.thread_calls.proofs.Shapes.{same_numbering}
use Rattle.run_rounds.specs.inner.Slots.{no_heap}

-- a heap, in whatever table
abbrev pub seen_as : Heap → HeapSeen
seen_as heap = record no_heap { heap = heap }

pub heap_numbers : (heap : Heap) (p : ProgramText) → IsHeapOf (seen_as heap) p → numbering heap.shape ≡ numbering_of p
heap_numbers heap p of = same_numbering (seen_as heap) p of
