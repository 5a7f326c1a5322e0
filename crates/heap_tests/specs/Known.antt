-- For the tests: what a thread of a heap of two threads and two objects knows, and what it knows once it has resumed.
use Rattle.std.specs.Prelude.{◌≡◌, ℕ, [], ◌∷◌}
use Rattle.core_world.specs.declared.word_id.WordId.TheVariants.{Safepoint}
use Rattle.core_world.specs.declared.heap_call.HeapCall.TheVariants as task
use Rattle.core_world.specs.Opening.{first_known}
use Rattle.core_world.specs.Steps.{known_after}
use Rattle.core_world.specs.Threads.ThreadView.{ThreadView}
use Rattle.core_world.specs.Trees.Operations.{lone_context}
use Rattle.core_world.specs.Trees.Plans.{CallContext, load, swap}
use Rattle.core_world.specs.Words.Shape.{Shape}
use Rattle.heap_table.specs.Layout.{shape_of}
use Rattle.heap_table.specs.Seen.{HeapSeen, PassSeen, IsOf}

abbrev pub two : Shape
two = shape_of 2 (1 ∷ []) (0 ∷ 0 ∷ []) 2

-- the pass is one of such a heap, and its thread knows this
pub record Knows (h : HeapSeen) (k : ThreadView) (p : PassSeen) : Type 0 where
  pub is_of : IsOf h p
  pub shape : h.heap.shape ≡ two
  pub start : h.heap.start ≡ 7
  pub known : p.known ≡ k
  pub limit : p.limit ≡ 86

abbrev pub resuming : CallContext
resuming = lone_context task.Resume

-- thread t has loaded this safepoint word, and exchanged it for that one
abbrev pub looked : ℕ → ℕ → ThreadView
looked t from = known_after two 7 (load resuming Safepoint) from (first_known t)

abbrev pub resumed : ℕ → ℕ → ℕ → ThreadView
resumed t from to = known_after two 7 (swap resuming Safepoint from to) from (looked t from)
