-- What a step tells.
use Rattle.std.specs.Prelude.{◌≡◌, ℕ, List, [], ◌∷◌}
use Rattle.core_world.specs.declared.plan.StepPlan.{StepPlan}
use Rattle.core_world.specs.Threads.ThreadView.{ThreadView, StepMade}
use Rattle.core_world.specs.Opening.{first_known}
use Rattle.core_world.specs.Steps.{known_along, world_after}
use Rattle.core_world.specs.World.{World}
use Rattle.core_law.specs.HeapLaw.{HeapLaw}
use Rattle.core_law.specs.Logic.{Heap, heap_of}
use Rattle.core_law.specs.Sound.{Sound}
use Rattle.heap_table.specs.declared.setting.Setting.{Setting}

-- what no step changes of the heap that a table is
abbrev pub heap_in : Setting → Heap
heap_in b = record { shape = b.shape; start = b.start; biasing = b.biasing }

-- At the moment of the step the heap was in a sound world, in which the thread knew k and the word was the one found. After it, it is in a sound
-- world again.
pub record Stepped (heap : Heap) (k : ThreadView) (p : StepPlan) (found : ℕ) : Type 0 where
  pub world : World
  pub is_of : heap_of world ≡ heap
  pub sound : Sound world
  pub knew : world.known k.thread ≡ k
  pub was_there : world.words p.at ≡ found
  pub sound_after : Sound (world_after p k.thread world)

-- what thread t knows of a heap after these steps of its own, the newest first
abbrev pub known_after_steps : Heap → ℕ → List StepMade → ThreadView
known_after_steps heap t ms = known_along heap.shape heap.start ms (first_known t)

-- each of these steps was made in a sound world, in which its thread knew what the steps before it had told, and found the word that stood there
abbrev pub WereMade : Heap → ℕ → List StepMade → Type 0
WereMade heap t [] = Unit {0}
WereMade heap t (m ∷ ms) = Stepped heap (known_after_steps heap t ms) m.plan m.found × WereMade heap t ms

-- The heap has its law. It is no abbreviation, so that a search for a proof doesn't look into it wherever a pass is.
unfoldable pub IsLawful : Heap → Type 0
IsLawful heap = HeapLaw heap

-- At some moment the heap was in a sound world in which the thread knew k. It came to know k by its own steps, each made in such a world.
pub record IsReal (heap : Heap) (k : ThreadView) : Type 0 where
  pub world : World
  pub is_of : heap_of world ≡ heap
  pub sound : Sound world
  pub knew : world.known k.thread ≡ k
  pub is : k ≡ known_after_steps heap k.thread k.steps
  pub made : WereMade heap k.thread k.steps
  -- the heap has its law
  pub law : IsLawful heap

-- what the first of these threads knows, and what the others do
abbrev pub only : List ThreadView → ThreadView
only [] = first_known 0
only (k ∷ ks) = k
