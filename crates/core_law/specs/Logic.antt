-- A program logic over trees of steps: which steps keep every valid world valid, by what their thread knows alone.
use Rattle.std.specs.Prelude.{◌≡◌, ℕ, ◌<◌, Bool, false, List}
use Rattle.plain_monitor.specs.Objects.{PlainObject}
use Rattle.core_world.specs.declared.plan.StepPlan.{StepPlan}
use Rattle.core_world.specs.There.{IsThere}
use Rattle.core_world.specs.Words.Shape.{Shape}
use Rattle.core_world.specs.Threads.ThreadView.{ThreadView}
use Rattle.core_world.specs.Trees.StepTree.{StepTree, done, unreachable, step}
use Rattle.core_world.specs.Steps.{is_idle, known_after, world_after}
use Rattle.core_world.specs.World.{World}
use Rattle.core_law.specs.WholeLaw.{IsWhollyValid, WhollyValid}
use Rattle.core_law.specs.Takings.{TakesExactly}

-- what no step changes
pub record Heap : Type 0 where
  pub shape : Shape
  pub start : ℕ
  pub biasing : Bool

abbrev pub heap_of : World → Heap
heap_of w = record { shape = w.shape; start = w.start; biasing = w.biasing }

-- a valid world of this heap, in which the laws hold, and in which the thread of this knowledge knows it
pub record SoundWorldWith (heap : Heap) (k : ThreadView) : Type 0 where
  pub world : World
  pub objects : List PlainObject
  pub is_of : heap_of world ≡ heap
  pub knows : world.known k.thread ≡ k
  pub within : k.thread < heap.shape.threads
  pub valid : IsWhollyValid world objects

-- the step leads from every such world to a valid one, is on a word of the heap, and stamps a taking as the logs ask for
pub record Keeps (heap : Heap) (p : StepPlan) (k : ThreadView) : Type 0 where
  pub by : (v : SoundWorldWith heap k) → WhollyValid (world_after p k.thread v.world)
  pub there : SoundWorldWith heap k → IsThere heap.shape k p
  pub exact : (v : SoundWorldWith heap k) → TakesExactly v.world k.thread p

-- there was such a world, and the step found n
pub record Was (heap : Heap) (p : StepPlan) (k : ThreadView) (n : ℕ) : Type 0 where
  pub stands : SoundWorldWith heap k
  pub found : stands.world.words p.at ≡ n

-- Each step of the tree keeps every valid world valid, and at an answer Q holds; `fresh` says that no step of the call was made yet.
abbrev pub Doing : {A : Type 0} → Heap → Bool → StepTree A → ThreadView → (Bool → A → ThreadView → Type 0) → Type 0
Doing heap fresh (done a) k Q = Q fresh a k
Doing heap fresh unreachable k Q = ⊥
Doing heap fresh (step p f) k Q =
    (is_idle heap.shape k ≡ fresh → Keeps heap p k)
    × ((n : ℕ) → is_idle heap.shape k ≡ fresh → Was heap p k n
    → Doing heap false (f n) (known_after heap.shape heap.start p n k) Q)

pub record Does {A : Type 0} (heap : Heap) (fresh : Bool) (d : StepTree A) (k : ThreadView)
    (Q : Bool → A → ThreadView → Type 0) : Type 0 where
  pub by : Doing heap fresh d k Q

-- Its steps keep the world so, and nothing is asked of what holds after its answers.
abbrev pub DoesSteps : {A : Type 0} → Heap → Bool → StepTree A → ThreadView → Type 0
DoesSteps heap fresh d k = Does heap fresh d k (λ b a l. Unit {0})
