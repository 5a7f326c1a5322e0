-- A thread that is left alone: every other thread has stopped, and asks for nothing.
use Rattle.std.specs.Prelude.{◌≡◌, ◌≢◌, ℕ, ◌<◌, not, false, true, List, Some}
use Rattle.plain_monitor.specs.Objects.{PlainObject}
use Rattle.plain_monitor.specs.History.{objects_after}
use Rattle.core_world.specs.declared.stage.Stage.TheVariants.{Settled}
use Rattle.core_world.specs.declared.heap_call.HeapCall.{HeapCall}
use Rattle.core_world.specs.Steps.{is_idle}
use Rattle.core_world.specs.Threads.ThreadView.{Start, start_of}
use Rattle.core_world.specs.Trees.Calls.{may_begin}
use Rattle.core_world.specs.Words.Shape.{IsInLimits}
use Rattle.core_world.specs.World.{World, logs}
use Rattle.core_law.specs.Logic.{Heap}
use Rattle.core_law.specs.Reached.{IsReachable}

-- what thread t knows as its call begins
abbrev pub start_in : World → ℕ → Start
start_in w t = start_of w.start (w.known t)

-- Thread t is in the middle of nothing; it runs, or it has stopped and its own request for a safepoint stands.
pub record IsLeftAlone (w : World) (t : ℕ) : Type 0 where
  pub within : t < w.shape.threads
  pub calm : (w.known t).stage ≡ Settled
  pub runs : (w.known t).running ≡ not (w.known t).requesting
  -- no other thread runs,
  pub stopped : (u : ℕ) → u ≢ t → (w.known u).running ≡ false
  -- and none has a request that stands: a thread that asked may have stopped meanwhile, and its request holds up every other one
  pub unasked : (u : ℕ) → u ≢ t → (w.known u).requesting ≡ false

-- The heap is in the limits, and came to this world, in which thread t may begin this call.
pub record MayCall (heap : Heap) (w : World) (t : ℕ) (task : HeapCall) : Type 0 where
  pub limits : IsInLimits heap.shape
  pub reached : IsReachable heap w
  pub within : t < w.shape.threads
  pub idle : is_idle w.shape (w.known t) ≡ true
  pub may : may_begin w.shape w.biasing (w.known t) task ≡ true

-- So it did, and thread t is left alone there. These are the plain objects after the world's logs.
pub record MayCallAlone (heap : Heap) (w : World) (objects : List PlainObject) (t : ℕ) (task : HeapCall) : Type 0 where
  pub call : MayCall heap w t task
  pub history : objects_after w.shape.objects (logs w) ≡ Some objects
  pub alone : IsLeftAlone w t
