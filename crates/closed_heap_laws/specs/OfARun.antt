-- What a run leaves, over its logs: what its dumps saw, and that it is stuck.
use Rattle.std.specs.Prelude.{◌≡◌, ◌⊎◌, ℕ, List, [], length, slice_index_or, slice_get, Option, Some, None, map}
use Rattle.std.specs.List.{AllByRecursion}
use Rattle.plain_monitor.specs.declared.entry.Logged.{Logged}
use Rattle.plain_monitor.specs.Objects.{PlainObject}
use Rattle.plain_monitor.specs.History.{objects_after, log_of}
use Rattle.core_world.specs.declared.heap_call.Unfinished.{Unfinished}
use Rattle.core_world.specs.Clauses.Safepoints.{IsStuck, ends}
use Rattle.core_world.specs.Locks.{monitor_of}
use Rattle.core_world.specs.Shots.{IsRightShot, IsNoLater, places_of, dumps_from}
use Rattle.core_world.specs.Threads.AtRest.{AtRest}
use Rattle.core_world.specs.Threads.ThreadView.{ThreadView, DumpShot}
use Rattle.core_law.specs.HeapLaw.{HeapLaw}
use Rattle.core_law.specs.Logic.{Heap}
use Rattle.heap_table.specs.Seen.{LastWorld, InOrder}

-- The heap has its law, the words are its last ones, and these are all its threads, in their order: each is at rest.
pub record IsEnd (heap : Heap) (words : List ℕ) (ks : List ThreadView) : Type 0 where
  pub law : HeapLaw heap
  pub last : LastWorld heap words ks
  pub order : InOrder 0 ks
  pub all : length ks ≡ heap.shape.threads
  pub rest : AllByRecursion (AtRest heap.shape) ks

abbrev pub logs_in : List ThreadView → List (List Logged)
logs_in ks = map (λ (k : ThreadView). k.log) ks

abbrev pub shots_in : List ThreadView → List (List DumpShot)
shots_in ks = map (λ (k : ThreadView). k.shots) ks

abbrev pub shots_at : List (List DumpShot) → ℕ → List DumpShot
shots_at shots t = slice_index_or shots t []

abbrev pub unfinished_in : Option ThreadView → Option Unfinished
unfinished_in None = None
unfinished_in (Some k) = k.unfinished

-- each shot is right over the logs, each thread has one for each dump that it logged, and of any two one was made no
-- later than the other
pub record HasShots (shape : List (ℕ × ℕ)) (logs : List (List Logged)) (shots : List (List DumpShot)) : Type 0 where
  pub right : (t : ℕ) → AllByRecursion (IsRightShot shape logs) (shots_at shots t)
  pub dumps : (t : ℕ) → places_of t (shots_at shots t) ≡ dumps_from 0 (log_of logs t)
  pub ordered : (t u i j : ℕ) (a b : DumpShot) → slice_get (shots_at shots t) i ≡ Some a
      → slice_get (shots_at shots u) j ≡ Some b → IsNoLater a b ⊎ IsNoLater b a

-- some thread has not ended, and each that has not waits, or asks for a monitor that another thread has, by the plain
-- objects after the logs
pub record IsStuckEnd (shape : List (ℕ × ℕ)) (threads : ℕ) (ks : List ThreadView) : Type 0 where
  pub objects : List PlainObject
  pub taken : objects_after shape (logs_in ks) ≡ Some objects
  pub stuck : IsStuck threads (λ t. ends (log_of (logs_in ks) t)) (λ t. unfinished_in (slice_get ks t))
      (monitor_of objects)
