-- Turns of a runner, one after the other.
use Rattle.std.specs.Prelude.{◌≡◌, ◌≢◌, ℕ, zero, suc, ◌<◌, false, List}
use Rattle.core_world.specs.Threads.ThreadView.{StepMade}
use Rattle.core_world.specs.World.{World}
use Rattle.heap_table.specs.Seen.{HeapSeen}
use Rattle.solo_progress.specs.Moves.{Moves}
use Rattle.thread_interp.specs.declared.moved.Moved.{Moved}
use Rattle.thread_interp.specs.declared.moved.RunState.TheVariants.{Live}
use Rattle.thread_interp.specs.Moves.{HasMoved}
use Rattle.thread_interp.specs.Runners.{RunnerSeen}

-- So many turns that all ended live made q of the runner r.
pub data LiveTurns (h : HeapSeen) (quantum : ℕ) (r : RunnerSeen) : ℕ → RunnerSeen → Type 0 where
  no_turn : LiveTurns h quantum r zero r
  one_more : (n : ℕ) (q z : RunnerSeen) (m : Moved) → LiveTurns h quantum r n q → HasMoved h quantum q z m → m.state ≡ Live
      → LiveTurns h quantum r (suc n) z

-- Every thread but t has stopped, and none of them has a request that stands.
pub record OthersStand (w : World) (t : ℕ) : Type 0 where
  pub within : t < w.shape.threads
  pub stopped : (u : ℕ) → u ≢ t → (w.known u).running ≡ false
  pub unasked : (u : ℕ) → u ≢ t → (w.known u).requesting ≡ false

-- The runner r of thread t had a turn from world w on, which made q of it; it came to world v, since no other thread made a step meanwhile.
pub record TurnAlone (h : HeapSeen) (quantum t : ℕ) (w : World) (r : RunnerSeen) (v : World) (q : RunnerSeen) (m : Moved) : Type 0 where
  pub moved : HasMoved h quantum r q m
  pub steps : List StepMade
  pub moves : Moves w t steps v
  pub knew : w.known t ≡ r.pass.known
  pub knows : v.known t ≡ q.pass.known

-- From world w on the runner r of thread t had so many turns, one after the other, all live, and no other thread made a step: so it came to world v,
-- and is q.
pub data LiveAlone (h : HeapSeen) (quantum t : ℕ) (w : World) (r : RunnerSeen) : ℕ → World → RunnerSeen → Type 0 where
  no_turn_alone : LiveAlone h quantum t w r zero w r
  one_more_alone : (n : ℕ) (x v : World) (q z : RunnerSeen) (m : Moved) → LiveAlone h quantum t w r n x q → TurnAlone h quantum t x q v z m
      → m.state ≡ Live → LiveAlone h quantum t w r (suc n) v z
