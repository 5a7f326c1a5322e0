-- What turns make of runners.
use Rattle.std.specs.Prelude.{◌≡◌, ℕ, false}
use Rattle.heap_table.specs.Seen.{HeapSeen}
use Rattle.object_program.specs.Program.{ProgramText}
use Rattle.thread_calls.specs.Timed.{StaysTimed}
use Rattle.thread_interp.specs.Runners.{RunnerSeen, IsRunner, IsSame}

-- a runner between two turns, with no check unfinished
pub record MayGo (h : HeapSeen) (p : ProgramText) (r : RunnerSeen) : Type 0 where
  pub runner : IsRunner h p r
  pub unchecked : r.pass.known.checking ≡ false

-- turns made q of the runner r: it is the runner of the same thread, and may have further turns
pub record HasGoneOn (h : HeapSeen) (p : ProgramText) (tick : ℕ) (r q : RunnerSeen) : Type 0 where
  pub may : MayGo h p q
  pub same : IsSame r q
  -- its calls were given moments by ticks of so many units
  pub timed : StaysTimed tick r.pass q.pass
