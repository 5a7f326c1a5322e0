-- Calls that threads can make, so that laws of their runs speak of something.
use Rattle.std.specs.Prelude.{◌≡◌, ℕ, ◌<◌, List, [], false}
use Rattle.core_world.specs.Due.{Ran}
use Rattle.core_world.specs.Threads.ThreadView.{ThreadView, StepMade, Start, start_of}
use Rattle.core_world.specs.Trees.StepTree.{StepTree}
use Rattle.core_world.specs.Words.Shape.{Shape}
use Rattle.core_calls.specs.Paths.{IsPath}
use Rattle.core_calls.specs.Stands.{Stand, FoundTrue}

-- Some thread makes all these steps, as they are for a call that begins with what the thread knows, and comes to this answer.
pub record IsRunTo {A : Type 0} (steps : Shape → Start → StepTree A) (a : A) : Type 0 where
  pub shape : Shape
  pub start : ℕ
  pub before : ThreadView
  pub after : ThreadView
  pub ran : Ran shape start (steps shape (start_of start before)) before after a

-- Some thread that stands so, and asks for no safepoint, comes to this answer; and each safepoint word that its steps find is true of it.
pub record IsTrulyRunTo {A : Type 0} (steps : Shape → Start → StepTree A) (stands : Start → Stand) (a : A) : Type 0 where
  pub shape : Shape
  pub from : Start
  pub within : from.local.thread < 32
  pub none : from.requesting ≡ false
  pub made : List StepMade
  pub path : IsPath (steps shape from) [] made a
  pub true_words : FoundTrue from.local.thread (stands from) made
