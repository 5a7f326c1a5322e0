-- Parts of calls, by what their threads know as they begin.
use Rattle.std.specs.Prelude.{ℕ, Bool}
use Rattle.plain_monitor.specs.declared.entry.Path.{Path}
use Rattle.core_world.specs.declared.answer.Progress.{Progress}
use Rattle.core_world.specs.declared.stage.Stage.{Stage}
use Rattle.core_world.specs.Threads.ThreadView.{Local, Start}
use Rattle.core_world.specs.Threads.Stages.{Revocation}
use Rattle.core_world.specs.Trees.BiasSteps.{bias_enter_steps, bias_drop_steps, stage_after, bias_after_steps}
use Rattle.core_world.specs.Trees.DeflateSteps.{deflate_steps}
use Rattle.core_world.specs.Trees.LockSteps.{stack_exit_steps}
use Rattle.core_world.specs.Trees.Operations.{exit_at, enter_tried, enter_unbiased, unbias_tried}
use Rattle.core_world.specs.Trees.Plans.{CallContext, done_with}
use Rattle.core_world.specs.Trees.RevocationSteps.{revoke_at_safepoint_steps}
use Rattle.core_world.specs.Trees.SafepointSteps.{release_to}
use Rattle.core_world.specs.Trees.StepTree.{StepTree, ◌>>=◌}
use Rattle.core_world.specs.Words.Shape.{Shape}

-- an exit of o, whose mark has no bias pattern
abbrev pub exit_unbiased : CallContext → Local → ℕ → StepTree (Progress (Unit {0}))
exit_unbiased e k o = do
  out ← stack_exit_steps e k o
  exit_at out e k o

-- after the revocation of a bias, where thread t stands at this stage: idle monitors are given back, and the safepoint ends
abbrev pub ended_revocation : Shape → ℕ → CallContext → Stage → Bool → StepTree (Progress Bool)
ended_revocation s t e stage took = do
  _ ← deflate_steps s e stage
  _ ← release_to stage e t
  done_with took

-- the revocation of a bias at thread t's reached safepoint, which then ends
abbrev pub reached_revocation : Shape → ℕ → CallContext → Revocation → StepTree (Progress Bool)
reached_revocation s t e b = do
  outcome ← revoke_at_safepoint_steps s t e b
  ended_revocation s t e (stage_after outcome.took b.object) outcome.took

-- an enter of the revoked object, whether the thread gave itself a new bias or not
abbrev pub enter_again : Shape → CallContext → Start → ℕ → Bool → StepTree (Progress Path)
enter_again s e k o took = do
  tried ← bias_after_steps e k.local o took
  enter_unbiased tried s e k o

-- an enter that asks for no safepoint, unless it finds a valid bias of another thread
abbrev pub enter_first : Shape → CallContext → Start → Revocation → StepTree (Progress Path)
enter_first s e k b = do
  tried ← bias_enter_steps s e k.local b.object
  enter_tried tried s e k b

-- the end of a bias that asks for no safepoint, unless it is a valid one
abbrev pub unbias_first : Shape → CallContext → Start → Revocation → StepTree (Progress (Unit {0}))
unbias_first s e k b = do
  tried ← bias_drop_steps s e b.object
  unbias_tried tried s e k b
