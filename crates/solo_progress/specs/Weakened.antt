-- Trees that are weakened in one way each.
use Rattle.std.specs.Prelude.{ℕ, ◌==◌, if◌then◌else◌}
use Rattle.plain_monitor.specs.declared.entry.Path.{Path}
use Rattle.plain_monitor.specs.declared.entry.Path.TheVariants.{StackFirst}
use Rattle.core_world.specs.declared.answer.Progress.{Progress}
use Rattle.core_world.specs.declared.answer.PendingCause.TheVariants as why
use Rattle.core_world.specs.declared.word_id.WordId.TheVariants.{Waiting}
use Rattle.core_world.specs.declared.stage.Stage.TheVariants.{Settled}
use Rattle.core_world.specs.Threads.ThreadView.{Local}
use Rattle.core_world.specs.Trees.LockSteps.{displace_plan, seize_plan, hold_steps}
use Rattle.core_world.specs.Trees.Plans.{CallContext, load, done_with, pending_for, free_place}
use Rattle.core_world.specs.Trees.StepTree.{StepTree, ◌>>=◌, ask}

-- an enter by a neutral mark whose exchange expects this word, and not the mark
abbrev pub expecting_steps : CallContext → Local → ℕ → ℕ → ℕ → StepTree (Progress Path)
expecting_steps e k o mark expected = do
  _ ← ask (displace_plan e Settled k.thread (free_place k.holds) mark)
  found ← ask (seize_plan e k.thread o expected (free_place k.holds))
  if found == expected then (do
    path ← hold_steps e k o StackFirst
    done_with path) else pending_for (why.Raced expected found)

-- a wait that answers that it wasn't notified, whatever its waiting word says
abbrev pub forgetful_steps : CallContext → ℕ → StepTree (Progress (Unit {0}))
forgetful_steps e t = do
  word ← ask (load e (Waiting t))
  pending_for (why.NotNotified word)
