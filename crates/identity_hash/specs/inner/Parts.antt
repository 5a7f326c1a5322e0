-- A part of the steps that find an object's identity hash or give it one.
use Rattle.std.specs.Prelude.{ℕ, Option}
use Rattle.core_world.specs.declared.answer.Progress.{Progress}
use Rattle.core_world.specs.Threads.ThreadView.{Local}
use Rattle.core_world.specs.Trees.HashSteps.{NextDraw, hash_displaced_steps, hash_unless}
use Rattle.core_world.specs.Trees.Plans.{CallContext}
use Rattle.core_world.specs.Trees.StepTree.{StepTree, ◌>>=◌}
use Rattle.core_world.specs.Words.Shape.{Shape}

-- o is locked by a record of this thread: where the record's header has no hash, the lock is inflated
abbrev pub hash_owned_steps : Shape → CallContext → Local → Option ℕ → NextDraw → ℕ → StepTree (Progress ℕ)
hash_owned_steps s e k kept draw o = hash_displaced_steps e k o >>= λ found. hash_unless found s e kept draw o
