-- Parts of hashes, by what their threads know as they begin.
use Rattle.std.specs.Prelude.{ℕ, ◌+◌}
use Rattle.core_world.specs.declared.answer.Progress.{Progress}
use Rattle.core_world.specs.Threads.ThreadView.{Start}
use Rattle.core_world.specs.Trees.HashSteps.{hash_header_steps}
use Rattle.core_world.specs.Trees.Operations.{and_then, no_bias, unbias_steps}
use Rattle.core_world.specs.Trees.Plans.{CallContext}
use Rattle.core_world.specs.Trees.StepTree.{StepTree, ◌>>=◌}
use Rattle.core_world.specs.Words.Shape.{Shape}

-- a hash of o, whose mark has no bias pattern, by the thread's next draw
abbrev pub hash_unbiased : Shape → CallContext → Start → ℕ → StepTree (Progress ℕ)
hash_unbiased s e k o = hash_header_steps s e k.local k.kept (record { number = k.draws + 1; value = k.draw }) o

-- the whole of one
abbrev pub hash_going : Shape → CallContext → Start → ℕ → ℕ → StepTree (Progress ℕ)
hash_going s e k o now = do
  progress ← unbias_steps s e k (no_bias o now)
  and_then progress (λ _. hash_unbiased s e k o)
