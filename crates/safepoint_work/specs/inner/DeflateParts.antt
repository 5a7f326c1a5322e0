-- Parts of the steps that give idle monitors back, as the code makes them.
use Rattle.std.specs.Prelude.{ℕ, ◌&&◌, Bool, List}
use Rattle.std.specs.List.{list_all}
use Rattle.core_world.specs.declared.word_id.WordId.TheVariants.{Waiting, Owner, Recursions, Header, Object}
use Rattle.core_world.specs.declared.stage.Stage.{Stage}
use Rattle.core_world.specs.Trees.DeflateSteps.{clean_plan, enqueue_plan, advance_plan, look_at, is_untouched}
use Rattle.core_world.specs.Trees.Plans.{CallContext}
use Rattle.core_world.specs.Trees.StepTree.{StepTree, done, ◌>>=◌, ask, each_from}
use Rattle.core_world.specs.Words.Shape.{Shape}

-- the words of monitor m become 0
abbrev pub clean_steps : CallContext → Stage → ℕ → StepTree (Unit {0})
clean_steps e stage m = do
  _ ← ask (clean_plan e stage (Owner m))
  _ ← ask (clean_plan e stage (Recursions m))
  _ ← ask (clean_plan e stage (Header m))
  _ ← ask (clean_plan e stage (Object m))
  done tt

-- it comes to stand in the ring, whose end this position is
abbrev pub enqueue_steps : Shape → CallContext → Stage → ℕ → ℕ → StepTree (Unit {0})
enqueue_steps s e stage end m = do
  _ ← ask (enqueue_plan e stage s end m)
  _ ← ask (advance_plan e stage end)
  done tt

-- the answer, where by the waiting words before these o is untouched or not
abbrev pub untouched_with : ℕ → Bool → List ℕ → StepTree Bool
untouched_with o untouched words = done (untouched && list_all (λ w. is_untouched o w) words)

-- the steps for n waiting words from thread t's on, where by those before o is untouched or not
abbrev pub untouched_from : CallContext → Stage → ℕ → ℕ → ℕ → Bool → StepTree Bool
untouched_from e stage o t n untouched = do
  words ← each_from t n (λ u. look_at e stage (Waiting u))
  untouched_with o untouched words

-- whether no waiting word names o
abbrev pub untouched_steps : Shape → CallContext → Stage → ℕ → StepTree Bool
untouched_steps s e stage o = do
  words ← each_from 0 s.threads (λ u. look_at e stage (Waiting u))
  done (list_all (λ w. is_untouched o w) words)
