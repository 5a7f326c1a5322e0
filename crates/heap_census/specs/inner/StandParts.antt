-- Parts of the steps that see whether the run stands still.
use Rattle.std.specs.Prelude.{ℕ, ◌&&◌, ◌||◌, Bool, List, Option}
use Rattle.mark_word.specs.Wait.{read_wait}
use Rattle.core_world.specs.declared.word_id.WordId.TheVariants.{Waiting}
use Rattle.core_world.specs.Trees.LookSteps.{look_at_wait, some_live, none_goes_on}
use Rattle.core_world.specs.Trees.Plans.{CallContext, load}
use Rattle.core_world.specs.Trees.StepTree.{StepTree, done, ◌>>=◌, ask, each_from}

-- the waiting word of thread t, and what it asks for
abbrev pub look_at_thread : CallContext → ℕ → StepTree (Option Bool)
look_at_thread e t = do
  word ← ask (load e (Waiting t))
  look_at_wait (read_wait word) e t

-- the answer, where of the threads before these some one is live, and none can go on
abbrev pub stands_with : Bool → Bool → List (Option Bool) → StepTree Bool
stands_with live still others = done ((live || some_live others) && (still && none_goes_on others))

-- the steps for n threads from t on, where those before are so
abbrev pub still_from : CallContext → ℕ → ℕ → Bool → Bool → StepTree Bool
still_from e t n live still = do
  others ← each_from t n (look_at_thread e)
  stands_with live still others
