-- Who is to blame for an exchange that missed.
use Rattle.std.specs.Prelude.{◌≡◌, ◌≢◌, ℕ, List, [], ◌∷◌, ◌++◌}
use Rattle.core_world.specs.declared.act.Act.TheVariants.{CompareExchange}
use Rattle.core_world.specs.declared.word_id.WordId.{WordId}
use Rattle.core_world.specs.Threads.ThreadView.{StepMade, left_by}
use Rattle.core_world.specs.Trees.StepTree.{StepTree}
use Rattle.core_world.specs.World.{World}
use Rattle.core_calls.specs.Paths.{IsPath}
use Rattle.step_history.specs.Leads.{Leads, steps_by}

-- These steps of all threads lead from one world on to another; and those of thread t among them are a path through this call's tree, up to its answer.
pub record IsCallOf {A : Type 0} (t : ℕ) (d : StepTree A) (xs : List (ℕ × StepMade)) (a : A) : Type 0 where
  pub first : World
  pub last : World
  pub leads : Leads first xs last
  pub path : IsPath d [] (steps_by t xs) a

-- Among these steps of all threads, the newest first: a step of thread t saw or left `expected` in a word, later another thread's step changed
-- this word, and later still t's exchange expected the one and found the other.
pub record WasOvertaken (t expected found : ℕ) (xs : List (ℕ × StepMade)) : Type 0 where
  pub sight : StepMade
  pub other : ℕ
  pub change : StepMade
  pub exchange : StepMade
  pub before : List (ℕ × StepMade)
  pub between : List (ℕ × StepMade)
  pub until : List (ℕ × StepMade)
  pub after : List (ℕ × StepMade)
  -- in this order
  pub order : xs ≡ after ++ (t, exchange) ∷ (until ++ (other, change) ∷ (between ++ (t, sight) ∷ before))
  -- all three on one word
  pub at : WordId
  pub seen_at : sight.plan.at ≡ at
  pub changed_at : change.plan.at ≡ at
  pub exchanged_at : exchange.plan.at ≡ at
  -- t's step saw or left what its exchange then expects,
  pub saw : left_by sight ≡ expected
  -- the other thread's step left another word than it found,
  pub another : other ≢ t
  pub changed : left_by change ≢ change.found
  -- and the exchange missed
  pub word : ℕ
  pub exchanges : exchange.plan.act ≡ CompareExchange expected word
  pub finds : exchange.found ≡ found
  pub missed : found ≢ expected
