-- Calls of a thread that is left alone: each of its steps finds what the steps before it left.
use Rattle.std.specs.Prelude.{◌≡◌, ◌≢◌, ℕ, cond, Bool, List, [], ◌∷◌}
use Rattle.core_world.specs.declared.word_id.WordId.{WordId}
use Rattle.core_world.specs.declared.word_id.WordId.TheVariants.{Mark, Safepoint}
use Rattle.core_world.specs.Trees.SafepointSteps.{reached_word, released_word}
use Rattle.core_world.specs.Words.Names.{with_word}
use Rattle.core_world.specs.Threads.ThreadView.{StepMade, left_by}
use Rattle.core_world.specs.Trees.StepTree.{StepTree}
use Rattle.core_calls.specs.Paths.{Says}

-- the words after these steps, the newest first, where they were f before and nobody else made a step
abbrev pub words_left : (WordId → ℕ) → List StepMade → WordId → ℕ
words_left f [] = f
words_left f (m ∷ ms) = with_word m.plan.at (left_by m) (words_left f ms)

-- each of these steps found what those before it left of the words f
abbrev pub FoundAlone : (WordId → ℕ) → List StepMade → Type 0
FoundAlone f [] = Unit {0}
FoundAlone f (m ∷ ms) = (m.found ≡ words_left f ms m.plan.at) × FoundAlone f ms

-- along each path whose steps found such words, P holds of the answer
abbrev pub AnswersAlone : {A : Type 0} → (WordId → ℕ) → StepTree A → (A → Type 0) → Type 0
AnswersAlone f d P = Says d (λ ms a. FoundAlone f ms → P a)

-- Quiet words: no mark is 0, which would say that its object is being inflated; and the safepoint word is this one.
pub record Quiet (safe : ℕ) (f : WordId → ℕ) : Type 0 where
  pub marks : (o : ℕ) → f (Mark o) ≢ 0
  pub safepoint : f Safepoint ≡ safe

-- the safepoint word where thread t alone runs, or asks for a safepoint and has stopped, as all others have
abbrev pub word_of_one : Bool → ℕ → ℕ
word_of_one requesting t = cond requesting (reached_word t) (released_word t)
