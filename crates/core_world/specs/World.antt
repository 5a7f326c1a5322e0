-- The world: the words by name, and what each thread knows. What changes when one word and one thread's knowledge change.
use Rattle.std.specs.Prelude.{ℕ, zero, suc, ◌+◌, ◌==◌, Bool, if◌then◌else◌, List, [], ◌∷◌}
use Rattle.plain_monitor.specs.declared.entry.Logged.{Logged}
use Rattle.core_world.specs.declared.word_id.WordId.{WordId}
use Rattle.core_world.specs.Words.Shape.{Shape}
use Rattle.core_world.specs.Words.Names.{with_word}
use Rattle.core_world.specs.Threads.ThreadView.{ThreadView}

pub record World : Type 0 where
  -- these three are the heap's, and no step changes them: the shape, what its generators start from, and whether it has biases
  pub shape : Shape
  pub start : ℕ
  pub biasing : Bool
  pub words : WordId → ℕ
  pub known : ℕ → ThreadView

-- thread t knows k, and the others what they knew
abbrev pub with_known : ℕ → ThreadView → (ℕ → ThreadView) → ℕ → ThreadView
with_known t k f u = if u == t then k else f u

-- the world in which the word is v, and thread t knows k
abbrev pub with_word_and_known : WordId → ℕ → ℕ → ThreadView → World → World
with_word_and_known at v t k w =
    record {
      shape = w.shape;
      start = w.start;
      biasing = w.biasing;
      words = with_word at v w.words;
      known = with_known t k w.known;
    }

-- the logs of n threads, from thread t on
abbrev pub logs_from : ℕ → ℕ → (ℕ → ThreadView) → List (List Logged)
logs_from t zero f = []
logs_from t (suc n) f = (f t).log ∷ logs_from (t + 1) n f

abbrev pub logs : World → List (List Logged)
logs w = logs_from 0 w.shape.threads w.known
