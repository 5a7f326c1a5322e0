-- The law of biases: what the counts of verdicts and the words of the classes say of one another, and what the logs say of the marks.
use Rattle.std.specs.Prelude.{◌≡◌, ℕ, nat_lt, Bool, false, ◌||◌, List, [], ◌∷◌, Option}
use Rattle.std.specs.List.{list_any}
use Rattle.plain_monitor.specs.declared.entry.Entry.{Entry}
use Rattle.plain_monitor.specs.declared.entry.Logged.{Logged}
use Rattle.plain_monitor.specs.Order.{order}
use Rattle.plain_history.specs.Known.{makes, is_one_of}
use Rattle.plain_history.specs.EnterPaths.{entries_on, needs_bias}
use Rattle.core_world.specs.declared.word_id.WordId.TheVariants.{Revocations}
use Rattle.core_world.specs.declared.stage.Stage.{Stage}
use Rattle.core_world.specs.declared.heap_call.Unfinished.{Unfinished}
use Rattle.core_world.specs.Threads.Counts.{ClassCounts, counts_of}
use Rattle.core_world.specs.Locks.{Lock, lock, marks}
use Rattle.core_world.specs.Words.Names.{class_by}
use Rattle.core_world.specs.Words.Shape.{Shape}
use Rattle.core_world.specs.World.{World, logs}
use Rattle.core_law.specs.BiasOwners.{BiasesTakenAtMost, OwnersHaveTaken}
use Rattle.core_law.specs.MarksAndLogs.{EntersFitMarks, PathsFitHolds}
use Rattle.core_law.specs.CountsAndVerdicts.{ClassFits, VerdictsFit, sum_below, verdicts_on}

-- a class's counts, summed over the first n threads
abbrev pub summed : ℕ → (ℕ → ℕ → ClassCounts) → ℕ → ClassCounts
summed n counts c =
    record {
      single = sum_below n (λ t. (counts t c).single);
      rebias = sum_below n (λ t. (counts t c).rebias);
      revoke = sum_below n (λ t. (counts t c).revoke);
      reset = sum_below n (λ t. (counts t c).reset);
    }

-- the law, of threads and classes below these numbers, and of the objects that are there; `counts` are each thread's, by class
pub record BiasLaw (biasing : Bool) (threads classes : ℕ) (there : ℕ → Bool) (class mark : ℕ → ℕ) (lock : ℕ → Lock)
    (entries : ℕ → List Entry) (log : ℕ → List Logged) (stage : ℕ → Stage)
    (unfinished : ℕ → Option Unfinished) (count : ℕ → ℕ) (counts : ℕ → ℕ → ClassCounts) : Type 0 where
  pub marks : EntersFitMarks biasing there class mark lock entries log stage unfinished
      (λ c. (summed threads counts c).revoke)
  pub paths : PathsFitHolds log stage
  pub taken : OwnersHaveTaken mark log stage
  pub few : BiasesTakenAtMost class mark lock entries stage (λ c. (summed threads counts c).rebias)
      (λ c. (summed threads counts c).revoke)
  pub count_fits : (c : ℕ) → ClassFits (count c) (summed threads counts c)
  pub verdicts : (t : ℕ) → VerdictsFit mark (sum_below classes (λ c. verdicts_on (counts t c))) (log t)
      (stage t) (unfinished t)
  -- without biases no Enter has a bias path, and no verdict is counted
  pub plain : biasing ≡ false → (o : ℕ) → list_any needs_bias (entries o) ≡ false
  pub uncounted : biasing ≡ false → (t c : ℕ) → verdicts_on (counts t c) ≡ 0

-- the object is declared, or some thread has logged that it made the object
abbrev pub is_logged : Shape → List (List Logged) → ℕ → Bool
is_logged s logs o = nat_lt o s.declared || list_any (λ log. list_any (λ l. is_one_of (makes l.entry) (o ∷ [])) log) logs

abbrev pub BiasLawHolds : World → Type 0
BiasLawHolds w =
    BiasLaw w.biasing w.shape.threads w.shape.classes (is_logged w.shape (logs w)) (class_by w.shape w.words) (marks w) (lock w)
    (λ o. entries_on o (order (logs w)))
    (λ t. (w.known t).log) (λ t. (w.known t).stage) (λ t. (w.known t).unfinished)
    (λ c. w.words (Revocations c)) (λ t. counts_of (w.known t).counts)
