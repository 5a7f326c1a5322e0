-- What the law of biases says of a run: over its logs, the verdicts that its threads counted, and the counts of its classes alone.
use Rattle.std.specs.Prelude.{◌≡◌, ◌⊎◌, ℕ, ◌+◌, ◌<◌, ◌≤◌, Bool, true, false, List, length, Some}
use Rattle.std.specs.List.{list_any}
use Rattle.plain_monitor.specs.History.{log_of}
use Rattle.plain_monitor.specs.Order.{order}
use Rattle.plain_monitor.specs.declared.entry.Logged.{Logged}
use Rattle.plain_monitor.specs.declared.entry.Path.{Path}
use Rattle.plain_monitor.specs.declared.entry.Path.TheVariants.{BiasTaken}
use Rattle.plain_history.specs.EnterPaths.{entries_on, first_path, has_hash, needs_bias, EndsStay, PathsFit}
use Rattle.plain_history.specs.HeldByLog.{nothing_held}
use Rattle.core_world.specs.Threads.Counts.{CountedVerdict, counts_of}
use Rattle.core_law.specs.BiasLaw.{summed}
use Rattle.core_law.specs.CountsAndVerdicts.{ClassFits, sum_below, verdicts_on}
use Rattle.core_law.specs.TakenBiases.{OwnsAreTaken, times_taken}

-- some thread has logged a Hash of o
abbrev pub IsHashLogged : List (List Logged) → ℕ → Type 0
IsHashLogged logs o = (t : ℕ) × (has_hash o (log_of logs t) ≡ true)

-- `there` says which objects there are, `class` is each object's class, `count` the count of revocations of each class, and `counted` the verdicts that
-- each of the threads counted
pub record BiasesOfRun (biasing : Bool) (threads : ℕ) (there : ℕ → Bool) (class : ℕ → ℕ) (logs : List (List Logged))
    (count : ℕ → ℕ) (counted : ℕ → List CountedVerdict) : Type 0 where
  -- in the order of all logs no Enter with a bias path stands after one of its object with another path, or after a Wait, Notify or NotifyAll of it
  pub stays : (o : ℕ) → EndsStay (entries_on o (order logs))
  -- in each log the paths of a first hold stand exactly where the thread's count was 0 and the path isn't BiasOwn
  pub paths : (t : ℕ) → t < threads → PathsFit nothing_held (log_of logs t)
  -- with biases, and where the class wasn't revoked in bulk, an object that is there, and has an Enter, has BiasTaken as its first path, or a Hash of it
  -- is logged
  pub entered : biasing ≡ true → (o : ℕ) (path : Path) → there o ≡ true
      → (summed threads (λ t. counts_of (counted t)) (class o)).revoke ≡ 0
      → first_path (entries_on o (order logs)) ≡ Some path → (path ≡ BiasTaken) ⊎ IsHashLogged logs o
  -- the count of each class fits the verdicts on it
  pub counts : (c : ℕ) → ClassFits (count c) (summed threads (λ t. counts_of (counted t)) c)
  -- without biases no Enter has a bias path, and no verdict is counted
  pub plain : biasing ≡ false → (o : ℕ) → list_any needs_bias (entries_on o (order logs)) ≡ false
  pub uncounted : biasing ≡ false → (t c : ℕ) → verdicts_on (counts_of (counted t) c) ≡ 0
  -- in each log an Enter by the path BiasOwn comes after one of its object by BiasTaken
  pub taken : (t : ℕ) → t < threads → OwnsAreTaken (log_of logs t)
  -- the bias of an object was taken at most once more than its class was rebiased in bulk
  pub few : (o : ℕ) → times_taken o (entries_on o (order logs))
      ≤ (summed threads (λ t. counts_of (counted t)) (class o)).rebias + 1

-- each thread has counted, over all classes, at most `more` verdicts beyond its logged entries
abbrev pub VerdictsAtMost : ℕ → ℕ → ℕ → List (List Logged) → (ℕ → List CountedVerdict) → Type 0
VerdictsAtMost more threads classes logs counted =
    (t : ℕ) → t < threads → sum_below classes (λ c. verdicts_on (counts_of (counted t) c))
    ≤ length (log_of logs t) + more
