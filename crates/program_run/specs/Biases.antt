-- What the law of biases says of a run, by its record.
use Rattle.std.specs.Prelude.{◌≡◌, ◌⊎◌, ℕ, ◌+◌, ◌*◌, ◌%◌, ◌==◌, ◌&&◌, ◌≤◌, min, nat_le, if◌then◌else◌, Bool, true}
use Rattle.std.specs.Prelude.{false, [], length, slice_get, slice_index_or, Option, Some, option_and_then}
use Rattle.std.specs.List.{AllByRecursion, list_any}
use Rattle.lock_policy.specs.Policy.{rebias_threshold, revoke_threshold, most_revocations}
use Rattle.core_law.specs.CountsAndVerdicts.{CountFits}
use Rattle.core_law.specs.OfARun.{IsHashLogged}
use Rattle.core_law.specs.TakenBiases.{times_taken, OwnsAreTaken}
use Rattle.heap_table.specs.Seen.{ClosedSeen}
use Rattle.lock_journal.specs.declared.record.ClassLine.{ClassLine}
use Rattle.lock_journal.specs.declared.record.RunRecord.{RunRecord}
use Rattle.object_program.specs.Program.{numbering_of}
use Rattle.plain_history.specs.EnterPaths.{entries_on, first_path, needs_bias, EndsStay, PathsFit}
use Rattle.plain_history.specs.HeldByLog.{nothing_held}
use Rattle.plain_monitor.specs.declared.entry.Path.{Path}
use Rattle.plain_monitor.specs.declared.entry.Path.TheVariants.{BiasTaken}
use Rattle.plain_monitor.specs.History.{log_of}
use Rattle.plain_monitor.specs.Made.{class_if_there, made_after}
use Rattle.plain_monitor.specs.Order.{order}
use Rattle.run_rounds.specs.Outcome.{verdicts_beyond}
use Rattle.program_run.specs.Lines.{total_on}
use Rattle.program_run.specs.Verdicts.{IsSum, verdicts_by}

-- the class of object o, where it is there after all entries: that of its declaration, or of the New that made it
abbrev pub class_in : RunRecord → ℕ → Option ℕ
class_in r o = option_and_then (λ made. class_if_there (numbering_of r.program) made o) (made_after (numbering_of r.program) r.logs)

-- the class with this line wasn't revoked in bulk
abbrev pub IsUnrevoked : RunRecord → ℕ → Type 0
IsUnrevoked r k = (line : ClassLine) × (slice_get r.classes k ≡ Some line) × (line.revoke ≡ 0)

-- the count of a class and the verdicts on it fit, where the count was so often set to 0
abbrev pub IsLine : ℕ → ClassLine → Type 0
IsLine resets line = CountFits line.count line.single line.rebias line.revoke resets

-- all verdicts that were counted on the class
abbrev pub verdicts_on : ClassLine → ℕ
verdicts_on line = line.single + line.rebias + line.revoke

-- The count was never set to 0: it is the number of verdicts, up to 41. The class was rebiased in bulk once where there are 20 or more
-- of them, and revoked in bulk once where there are 40 or more.
pub record IsEven (line : ClassLine) : Type 0 where
  pub count : line.count ≡ min (verdicts_on line) most_revocations
  pub rebias : line.rebias ≡ (if nat_le rebias_threshold (verdicts_on line) then 1 else 0)
  pub revoke : line.revoke ≡ (if nat_le revoke_threshold (verdicts_on line) then 1 else 0)

-- no verdict was counted
abbrev pub IsIdle : ClassLine → Type 0
IsIdle line = (line.single ≡ 0) × (line.rebias ≡ 0) × (line.revoke ≡ 0) × (line.count ≡ 0)

-- the prototype's word: biased to nobody, with the number of bulk rebiases modulo 4 as its epoch; or neutral where there
-- are no biases, or the class was revoked in bulk
abbrev pub prototype_by : Bool → ClassLine → ℕ
prototype_by bias line = if bias && (line.revoke == 0) then line.rebias % 4 * 256 + 5 else 1

pub record RecordObeysBiasLaw (tick : ℕ) (r : RunRecord) (c : ClosedSeen) : Type 0 where
  -- in the order of all logs no Enter with a bias path stands after one of its object with another path, or after a Wait,
  -- Notify or NotifyAll of it
  pub stays : (o : ℕ) → EndsStay (entries_on o (order r.logs))
  -- in each log the paths of a first hold stand exactly where the thread's count was 0 and the path isn't BiasOwn
  pub paths : (t : ℕ) → PathsFit nothing_held (log_of r.logs t)
  -- with biases, and where the class wasn't revoked in bulk, an object with an Enter has BiasTaken as its first path, or a
  -- Hash of it is logged
  pub entered : r.bias ≡ true → (o k : ℕ) (path : Path) → class_in r o ≡ Some k → IsUnrevoked r k
      → first_path (entries_on o (order r.logs)) ≡ Some path → (path ≡ BiasTaken) ⊎ IsHashLogged r.logs o
  -- the count of each class fits the verdicts on it, and how often it was set to 0
  pub counts : (k : ℕ) (line : ClassLine) → slice_get r.classes k ≡ Some line
      → IsLine (total_on (λ n. n.reset) c.counts k) line
  -- there are counts of each thread; over all classes it counted no more verdicts than it logged entries, but for one where the run
  -- was halted; and the lines of the classes are the sums of these counts
  pub counted : length c.counts ≡ length r.logs
  pub verdicts : (t : ℕ) → verdicts_by (slice_index_or c.counts t []) ≤ length (log_of r.logs t) + verdicts_beyond r.halted
  pub sums : (k : ℕ) (line : ClassLine) → slice_get r.classes k ≡ Some line → IsSum c.counts k line
  -- where a tick has no length, the verdicts alone tell it
  pub even : tick ≡ 0 → AllByRecursion IsEven r.classes
  pub prototypes : AllByRecursion (λ (line : ClassLine). line.prototype ≡ prototype_by r.bias line) r.classes
  -- without biases no Enter has a bias path, and no verdict is counted
  pub plain : r.bias ≡ false → (o : ℕ) → list_any needs_bias (entries_on o (order r.logs)) ≡ false
  pub idle : r.bias ≡ false → AllByRecursion IsIdle r.classes
  -- in each log an Enter by the path BiasOwn stands after one of its object by BiasTaken
  pub taken : (t : ℕ) → OwnsAreTaken (log_of r.logs t)
  -- the bias of an object was taken at most once more than its class was rebiased in bulk
  pub few : (o k : ℕ) (line : ClassLine) → class_in r o ≡ Some k → slice_get r.classes k ≡ Some line
      → times_taken o (entries_on o (order r.logs)) ≤ line.rebias + 1
