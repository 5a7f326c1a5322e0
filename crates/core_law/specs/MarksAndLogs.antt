-- What the logs say of the marks: whether an object has a bias still, whose it is, and by which path it was entered first.
use Rattle.std.specs.Prelude.{◌≡◌, ◌⊎◌, ℕ, Bool, true, false, List, Option, Some, None}
use Rattle.std.specs.List.{list_any}
use Rattle.mark_word.specs.declared.mark.MarkForm.{MarkForm}
use Rattle.mark_word.specs.declared.mark.MarkForm.TheVariants.{Anonymous}
use Rattle.mark_word.specs.Mark.{read_mark}
use Rattle.plain_monitor.specs.declared.entry.Entry.{Entry}
use Rattle.plain_monitor.specs.declared.entry.Entry.TheVariants as entry
use Rattle.plain_monitor.specs.declared.entry.Logged.{Logged}
use Rattle.plain_monitor.specs.declared.entry.Path.{Path}
use Rattle.plain_monitor.specs.declared.entry.Path.TheVariants.{BiasTaken}
use Rattle.plain_history.specs.EnterPaths.{is_by_bias, ends_bias, first_path, EndsStay, PathFits, PathsFit, has_hash}
use Rattle.plain_history.specs.HeldByLog.{held_by, nothing_held}
use Rattle.core_world.specs.declared.stage.Stage.{Stage}
use Rattle.core_world.specs.declared.heap_call.Operation.TheVariants as op
use Rattle.core_world.specs.declared.heap_call.Unfinished.{Unfinished}
use Rattle.core_world.specs.Words.Forms.{is_biased}
use Rattle.core_world.specs.Locks.{Lock, BiasedTo}
use Rattle.core_world.specs.Clauses.Safepoints.{IsUnfinished}
use Rattle.core_world.specs.Threads.Stages.{path_into}

abbrev pub is_anonymous_form : Option MarkForm → Bool
is_anonymous_form (Some (Anonymous epoch age)) = true
is_anonymous_form _ = false

-- biased to nobody
abbrev pub is_anonymous : ℕ → Bool
is_anonymous n = is_anonymous_form (read_mark n)

-- a Hash of o is logged, or is what a thread has unfinished
abbrev pub IsHashed : (ℕ → List Logged) → (ℕ → Option Unfinished) → ℕ → Type 0
IsHashed log unfinished o = (t : ℕ) × ((has_hash o (log t) ≡ true) ⊎ IsUnfinished (unfinished t) op.Hash o)

-- A bias of o is being taken: a thread has stored one to itself, and hasn't logged its Enter yet.
abbrev pub IsTaken : (ℕ → Stage) → ℕ → Type 0
IsTaken stage o = (t : ℕ) × (path_into (stage t) o ≡ Some BiasTaken)

-- `there` says which objects there are, and `entries` are those on an object, in the order of all logs; `revoked` is how many bulk revokes of a class
-- were counted.
pub record EntersFitMarks (biasing : Bool) (there : ℕ → Bool) (class mark : ℕ → ℕ) (lock : ℕ → Lock) (entries : ℕ → List Entry)
    (log : ℕ → List Logged) (stage : ℕ → Stage) (unfinished : ℕ → Option Unfinished)
    (revoked : ℕ → ℕ) : Type 0 where
  -- an object with an Enter of a path that is no bias path, or with a Wait, Notify or NotifyAll, has no bias pattern in its mark
  pub ended : (o : ℕ) → list_any ends_bias (entries o) ≡ true → is_biased (mark o) ≡ false
  -- and no Enter with a bias path stands after such an entry
  pub stays : (o : ℕ) → EndsStay (entries o)
  -- who is about to log an Enter with a bias path has the bias, and who is about to log another has an object without a bias pattern
  pub biased : (t o : ℕ) (path : Path) → path_into (stage t) o ≡ Some path → is_by_bias path ≡ true
      → lock o ≡ BiasedTo t
  pub unbiased : (t o : ℕ) (path : Path) → path_into (stage t) o ≡ Some path → is_by_bias path ≡ false
      → is_biased (mark o) ≡ false
  -- with biases, and where the class wasn't revoked in bulk: an object that is there, and has no Enter, has an anonymous mark, or its bias is being
  -- taken, or a Hash of it is logged or open
  pub unentered : biasing ≡ true → (o : ℕ) → there o ≡ true → revoked (class o) ≡ 0 → first_path (entries o) ≡ None
      → (is_anonymous (mark o) ≡ true) ⊎ IsTaken stage o ⊎ IsHashed log unfinished o
  -- and one with an Enter has BiasTaken as its first path, or a Hash of it is logged or open
  pub entered : biasing ≡ true → (o : ℕ) (path : Path) → there o ≡ true → revoked (class o) ≡ 0 → first_path (entries o) ≡ Some path
      → (path ≡ BiasTaken) ⊎ IsHashed log unfinished o

-- In each log, and with the Enter that its thread is about to log, the paths of a first hold stand exactly where the thread's count was 0 and the
-- bias wasn't its own already.
pub record PathsFitHolds (log : ℕ → List Logged) (stage : ℕ → Stage) : Type 0 where
  pub logged : (t : ℕ) → PathsFit nothing_held (log t)
  pub coming : (t o : ℕ) (path : Path) → path_into (stage t) o ≡ Some path
      → PathFits (held_by nothing_held (log t)) (entry.Enter o path)
