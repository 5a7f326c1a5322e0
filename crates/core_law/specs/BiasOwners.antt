-- What the logs say of the bias owners in the marks: that each has taken its bias, and how often biases were taken.
use Rattle.std.specs.Prelude.{◌≡◌, ◌⊎◌, ℕ, ◌+◌, ◌≤◌, true, List, Option, Some, None}
use Rattle.mark_word.specs.declared.mark.MarkForm.{MarkForm}
use Rattle.mark_word.specs.declared.mark.MarkForm.TheVariants.{Biased}
use Rattle.mark_word.specs.Mark.{read_mark}
use Rattle.plain_monitor.specs.declared.entry.Entry.{Entry}
use Rattle.plain_monitor.specs.declared.entry.Logged.{Logged}
use Rattle.plain_monitor.specs.declared.entry.Path.TheVariants.{BiasTaken}
use Rattle.core_world.specs.declared.stage.Stage.{Stage}
use Rattle.core_world.specs.Locks.{Lock, BiasedTo}
use Rattle.core_world.specs.Threads.Stages.{path_into}
use Rattle.core_world.specs.Words.Forms.{is_biased}
use Rattle.core_law.specs.MarksAndLogs.{IsTaken}
use Rattle.core_law.specs.TakenBiases.{has_taken, times_taken, OwnsAreTaken}

abbrev pub owner_form : Option MarkForm → Option ℕ
owner_form (Some (Biased thread epoch age)) = Some thread
owner_form _ = None

-- the thread to which a mark is biased, in whatever epoch
abbrev pub bias_owner : ℕ → Option ℕ
bias_owner n = owner_form (read_mark n)

pub record OwnersHaveTaken (mark : ℕ → ℕ) (log : ℕ → List Logged) (stage : ℕ → Stage) : Type 0 where
  pub logged : (t : ℕ) → OwnsAreTaken (log t)
  -- to whom a mark is biased has logged that it took the bias, or is about to
  pub owners : (t o : ℕ) → bias_owner (mark o) ≡ Some t
      → (has_taken o (log t) ≡ true) ⊎ (path_into (stage t) o ≡ Some BiasTaken)

-- The bias of o may be taken: its mark has the bias pattern and is validly biased to nobody, and its class wasn't revoked in bulk. `revoked` is how
-- many bulk revokes of a class were counted.
abbrev pub IsFree : (ℕ → ℕ) → (ℕ → ℕ) → (ℕ → Lock) → (ℕ → ℕ) → ℕ → Type 0
IsFree class mark lock revoked o =
    (revoked (class o) ≡ 0) × (is_biased (mark o) ≡ true) × ((t : ℕ) → lock o ≡ BiasedTo t → ⊥)

-- `entries` are those on an object, in the order of all logs; `rebiased` and `revoked` are how many bulk operations of a class were counted.
pub record BiasesTakenAtMost (class mark : ℕ → ℕ) (lock : ℕ → Lock) (entries : ℕ → List Entry) (stage : ℕ → Stage)
    (rebiased revoked : ℕ → ℕ) : Type 0 where
  -- the bias of an object was taken at most once more than its class was rebiased in bulk,
  pub logged : (o : ℕ) → times_taken o (entries o) ≤ rebiased (class o) + 1
  -- and not so often while it is being taken or may be
  pub coming : (o : ℕ) → IsTaken stage o → times_taken o (entries o) ≤ rebiased (class o)
  pub free : (o : ℕ) → IsFree class mark lock revoked o → times_taken o (entries o) ≤ rebiased (class o)
