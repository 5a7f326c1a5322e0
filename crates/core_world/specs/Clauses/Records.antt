-- The lock records of a thread on one of whose records a lock rests.
use Rattle.std.specs.Prelude.{◌≡◌, ◌≢◌, ◌⊎◌, ℕ, ◌<◌, ◌≤◌, true, List, slice_index}
use Rattle.plain_monitor.specs.Limits.{most_holds}
use Rattle.core_world.specs.declared.stage.Stage.{Stage}
use Rattle.core_world.specs.declared.stage.Stage.TheVariants.{RecordLocked, MonitorAcquired}
use Rattle.core_world.specs.Words.Forms.{is_neutral, hold_word}
use Rattle.core_world.specs.Locks.{Lock, OnRecord, OwnedBy, hold_count}

pub record RecordsRest (lock : ℕ → Lock) (holds : ℕ → List ℕ) (stage : ℕ → Stage) (displaced : ℕ → ℕ → ℕ) : Type 0 where
  -- that record holds the object at depth 1, unless its hold word is yet to be stored
  pub first : (o t p : ℕ) → lock o ≡ OnRecord t p → (slice_index (holds t) p ≡ hold_word o 1) ⊎ (stage t ≡ RecordLocked o p)
  -- its displaced word is neutral, the object's header or from before that had a hash; that of each other record of the object is 0
  pub header : (o t p : ℕ) → lock o ≡ OnRecord t p → is_neutral (displaced t p) ≡ true
  pub others : (o t p q d : ℕ) → lock o ≡ OnRecord t p → slice_index (holds t) q ≡ hold_word o d → d ≤ most_holds
      → q ≢ p → displaced t q ≡ 0
  -- a thread that has exchanged a neutral mark: the lock rests on that place, which is still empty, and is its first hold
  pub seized : (o t p : ℕ) → stage t ≡ RecordLocked o p → (lock o ≡ OnRecord t p) × (slice_index (holds t) p ≡ 0)
      × (p < most_holds) × (hold_count o (holds t) ≡ 0)
  -- a thread that has exchanged a free owner word: it has the lock through the monitor, and this is its first hold
  pub grabbed : (o t : ℕ) → stage t ≡ MonitorAcquired o → (lock o ≡ OwnedBy t) × (hold_count o (holds t) ≡ 0)
