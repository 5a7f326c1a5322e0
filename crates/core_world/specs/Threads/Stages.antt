-- What a thread's stage says of an object.
use Rattle.std.specs.Prelude.{ℕ, ◌==◌, Bool, true, false, if◌then◌else◌, Option, Some, None}
use Rattle.plain_monitor.specs.declared.entry.Path.{Path}
use Rattle.plain_monitor.specs.declared.entry.Path.TheVariants.{BiasTaken}
use Rattle.core_world.specs.declared.stage.Stage.{Stage}
use Rattle.core_world.specs.declared.stage.Stage.TheVariants.{Settled, RecordLocked, MonitorAcquired, BiasAcquired, Enters, Resumes, Exits}
use Rattle.core_world.specs.declared.stage.Stage.TheVariants.{Waits, RecursionsRaised, RecursionsLowered, Inflates, Notifies, Revokes}

-- 1 where the test holds, and else 0
abbrev pub one_if : Bool → ℕ
one_if b = if b then 1 else 0

-- the thread has the lock of o for a reason that its log doesn't tell: it is taking o, or has logged its Wait and not let go
abbrev pub bears : Stage → ℕ → Bool
bears (RecordLocked object place) o = object == o
bears (MonitorAcquired object) o = object == o
bears (Enters object place path) o = object == o
bears (Resumes object) o = object == o
bears (Waits object) o = object == o
bears _ o = false

-- how many hold words of o it has besides those of its log
abbrev pub hold_words_ahead : Stage → ℕ → ℕ
hold_words_ahead (Enters object place path) o = one_if (object == o)
hold_words_ahead (Exits object place) o = one_if (object == o)
hold_words_ahead _ o = 0

-- by how much the recursions of o's monitor are above and below those of its records
abbrev pub recursions_ahead : Stage → ℕ → ℕ
recursions_ahead (RecursionsRaised object) o = one_if (object == o)
recursions_ahead _ o = 0

abbrev pub recursions_lowered : Stage → ℕ → ℕ
recursions_lowered (RecursionsLowered object) o = one_if (object == o)
recursions_lowered _ o = 0

-- the path by which it is about to log its Enter of o: from the bias that it gave itself on, and from its hold word on
abbrev pub path_into : Stage → ℕ → Option Path
path_into (BiasAcquired object) o = if object == o then Some BiasTaken else None
path_into (Enters object place path) o = if object == o then Some path else None
path_into _ o = None

-- a mark that was exchanged for 0: its object, and the lock record that it named
pub record Inflation : Type 0 where
  pub object : ℕ
  pub thread : ℕ
  pub place : ℕ

-- the thread is in the middle of nothing
abbrev pub is_calm : Stage → Bool
is_calm Settled = true
is_calm _ = false

-- the inflation that the thread is in the middle of
abbrev pub inflation_in : Stage → Option Inflation
inflation_in (Inflates object thread place) = Some (record { object = object; thread = thread; place = place })
inflation_in _ = None

-- the object whose waiters it is telling
abbrev pub notification_in : Stage → Option ℕ
notification_in (Notifies object notified) = Some object
notification_in _ = None

-- a bias that is being revoked at a safepoint: its object, whether a new bias is allowed, and the moment for the policy
pub record Revocation : Type 0 where
  pub object : ℕ
  pub rebias : Bool
  pub now : ℕ

-- the revocation that the thread is in the middle of
abbrev pub revocation_in : Stage → Option Revocation
revocation_in (Revokes object rebias now) = Some (record { object = object; rebias = rebias; now = now })
revocation_in _ = None
