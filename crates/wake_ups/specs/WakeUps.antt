-- What a world tells of those who were notified.
use Rattle.std.specs.Prelude.{◌≡◌, ◌≢◌, ◌⊎◌, ℕ, ◌+◌, ◌==◌, if◌then◌else◌, Bool, true, false, List, [], ◌∷◌, Some}
use Rattle.plain_monitor.specs.declared.entry.Entry.{Entry}
use Rattle.plain_monitor.specs.declared.entry.Entry.TheVariants as entry
use Rattle.plain_monitor.specs.declared.entry.Logged.{Logged}
use Rattle.plain_monitor.specs.Objects.{PlainObject}
use Rattle.plain_monitor.specs.History.{objects_after}
use Rattle.core_world.specs.declared.word_id.WordId.TheVariants.{Waiting}
use Rattle.core_world.specs.declared.stage.Stage.TheVariants.{Resumes}
use Rattle.core_world.specs.Words.Forms.{says_notified}
use Rattle.core_world.specs.World.{World, logs}
use Rattle.core_world.specs.Locks.{owner_at}

-- these are the plain objects after the world's logs
abbrev pub AreAfterLogs : World → List PlainObject → Type 0
AreAfterLogs w objects = objects_after w.shape.objects (logs w) ≡ Some objects

-- The waiting word of thread t says that it was notified from object o; or t has taken o's monitor again, its waiting word is 0
-- (ready), and it is at the stage that ends with its Resume.
abbrev pub IsTold : World → ℕ → ℕ → Type 0
IsTold w t o =
    (says_notified (w.words (Waiting t)) o ≡ true)
    ⊎ ((w.words (Waiting t) ≡ 0) × ((w.known t).stage ≡ Resumes o))

-- a thread other than t owns object o
abbrev pub OwnedByAnother : List PlainObject → ℕ → ℕ → Type 0
OwnedByAnother objects o t = (u : ℕ) × (u ≢ t) × (owner_at objects o u ≡ true)

-- how often a log has a Resume of object o
abbrev pub is_resume : ℕ → Entry → Bool
is_resume o (entry.Resume object) = object == o
is_resume o _ = false

abbrev pub resumes_of : ℕ → List Logged → ℕ
resumes_of o [] = 0
resumes_of o (l ∷ log) = (if is_resume o l.entry then 1 else 0) + resumes_of o log
