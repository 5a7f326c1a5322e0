-- When a thread may store the class word of an object that it makes, and when that object's first mark.
use Rattle.std.specs.Prelude.{◌≡◌, ◌⊎◌, ℕ, ◌+◌, ◌<◌, ◌≤◌, true, List, [], length, Some}
use Rattle.mark_word.specs.Mark.{mark_of, read_mark}
use Rattle.mark_word.specs.declared.mark.MarkForm.TheVariants.{Neutral, Anonymous}
use Rattle.plain_monitor.specs.declared.entry.Entry.TheVariants.{New}
use Rattle.plain_monitor.specs.declared.entry.Logged.{Logged}
use Rattle.plain_monitor.specs.Limits.{most_made}
use Rattle.plain_monitor.specs.Made.{Numbering, made_number}
use Rattle.plain_monitor.specs.Objects.{PlainObject}
use Rattle.plain_history.specs.Known.{news}
use Rattle.core_world.specs.declared.word_id.WordId.TheVariants.{Mark, Class}
use Rattle.core_world.specs.declared.stage.Stage.TheVariants.{Settled}
use Rattle.core_world.specs.Threads.ThreadView.{ThreadView, last_seen}
use Rattle.core_world.specs.Threads.References.{making_in}
use Rattle.core_world.specs.World.{World}
use Rattle.core_world.specs.Locks.{marks, hold_count, waits_at, notified_at}
use Rattle.core_world.specs.Clauses.Lengths.{log_limit}
use Rattle.core_world.specs.Trees.Plans.{CallContext}
use Rattle.core_locks.specs.Knowing.{GoesOn, IsOwnEntry}

-- THE FIRST MARK. No thread goes by what it saw at this mark: a call sees only marks of objects that its thread knows, but at its reached safepoint.
abbrev pub IsUnseen : World → ℕ → Type 0
IsUnseen w o =
    (u v : ℕ) → last_seen (Mark o) (w.known u).seen ≡ Some v
    → ((w.known u).running ≡ true) ⊎ ((w.known u).requesting ≡ true) → ⊥

-- an object that isn't there yet: its mark is neutral without a hash, and nobody holds it, waits on it or was notified from it
pub record IsFresh (w : World) (objects : List PlainObject) (o : ℕ) : Type 0 where
  pub mark : marks w o ≡ mark_of (Neutral 0 0)
  pub unheld : (u : ℕ) → hold_count o (w.known u).holds ≡ 0
  pub nobody : (waits_at objects o ≡ []) × (notified_at objects o ≡ [])
  pub unseen : IsUnseen w o

-- the first mark: neutral, or anonymous in a heap with biases
abbrev pub IsFirstMark : World → ℕ → Type 0
IsFirstMark w m =
    (read_mark m ≡ Some (Neutral 0 0)) ⊎ ((w.biasing ≡ true) × ((epoch : ℕ) × (read_mark m ≡ Some (Anonymous epoch 0))))

-- the thread is in the middle of nothing, its log has room, and it may log that it has made the object
pub record MayMake (k : ThreadView) (o c : ℕ) : Type 0 where
  pub runs : k.running ≡ true
  pub calm : k.stage ≡ Settled
  pub ready : k.wait ≡ 0
  pub room : length k.log < log_limit
  pub own : IsOwnEntry k (New o c)

-- and it has stored the object's class word in this call, after which it makes no other step
pub record StandsBeforeMark (k : ThreadView) (o c : ℕ) : Type 0 where
  pub may : MayMake k o c
  pub making : making_in k.unfinished ≡ Some o
  pub saw : last_seen (Class o) k.seen ≡ Some (c + 1)

-- THE CLASS WORD, the step before that. The object isn't declared, and has no class yet.
pub record IsClassless (w : World) (o : ℕ) : Type 0 where
  pub undeclared : w.shape.declared ≤ o
  pub word : w.words (Class o) ≡ 0

-- the thread is in the middle of nothing
pub record MayStoreClass (k : ThreadView) (e : CallContext) : Type 0 where
  pub runs : k.running ≡ true
  pub calm : k.stage ≡ Settled
  pub goes_on : GoesOn k e

-- by its own log this is the next object that thread t makes, of a class that there is, and the thread may make one more
pub record IsNext (n : Numbering) (log : List Logged) (t o c : ℕ) : Type 0 where
  pub number : o ≡ made_number n t (length (news log))
  pub room : length (news log) < most_made
  pub class : c < n.classes
