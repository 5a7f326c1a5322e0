-- When a thread may make the steps on stamps, slots, waiting words and lengths.
use Rattle.std.specs.Prelude.{◌≡◌, ◌⊎◌, ℕ, ◌<◌, ◌≤◌, true, false, length, Some, None}
use Rattle.plain_monitor.specs.declared.entry.Entry.{Entry}
use Rattle.plain_monitor.specs.declared.entry.Entry.TheVariants.{Enter, Get, Notify, NotifyAll, Print, Dump, Trap, Spent, Done}
use Rattle.plain_monitor.specs.declared.entry.Path.{Path}
use Rattle.plain_monitor.specs.declared.entry.Value.{Value}
use Rattle.plain_monitor.specs.ValueWords.{IsSpellable, read_value}
use Rattle.core_world.specs.declared.word_id.WordId.TheVariants.{Mark, Stamp, Waiting, Recursions}
use Rattle.core_world.specs.declared.stage.Stage.TheVariants.{Settled, Enters, Resumes}
use Rattle.core_world.specs.declared.heap_call.Operation.TheVariants as op
use Rattle.core_world.specs.Words.Shape.{Shape, slots_of}
use Rattle.core_world.specs.Words.Forms.{waits_on, monitor_in}
use Rattle.core_world.specs.Threads.ThreadView.{ThreadView, last_seen, local_of}
use Rattle.core_world.specs.Threads.References.{HasReference, HasValue}
use Rattle.core_world.specs.Clauses.Lengths.{log_limit}
use Rattle.core_world.specs.Locks.{hold_count}
use Rattle.core_world.specs.Trees.Operations.{value_found}
use Rattle.core_world.specs.Trees.Plans.{CallContext, next_stamp}
use Rattle.core_world.specs.Clauses.Safepoints.{IsUnfinished, ends}
use Rattle.core_locks.specs.Knowing.{GoesOn, IsOut, HasHold, SawInflated, SawOwn, IsOwnEntry}

-- Loading the stamp, which logs Enter: the hold word stands at place p, the waiting word is Ready, and no other operation is unfinished, such as
-- an exit or a wait: these raise the object's stamp before they let go, and it could be above the Enter's.
pub record MayLogEnter (s : Shape) (k : ThreadView) (o p : ℕ) (path : Path) : Type 0 where
  pub runs : k.running ≡ true
  pub stage : k.stage ≡ Enters o p path
  pub ready : k.wait ≡ 0
  pub object : HasReference s k o
  pub room : length k.log < log_limit
  pub own_entry : IsOwnEntry k (Enter o path)

-- Loading the stamp, which logs Resume: the thread owns the monitor m of o, and has stored the recursions that it saved, in this call; and the
-- waiting word is Ready.
pub record MayLogResume (s : Shape) (k : ThreadView) (o m : ℕ) : Type 0 where
  pub runs : k.running ≡ true
  pub stage : k.stage ≡ Resumes o
  pub ready : k.wait ≡ 0
  pub object : HasReference s k o
  pub inflated : SawInflated k o m
  pub owner : SawOwn k k.thread m
  pub recursions : last_seen (Recursions m) k.seen ≡ Some k.saved
  pub room : length k.log < log_limit

-- Raising the stamp: the thread holds o, and is beginning to wait on it, or exiting it where that is its only hold.
pub record MayRaise (k : ThreadView) (e : CallContext) (o : ℕ) : Type 0 where
  pub runs : k.running ≡ true
  pub calm : k.stage ≡ Settled
  pub out : IsOut k
  pub holds : HasHold k o
  pub goes_on : GoesOn k e
  pub letting : IsUnfinished e.unfinished op.Wait o ⊎ (IsUnfinished e.unfinished op.Exit o × (hold_count o k.holds ≡ 1))

-- Loading or storing a slot of o: the thread holds o, and has nothing unfinished.
pub record MayTouch (s : Shape) (k : ThreadView) (o slot : ℕ) : Type 0 where
  pub runs : k.running ≡ true
  pub calm : k.stage ≡ Settled
  pub ready : k.wait ≡ 0
  pub holds : HasHold k o
  pub object : HasReference s k o
  pub within : slot < slots_of s o
  pub nothing : k.unfinished ≡ None
  pub room : length k.log < log_limit

-- Loading it, which logs Get: nothing is unfinished afterwards, by the plan.
pub record MayGet (s : Shape) (k : ThreadView) (e : CallContext) (o slot : ℕ) : Type 0 where
  pub touches : MayTouch s k o slot
  pub nothing : e.unfinished ≡ None

-- Storing a value there, which logs Put: the value may stand in a slot.
pub record MayPut (s : Shape) (k : ThreadView) (o slot : ℕ) (v : Value) : Type 0 where
  pub touches : MayTouch s k o slot
  pub spellable : IsSpellable v
  pub here : HasValue s k v

-- Storing Ready in its own waiting word: in an enter whose hold word is stored, or in a wait whose monitor it has again.
pub record MayBeReady (k : ThreadView) (e : CallContext) : Type 0 where
  pub runs : k.running ≡ true
  pub goes_on : GoesOn k e
  pub before : (IsOut k × ((o p : ℕ) × ((path : Path) × (k.stage ≡ Enters o p path))))
      ⊎ ((o : ℕ) × (k.stage ≡ Resumes o))

-- Storing Entering with o: the enter of o is unfinished, and o was seen inflated in this call.
pub record MayStand (s : Shape) (k : ThreadView) (e : CallContext) (o m : ℕ) : Type 0 where
  pub runs : k.running ≡ true
  pub calm : k.stage ≡ Settled
  pub out : IsOut k
  pub object : HasReference s k o
  pub enters : IsUnfinished e.unfinished op.Enter o
  pub goes_on : e.unfinished ≡ k.unfinished
  pub inflated : SawInflated k o m

-- Storing Ended: the log has its ending entry, and nothing is unfinished.
pub record MayEnd (k : ThreadView) (e : CallContext) : Type 0 where
  pub runs : k.running ≡ true
  pub calm : k.stage ≡ Settled
  pub out : IsOut k
  pub ended : ends k.log ≡ true
  pub goes_on : e.unfinished ≡ k.unfinished
  pub nothing : k.unfinished ≡ None

-- Storing Waiting with o and the entry's stamp, which logs Wait: the thread holds o, has seen in this call that it owns o's monitor m and what
-- the recursions are, has saved these and raised the stamp.
pub record MayWait (s : Shape) (k : ThreadView) (e : CallContext) (o m stamp : ℕ) : Type 0 where
  pub runs : k.running ≡ true
  pub calm : k.stage ≡ Settled
  pub ready : k.wait ≡ 0
  pub holds : HasHold k o
  pub object : HasReference s k o
  pub waits : IsUnfinished e.unfinished op.Wait o
  pub goes_on : e.unfinished ≡ k.unfinished
  pub inflated : SawInflated k o m
  pub owner : SawOwn k k.thread m
  pub recursions : last_seen (Recursions m) k.seen ≡ Some k.saved
  pub stamped : last_seen (Stamp o) k.seen ≡ Some stamp
  pub high : next_stamp (local_of k) ≤ stamp
  pub room : length k.log < log_limit

-- Nobody waits on o, of which the thread is the owner: in this call it saw a mark of o that names no monitor, as who waits has the object inflated; or
-- that no thread of n says it waits on o.
abbrev pub SawNobody : ℕ → ThreadView → ℕ → Type 0
SawNobody n k o =
    ((v : ℕ) × (last_seen (Mark o) k.seen ≡ Some v) × (monitor_in v ≡ None))
    ⊎ ((t : ℕ) → t < n → (v : ℕ) × (last_seen (Waiting t) k.seen ≡ Some v) × (waits_on v o ≡ false))

-- what may be logged by publishing the own length: what names no object, and a notify of an own object that wakes nobody
abbrev pub MayTell : Shape → ThreadView → Entry → Type 0
MayTell s k (Print value) = Unit {0}
MayTell s k (Dump number) = Unit {0}
MayTell s k (Trap fault index) = Unit {0}
MayTell s k Spent = Unit {0}
MayTell s k Done = Unit {0}
MayTell s k (Notify o None) = HasHold k o × HasReference s k o × SawNobody s.threads k o
MayTell s k (NotifyAll o n) = HasHold k o × HasReference s k o × SawNobody s.threads k o × (n ≡ 0)
MayTell s k _ = ⊥

-- Publishing the length of the whole log, which logs nothing.
pub record MayPublishLog (k : ThreadView) (e : CallContext) : Type 0 where
  pub runs : k.running ≡ true
  pub calm : k.stage ≡ Settled
  pub goes_on : e.unfinished ≡ k.unfinished

-- Publishing the own length with one entry more, which logs the entry, of its own operation.
pub record MayPublish (s : Shape) (k : ThreadView) (e : Entry) : Type 0 where
  pub runs : k.running ≡ true
  pub calm : k.stage ≡ Settled
  pub ready : k.wait ≡ 0
  pub tells : MayTell s k e
  pub room : length k.log < log_limit
  pub own_entry : IsOwnEntry k e

-- the entry that a Get makes of the word that it finds
abbrev pub get_entry : ℕ → ℕ → ℕ → Entry
get_entry o slot word = Get o slot (value_found (read_value word))
