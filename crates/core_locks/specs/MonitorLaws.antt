-- When a thread may make the steps on the words of monitors.
use Rattle.std.specs.Prelude.{◌≡◌, ◌≢◌, ◌⊎◌, ℕ, ◌<◌, ◌≤◌, true, length, Some, None}
use Rattle.core_world.specs.declared.word_id.WordId.TheVariants.{Stamp, Waiting, Displaced, Owner, Recursions, Header, Object}
use Rattle.core_world.specs.declared.stage.Stage.TheVariants.{Settled, Resumes, Waits, OwnerConverted, Inflates}
use Rattle.core_world.specs.Threads.ThreadView.{ThreadView, Still, Fetches, last_seen, local_of}
use Rattle.core_world.specs.Threads.References.{HasReference}
use Rattle.core_world.specs.Trees.Plans.{CallContext, next_stamp}
use Rattle.core_world.specs.Words.Shape.{Shape}
use Rattle.core_world.specs.Clauses.WordForms.{IsOwner}
use Rattle.mark_word.specs.Mark.{read_mark}
use Rattle.mark_word.specs.declared.mark.MarkForm.TheVariants.{Locked}
use Rattle.core_world.specs.Words.Forms.{is_neutral, says_notified}
use Rattle.core_world.specs.Clauses.Lengths.{log_limit}
use Rattle.core_world.specs.Locks.{hold_count}
use Rattle.plain_monitor.specs.declared.entry.Entry.TheVariants as entry
use Rattle.mark_word.specs.Owner.{read_owner, owner_of}
use Rattle.mark_word.specs.declared.owner.OwnerForm.TheVariants.{Free, ByRecord}
use Rattle.core_locks.specs.Knowing.{GoesOn, IsOut, HasHold, SawInflated, SawOwn, IsOwnEntry}

-- Claiming a ring position: the thread keeps no monitor, and has claimed none.
pub record MayClaim (k : ThreadView) (e : CallContext) : Type 0 where
  pub runs : k.running ≡ true
  pub calm : k.stage ≡ Settled
  pub none : k.kept ≡ None
  pub still : k.moving ≡ Still
  pub goes_on : GoesOn k e

-- Loading the place of the position that it claimed, whose monitor it keeps from then on.
pub record MayFetch (k : ThreadView) (e : CallContext) (position : ℕ) : Type 0 where
  pub runs : k.running ≡ true
  pub calm : k.stage ≡ Settled
  pub claimed : k.moving ≡ Fetches position
  pub goes_on : GoesOn k e

-- Storing a word of the monitor that the thread keeps. Where it stands stays: it may be inflating a lock.
pub record MayPrepare (k : ThreadView) (e : CallContext) (m : ℕ) : Type 0 where
  pub runs : k.running ≡ true
  pub kept : k.kept ≡ Some m
  pub goes_on : GoesOn k e

-- and an owner word spells an owner of the heap
pub record MayPrepareOwner (s : Shape) (k : ThreadView) (e : CallContext) (m word : ℕ) : Type 0 where
  pub prepares : MayPrepare k e m
  pub owner : IsOwner s (read_owner word)

-- an object word names one
pub record MayPrepareObject (s : Shape) (k : ThreadView) (e : CallContext) (m o : ℕ) : Type 0 where
  pub prepares : MayPrepare k e m
  pub object : HasReference s k o

-- Storing the recursions of o's monitor m, of which the thread found itself the owner in this call, and which it has a hold of.
pub record MayCount (k : ThreadView) (e : CallContext) (o m : ℕ) : Type 0 where
  pub runs : k.running ≡ true
  pub out : IsOut k
  pub holds : HasHold k o
  pub inflated : SawInflated k o m
  pub owner : SawOwn k k.thread m
  pub goes_on : GoesOn k e

-- raised by one: what it saw last; or from 0, where it has just become the owner in place of its own record
pub record MayRaiseCount (k : ThreadView) (e : CallContext) (o m r : ℕ) : Type 0 where
  pub counts : MayCount k e o m
  pub before : ((k.stage ≡ Settled) × (last_seen (Recursions m) k.seen ≡ Some r)) ⊎ ((k.stage ≡ OwnerConverted o) × (r ≡ 0))

-- lowered by one: what it saw last, and that wasn't 0
pub record MayLowerCount (k : ThreadView) (e : CallContext) (o m r : ℕ) : Type 0 where
  pub counts : MayCount k e o m
  pub calm : k.stage ≡ Settled
  pub saw : last_seen (Recursions m) k.seen ≡ Some r
  pub some : r ≢ 0

-- 0, where it has just become the owner in place of its own record
pub record MayResetCount (k : ThreadView) (e : CallContext) (o m : ℕ) : Type 0 where
  pub counts : MayCount k e o m
  pub takes_over : k.stage ≡ OwnerConverted o

-- Storing itself as the owner of o's monitor m, in place of its own record at p, which it saw there in this call; it has a hold of o.
pub record MayTakeOver (k : ThreadView) (e : CallContext) (o m p : ℕ) : Type 0 where
  pub runs : k.running ≡ true
  pub calm : k.stage ≡ Settled
  pub out : IsOut k
  pub holds : HasHold k o
  pub inflated : SawInflated k o m
  pub owner : (v : ℕ) × (last_seen (Owner m) k.seen ≡ Some v) × (read_owner v ≡ Some (ByRecord k.thread p))
  pub goes_on : GoesOn k e

-- Exchanging the free owner word of o's monitor m to enter: of its recursions the thread saw nothing in this call, or that they are 0.
pub record MayGrab (k : ThreadView) (e : CallContext) (o m : ℕ) : Type 0 where
  pub runs : k.running ≡ true
  pub calm : k.stage ≡ Settled
  pub out : IsOut k
  pub inflated : SawInflated k o m
  pub unseen : (r : ℕ) → last_seen (Recursions m) k.seen ≡ Some r → r ≡ 0
  pub goes_on : GoesOn k e

-- Exchanging a mark of o that names the record of thread u at p for 0: that record's displaced word wasn't seen in this call, or is the thread's own.
pub record MayInflate (k : ThreadView) (e : CallContext) (o mark u p : ℕ) : Type 0 where
  pub runs : k.running ≡ true
  pub calm : k.stage ≡ Settled
  pub locked : read_mark mark ≡ Some (Locked u p)
  pub unseen : (last_seen (Displaced u p) k.seen ≡ None) ⊎ (u ≡ k.thread)
  pub goes_on : GoesOn k e

-- The kept monitor m is ready for o: in this call the thread saw or stored these words of it.
pub record KeptMonitorIsReady (s : Shape) (k : ThreadView) (o m : ℕ) : Type 0 where
  pub kept : k.kept ≡ Some m
  pub object : HasReference s k o
  pub recursions : last_seen (Recursions m) k.seen ≡ Some 0
  pub its_object : last_seen (Object m) k.seen ≡ Some o

-- Storing the mark that names the kept monitor m, at the end of an inflation: the monitor has the record as its owner, and the record's
-- displaced word as its header.
pub record MayName (s : Shape) (k : ThreadView) (e : CallContext) (o m u p h : ℕ) : Type 0 where
  pub runs : k.running ≡ true
  pub stage : k.stage ≡ Inflates o u p
  pub ready : KeptMonitorIsReady s k o m
  pub owner : (v : ℕ) × (last_seen (Owner m) k.seen ≡ Some v) × (read_owner v ≡ Some (ByRecord u p))
  pub displaced : last_seen (Displaced u p) k.seen ≡ Some h
  pub header : last_seen (Header m) k.seen ≡ Some h
  pub goes_on : GoesOn k e

-- Exchanging a neutral mark for the one that names the kept monitor m, which has no owner, and that mark as its header.
pub record MayNameNeutral (s : Shape) (k : ThreadView) (e : CallContext) (o mark m : ℕ) : Type 0 where
  pub runs : k.running ≡ true
  pub calm : k.stage ≡ Settled
  pub ready : KeptMonitorIsReady s k o m
  pub neutral : is_neutral mark ≡ true
  pub owner : last_seen (Owner m) k.seen ≡ Some (owner_of Free)
  pub header : last_seen (Header m) k.seen ≡ Some mark
  pub goes_on : GoesOn k e

-- Clearing the owner word of o's monitor m, which logs Exit: the last hold, after the stamp was raised, where the recursions were seen to be 0.
pub record MayFree (s : Shape) (k : ThreadView) (o m stamp : ℕ) : Type 0 where
  pub runs : k.running ≡ true
  pub calm : k.stage ≡ Settled
  pub ready : k.wait ≡ 0
  pub object : HasReference s k o
  pub last : hold_count o k.holds ≡ 1
  pub inflated : SawInflated k o m
  pub owner : SawOwn k k.thread m
  pub recursions : last_seen (Recursions m) k.seen ≡ Some 0
  pub stamped : last_seen (Stamp o) k.seen ≡ Some stamp
  pub high : next_stamp (local_of k) ≤ stamp
  pub room : length k.log < log_limit
  pub own_entry : IsOwnEntry k (entry.Exit o)

-- A wait lets go: the recursions become 0, and then the owner word is cleared.
pub record MayDrop (k : ThreadView) (e : CallContext) (o m : ℕ) : Type 0 where
  pub runs : k.running ≡ true
  pub stage : k.stage ≡ Waits o
  pub inflated : SawInflated k o m
  pub owner : SawOwn k k.thread m
  pub goes_on : GoesOn k e

pub record MayQuit (k : ThreadView) (e : CallContext) (o m : ℕ) : Type 0 where
  pub drops : MayDrop k e o m
  pub recursions : last_seen (Recursions m) k.seen ≡ Some 0

-- A wait that was notified exchanges the free owner word of o's monitor m: of its recursions it saw nothing in this call, or that they are 0.
pub record MayRegain (k : ThreadView) (e : CallContext) (o m : ℕ) : Type 0 where
  pub runs : k.running ≡ true
  pub calm : k.stage ≡ Settled
  pub inflated : SawInflated k o m
  pub told : (v : ℕ) × (last_seen (Waiting k.thread) k.seen ≡ Some v) × (says_notified v o ≡ true)
  pub unseen : (r : ℕ) → last_seen (Recursions m) k.seen ≡ Some r → r ≡ 0
  pub goes_on : GoesOn k e

-- and then stores the recursions, whatever they are.
pub record MayRestore (k : ThreadView) (e : CallContext) (o m : ℕ) : Type 0 where
  pub runs : k.running ≡ true
  pub stage : k.stage ≡ Resumes o
  pub inflated : SawInflated k o m
  pub owner : SawOwn k k.thread m
  pub goes_on : GoesOn k e

-- The load of the recursions that a wait saves is a load by the owner.
pub record MaySaveCount (k : ThreadView) (e : CallContext) (o m : ℕ) : Type 0 where
  pub counts : MayCount k e o m
  pub calm : k.stage ≡ Settled
