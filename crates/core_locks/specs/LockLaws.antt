-- When a thread may make the steps that take and leave a hold by a lock record.
use Rattle.std.specs.Prelude.{◌≡◌, ◌≢◌, ◌⊎◌, ℕ, ◌+◌, ◌<◌, ◌≤◌, true, length, slice_index, Some}
use Rattle.plain_monitor.specs.Limits.{most_holds}
use Rattle.plain_monitor.specs.declared.entry.Entry.TheVariants.{Exit}
use Rattle.core_world.specs.declared.word_id.WordId.TheVariants.{Stamp, Displaced}
use Rattle.core_world.specs.declared.stage.Stage.TheVariants.{Settled, RecordLocked, MonitorAcquired, BiasAcquired, Exits, RecursionsRaised, RecursionsLowered}
use Rattle.core_world.specs.Words.Shape.{Shape}
use Rattle.core_world.specs.Words.Forms.{is_neutral, hold_word}
use Rattle.core_world.specs.Threads.ThreadView.{ThreadView, last_seen, local_of}
use Rattle.core_world.specs.Threads.References.{HasReference}
use Rattle.core_world.specs.Clauses.Lengths.{log_limit}
use Rattle.core_world.specs.Locks.{hold_count}
use Rattle.core_world.specs.Trees.Plans.{CallContext, next_stamp}
use Rattle.core_locks.specs.Knowing.{GoesOn, IsOut, SawInflated, SawOwn, SawBiased, SawOwnBias, IsOwnEntry}

-- the place is one of the thread's, and no hold word stands there
pub record IsFree (k : ThreadView) (p : ℕ) : Type 0 where
  pub place : p < most_holds
  pub empty : slice_index k.holds p ≡ 0

-- Storing a displaced word of its own: at a free place, for which it has exchanged no mark. The thread stays at its stage: an enter that has the
-- monitor already goes on.
pub record MayDisplace (k : ThreadView) (e : CallContext) (p : ℕ) : Type 0 where
  pub runs : k.running ≡ true
  pub free : IsFree k p
  pub unseized : (o : ℕ) → k.stage ≡ RecordLocked o p → ⊥
  pub goes_on : GoesOn k e

-- Exchanging a neutral mark of o for the place p: the mark was stored there as the displaced word, in this call. Whether o has that mark, the
-- exchange tells.
pub record MaySeize (k : ThreadView) (e : CallContext) (o mark p : ℕ) : Type 0 where
  pub runs : k.running ≡ true
  pub calm : k.stage ≡ Settled
  pub free : IsFree k p
  pub neutral : is_neutral mark ≡ true
  pub stored : last_seen (Displaced k.thread p) k.seen ≡ Some mark
  pub goes_on : GoesOn k e

-- What went before a hold word: the exchange of a neutral mark for the place; or a displaced word 0 there, by a thread that holds o; or the
-- exchange of a free owner word and a displaced word 3; or, by a thread that found itself the owner by the monitor in this call, the recursions
-- raised and a displaced word 3; or a bias of o to the thread, which it has just stored, or found. Risen recursions ask for the sights of the
-- inflated mark and of the own owner word, since what the thread owns doesn't say by which way, and they count records of the monitor's way alone.
abbrev pub Precedes : Shape → ThreadView → ℕ → ℕ → Type 0
Precedes s k o p =
    (k.stage ≡ RecordLocked o p)
    ⊎ ((k.stage ≡ Settled) × (1 ≤ hold_count o k.holds) × (last_seen (Displaced k.thread p) k.seen ≡ Some 0))
    ⊎ ((k.stage ≡ MonitorAcquired o) × (last_seen (Displaced k.thread p) k.seen ≡ Some 3))
    ⊎ ((k.stage ≡ RecursionsRaised o) × (1 ≤ hold_count o k.holds) × (last_seen (Displaced k.thread p) k.seen ≡ Some 3)
    × ((m : ℕ) × SawInflated k o m × SawOwn k k.thread m))
    ⊎ (((k.stage ≡ BiasAcquired o) ⊎ (k.stage ≡ Settled)) × SawOwnBias s k o)

-- Storing a hold word of o at depth d.
pub record MayHold (s : Shape) (k : ThreadView) (e : CallContext) (o d p : ℕ) : Type 0 where
  pub runs : k.running ≡ true
  pub out : IsOut k
  pub free : IsFree k p
  pub depth : d ≡ hold_count o k.holds + 1
  pub small : d ≤ most_holds
  pub object : HasReference s k o
  pub before : Precedes s k o p
  pub goes_on : GoesOn k e

-- the stamp of o was raised to the thread's next one in this call
abbrev pub HasRaised : ThreadView → ℕ → Type 0
HasRaised k o = (stamp : ℕ) × (last_seen (Stamp o) k.seen ≡ Some stamp) × (next_stamp (local_of k) ≤ stamp)

-- Clearing a hold word, which logs Exit: the deepest of several, whose displaced word was seen to be 0 in this call; or to be another one, the
-- inflated mark and the own owner word were seen in this call, and the recursions are lowered already; or a mark of o with the bias pattern was seen
-- in this call, and where it is the last one, the stamp was raised.
pub record MayLeave (s : Shape) (k : ThreadView) (o d p : ℕ) : Type 0 where
  pub runs : k.running ≡ true
  pub ready : k.wait ≡ 0
  pub object : HasReference s k o
  pub hold : slice_index k.holds p ≡ hold_word o d
  pub deepest : hold_count o k.holds ≡ d
  pub small : d ≤ most_holds
  pub before : ((k.stage ≡ Settled) × (2 ≤ d) × (last_seen (Displaced k.thread p) k.seen ≡ Some 0))
      ⊎ ((k.stage ≡ RecursionsLowered o)
      × ((m h : ℕ) × SawInflated k o m × SawOwn k k.thread m
      × (last_seen (Displaced k.thread p) k.seen ≡ Some h) × (h ≢ 0)))
      ⊎ ((k.stage ≡ Settled) × SawBiased k o × (d ≡ 1 → HasRaised k o))
  pub room : length k.log < log_limit
  pub own_entry : IsOwnEntry k (Exit o)

-- Clearing the last hold word after the step that logged its Exit.
pub record MayClear (k : ThreadView) (e : CallContext) (o p : ℕ) : Type 0 where
  pub runs : k.running ≡ true
  pub stage : k.stage ≡ Exits o p
  pub hold : slice_index k.holds p ≡ hold_word o 1
  pub last : hold_count o k.holds ≡ 1
  pub goes_on : e.unfinished ≡ k.unfinished

-- Exchanging the place p for the header that its displaced word is, which logs Exit: the last hold, after the stamp was raised in this call.
pub record MayLetGo (s : Shape) (k : ThreadView) (o header stamp p : ℕ) : Type 0 where
  pub runs : k.running ≡ true
  pub calm : k.stage ≡ Settled
  pub ready : k.wait ≡ 0
  pub object : HasReference s k o
  pub place : p < most_holds
  pub hold : slice_index k.holds p ≡ hold_word o 1
  pub last : hold_count o k.holds ≡ 1
  pub displaced : last_seen (Displaced k.thread p) k.seen ≡ Some header
  pub stamped : last_seen (Stamp o) k.seen ≡ Some stamp
  pub high : next_stamp (local_of k) ≤ stamp
  pub room : length k.log < log_limit
  pub own_entry : IsOwnEntry k (Exit o)
