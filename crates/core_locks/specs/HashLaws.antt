-- When a thread may make the steps that find an object's hash or give it one.
use Rattle.std.specs.Prelude.{◌≡◌, ◌≢◌, ℕ, ◌+◌, ◌<◌, true, false, length, slice_index, Option, Some, None}
use Rattle.plain_monitor.specs.declared.entry.Entry.{Entry}
use Rattle.plain_monitor.specs.declared.entry.Entry.TheVariants.{Hash}
use Rattle.mark_word.specs.declared.mark.MarkForm.TheVariants.{Neutral}
use Rattle.mark_word.specs.Mark.{read_mark}
use Rattle.core_world.specs.declared.word_id.WordId.{WordId}
use Rattle.core_world.specs.declared.word_id.WordId.TheVariants.{Mark}
use Rattle.core_world.specs.declared.stage.Stage.TheVariants.{Settled}
use Rattle.core_world.specs.Words.Shape.{Shape}
use Rattle.core_world.specs.Words.Forms.{is_biased, hash_in, hold_word}
use Rattle.core_world.specs.Threads.ThreadView.{ThreadView, last_seen, draw_of}
use Rattle.core_world.specs.Threads.References.{HasReference}
use Rattle.core_world.specs.Trees.HashSteps.{NextDraw}
use Rattle.core_world.specs.Trees.Plans.{CallContext}
use Rattle.core_world.specs.World.{World}
use Rattle.core_locks.specs.Knowing.{GoesOn, SawInflated, IsOwnEntry}
use Rattle.core_world.specs.Clauses.Lengths.{log_limit}

-- Any of them: the thread runs in the middle of nothing, logs the hash of its own operation, its waiting word is Ready, and its log has room.
pub record MayHash (s : Shape) (k : ThreadView) (o : ℕ) : Type 0 where
  pub runs : k.running ≡ true
  pub calm : k.stage ≡ Settled
  pub ready : k.wait ≡ 0
  pub object : HasReference s k o
  pub room : length k.log < log_limit
  pub own_entry : (value : ℕ) (drawn : Option ℕ) → IsOwnEntry k (Hash o value drawn)

-- Its record p holds o at depth 1, and in this call it saw a mark of o without the bias pattern. (The displaced word of a biased object's
-- record may be a header of another object.)
pub record HasRecord (k : ThreadView) (o p : ℕ) : Type 0 where
  pub hold : slice_index k.holds p ≡ hold_word o 1
  pub unbiased : (v : ℕ) × (last_seen (Mark o) k.seen ≡ Some v) × (is_biased v ≡ false)

-- LOADING A WORD THAT MAY HAVE THE HASH OF o: where it has one, the load logs that; else it is a look. The word is the mark;
pub record MayFind (s : Shape) (k : ThreadView) (e : CallContext) (o : ℕ) : Type 0 where
  pub hashes : MayHash s k o
  pub goes_on : GoesOn k e

-- the displaced word of its own record p, if it has o there;
pub record MayFindInRecord (s : Shape) (k : ThreadView) (e : CallContext) (o p : ℕ) : Type 0 where
  pub finds : MayFind s k e o
  pub has : HasRecord k o p

-- or the header of the monitor m that a mark names which it saw.
pub record MayFindInMonitor (s : Shape) (k : ThreadView) (e : CallContext) (o m : ℕ) : Type 0 where
  pub finds : MayFind s k e o
  pub inflated : SawInflated k o m

-- the word of this name has a hash
abbrev pub HasHash : World → WordId → Type 0
HasHash w at = hash_in (w.words at) ≢ 0

abbrev pub HasNoHash : World → WordId → Type 0
HasNoHash w at = hash_in (w.words at) ≡ 0

-- the entry that this word makes
abbrev pub hash_entry : ℕ → ℕ → Entry
hash_entry o word = Hash o (hash_in word) None

-- the mark is neutral and has no hash
abbrev pub IsHashless : ℕ → Type 0
IsHashless mark = (age : ℕ) × (read_mark mark ≡ Some (Neutral 0 age))

-- the draw is the thread's next one, in a heap whose generators start from this number
pub record IsItsNext (start : ℕ) (k : ThreadView) (draw : NextDraw) : Type 0 where
  pub number : draw.number ≡ k.draws + 1
  pub value : draw.value ≡ draw_of start k.thread (k.draws + 1)

-- EXCHANGING A HEADER WITHOUT A HASH for the same with the draw: where it hits, the exchange logs the hash; where it misses, it is a look.
pub record MayDraw (start : ℕ) (s : Shape) (k : ThreadView) (draw : NextDraw) (o : ℕ) : Type 0 where
  pub hashes : MayHash s k o
  pub next : IsItsNext start k draw

-- The header is the mark,
pub record MayDrawInMark (start : ℕ) (s : Shape) (k : ThreadView) (draw : NextDraw) (o mark : ℕ) : Type 0 where
  pub draws : MayDraw start s k draw o
  pub hashless : IsHashless mark

-- or that of the monitor m which a mark names that it saw.
pub record MayDrawInMonitor (start : ℕ) (s : Shape) (k : ThreadView) (draw : NextDraw) (o m header : ℕ) : Type 0 where
  pub draws : MayDraw start s k draw o
  pub inflated : SawInflated k o m
  pub hashless : hash_in header ≡ 0
