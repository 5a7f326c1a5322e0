-- When a thread at its reached safepoint may make the steps that give an idle monitor back; which positions of the ring are filled, and what a claim may
-- rely on of the monitor that it gets there.
use Rattle.std.specs.Prelude.{◌≡◌, ◌≢◌, ℕ, ◌+◌, ◌%◌, ◌^◌, ◌<◌, ◌≤◌, true, false, length, Some, None}
use Rattle.mark_word.specs.declared.owner.OwnerForm.TheVariants.{Free}
use Rattle.mark_word.specs.Owner.{owner_of}
use Rattle.core_world.specs.declared.word_id.WordId.{WordId}
use Rattle.core_world.specs.declared.word_id.WordId.TheVariants.{Mark, Waiting, Owner, Header, Claim, End, Ring}
use Rattle.core_world.specs.Words.Forms.{monitor_in, waits_on, says_notified, enters_on}
use Rattle.core_world.specs.Words.Shape.{Shape, monitor_count, ring_places}
use Rattle.core_world.specs.Threads.Stages.{revocation_in}
use Rattle.core_world.specs.Threads.ThreadView.{ThreadView, Still, Fetches, Returns, last_seen}
use Rattle.core_world.specs.Trees.Plans.{CallContext}
use Rattle.core_world.specs.World.{World}
use Rattle.core_locks.specs.Knowing.{GoesOn}

-- its safepoint is reached, and it revokes no bias: where it did, all stores of that are made
pub record StandsAtSafepoint (k : ThreadView) (e : CallContext) : Type 0 where
  pub reached : k.reached ≡ true
  pub unrevoking : revocation_in k.stage ≡ None
  pub goes_on : GoesOn k e

-- at its safepoint it saw this word so
abbrev pub Saw : ThreadView → WordId → ℕ → Type 0
Saw k n v = last_seen n k.seen_at_safepoint ≡ Some v

-- the waiting word of thread u, as it saw it there, says that u neither waits on o nor was notified from it nor enters it
abbrev pub SawUntouched : ThreadView → ℕ → ℕ → Type 0
SawUntouched k o u = (v : ℕ) × Saw k (Waiting u) v × (waits_on v o ≡ false) × (says_notified v o ≡ false) × (enters_on v o ≡ false)

-- The d-th position after that of the claim word is filled: it lies before that of the end word. Both words count modulo 2 ^ 64.
abbrev pub IsFilled : World → ℕ → Type 0
IsFilled w d = (n : ℕ) × (n ≤ monitor_count w.shape) × (w.words End ≡ (w.words Claim + n) % 2 ^ 64) × (d < n)

-- The monitor m, which thread t is about to keep, is one that the heap has and nobody else's.
pub record IsOnlyFor (w : World) (t m : ℕ) : Type 0 where
  pub there : m < monitor_count w.shape
  -- no mark names it, and no thread keeps it
  pub unnamed : (o : ℕ) → monitor_in (w.words (Mark o)) ≢ Some m
  pub unkept : (u : ℕ) → (w.known u).kept ≢ Some m
  -- no other thread has claimed a position of its place, and none gives it back
  pub unclaimed : (u q : ℕ) → u ≢ t → (w.known u).moving ≡ Fetches q → w.words (Ring (q % ring_places w.shape)) ≢ m
  pub unreturned : (u : ℕ) → (w.known u).moving ≢ Returns m
  -- and it stands at no filled position, so that no later claim gives it too: the one that t has claimed is filled no more
  pub unringed : (d : ℕ) → IsFilled w d → w.words (Ring ((w.words Claim + d) % ring_places w.shape)) ≢ m

-- Storing its header as the mark of o: the monitor m is idle by what the thread saw at its safepoint, and it gives back no other.
pub record MayDetach (s : Shape) (k : ThreadView) (e : CallContext) (o m header : ℕ) : Type 0 where
  pub stands : StandsAtSafepoint k e
  pub still : k.moving ≡ Still
  pub object : o < length s.objects
  pub inflated : (v : ℕ) × Saw k (Mark o) v × (monitor_in v ≡ Some m)
  pub owner : Saw k (Owner m) (owner_of Free)
  pub its_header : Saw k (Header m) header
  pub untouched : (u : ℕ) → u < s.threads → SawUntouched k o u

-- Clearing a word of the monitor that it gives back.
pub record MayClean (k : ThreadView) (e : CallContext) (m : ℕ) : Type 0 where
  pub stands : StandsAtSafepoint k e
  pub returns : k.moving ≡ Returns m

-- Storing the monitor at the place of the end position, which it saw.
pub record MayEnqueue (k : ThreadView) (e : CallContext) (m end : ℕ) : Type 0 where
  pub stands : StandsAtSafepoint k e
  pub returns : k.moving ≡ Returns m
  pub at_end : Saw k End end

-- Moving the end past that position: it stored the monitor there.
pub record MayAdvance (s : Shape) (k : ThreadView) (e : CallContext) (m end : ℕ) : Type 0 where
  pub stands : StandsAtSafepoint k e
  pub returns : k.moving ≡ Returns m
  pub at_end : Saw k End end
  pub stored : Saw k (Ring (end % ring_places s)) m
