-- Where the monitors are when all threads of a heap rest: each is named by one mark, kept by one thread, or at one ring
-- position.
use Rattle.std.specs.Prelude.{◌≡◌, ◌≢◌, ◌⊎◌, ℕ, ◌+◌, ◌%◌, ◌^◌, ◌<◌, ◌≤◌, false, List, length, slice_index, slice_get, Option, Some, None}
use Rattle.core_world.specs.declared.word_id.WordId.{WordId}
use Rattle.core_world.specs.declared.word_id.WordId.TheVariants.{Mark, Object, Claim, End, Ring, Waiting}
use Rattle.core_world.specs.Clauses.Claims.{count_with_monitor}
use Rattle.core_world.specs.Threads.ThreadView.{ThreadView}
use Rattle.core_world.specs.Trees.DeflateSteps.{is_untouched}
use Rattle.core_world.specs.Words.Forms.{monitor_in}
use Rattle.core_world.specs.Words.Shape.{Shape, monitor_count, ring_places}
use Rattle.heap_table.specs.Layout.{place_of}

abbrev pub word_at : Shape → List ℕ → WordId → ℕ
word_at s words n = slice_index words (place_of s n)

-- the monitor that the mark of o names
abbrev pub named_by : Shape → List ℕ → ℕ → Option ℕ
named_by s words o = monitor_in (word_at s words (Mark o))

-- the one that a thread keeps, by what it knows; and thread t, by what the threads know
abbrev pub kept_in : Option ThreadView → Option ℕ
kept_in None = None
kept_in (Some k) = k.kept

abbrev pub kept_by : List ThreadView → ℕ → Option ℕ
kept_by ks t = kept_in (slice_get ks t)

-- the one at ring position p, as positions are counted without end
abbrev pub ringed_at : Shape → List ℕ → ℕ → ℕ
ringed_at s words p = word_at s words (Ring (p % ring_places s))

abbrev pub IsNamed : Shape → List ℕ → ℕ → ℕ → Type 0
IsNamed s words o m = (o < length s.objects) × (named_by s words o ≡ Some m)

abbrev pub IsNamedNowhere : Shape → List ℕ → ℕ → Type 0
IsNamedNowhere s words m = (o : ℕ) → IsNamed s words o m → ⊥

pub record MonitorsAreApart (s : Shape) (words : List ℕ) (ks : List ThreadView) : Type 0 where
  -- from the first on, monitors stand at so many ring positions; the words count modulo 2 ^ 64
  pub first : ℕ
  pub ringed : ℕ
  pub claim_word : word_at s words Claim ≡ first % 2 ^ 64
  pub end_word : word_at s words End ≡ (first + ringed) % 2 ^ 64
  -- a mark names a monitor that the heap has and that has its object; no other mark names it
  pub named : (o m : ℕ) → IsNamed s words o m
      → (m < monitor_count s) × (word_at s words (Object m) ≡ o) × ((i : ℕ) → IsNamed s words i m → i ≡ o)
  -- a thread keeps one that the heap has; no mark names it, and no other thread keeps it
  pub kept : (t m : ℕ) → kept_by ks t ≡ Some m
      → (m < monitor_count s) × IsNamedNowhere s words m × ((u : ℕ) → kept_by ks u ≡ Some m → u ≡ t)
  -- at each of these positions stands one that the heap has; no mark names it, no thread keeps it, and it stands at no
  -- other of them
  pub stands : (p : ℕ) → first ≤ p → p < first + ringed
      → (ringed_at s words p < monitor_count s) × IsNamedNowhere s words (ringed_at s words p)
      × ((t : ℕ) → kept_by ks t ≢ Some (ringed_at s words p))
      × ((q : ℕ) → first ≤ q → q < first + ringed → ringed_at s words q ≡ ringed_at s words p → q ≡ p)
  -- together these are as many as there are monitors, so none is lost: in a heap that has objects, each is one of them
  pub counted : ringed + count_with_monitor s.threads (kept_by ks)
      + count_with_monitor (length s.objects) (named_by s words) ≡ monitor_count s
  pub each : (m : ℕ) → m < monitor_count s → 0 < length s.objects → ((t : ℕ) × (kept_by ks t ≡ Some m))
      ⊎ ((o : ℕ) × IsNamed s words o m)
      ⊎ ((p : ℕ) × (first ≤ p) × (p < first + ringed) × (ringed_at s words p ≡ m))
  -- the object that a thread waits on, was notified from or enters, by its waiting word, has a monitor
  pub in_use : (t o : ℕ) → t < s.threads → is_untouched o (word_at s words (Waiting t)) ≡ false
      → (m : ℕ) × IsNamed s words o m
