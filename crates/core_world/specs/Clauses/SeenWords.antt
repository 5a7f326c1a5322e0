-- What a thread has seen in the middle of a call is still there, where no other thread may change it meanwhile.
use Rattle.std.specs.Prelude.{◌≡◌, ◌≢◌, ◌⊎◌, ℕ, ◌||◌, Bool, true, false, List, [], Option, Some, None}
use Rattle.mark_word.specs.declared.mark.MarkForm.{MarkForm}
use Rattle.mark_word.specs.declared.mark.MarkForm.TheVariants.{Biased}
use Rattle.mark_word.specs.Mark.{read_mark}
use Rattle.core_world.specs.declared.word_id.WordId.{WordId}
use Rattle.core_world.specs.declared.word_id.WordId.TheVariants.{Safepoint, Prototype, Revocations, LastBulk, Mark, Stamp, Slot, Hold, Displaced}
use Rattle.core_world.specs.declared.word_id.WordId.TheVariants.{Waiting, Length, Owner, Recursions, Header, Object, Claim, End, Ring, Class}
use Rattle.core_world.specs.Words.Names.{its_monitor, has_class}
use Rattle.core_world.specs.Words.Forms.{epoch_in, is_biased, monitor_in, waits_on, says_notified}
use Rattle.core_world.specs.Threads.Stages.{Inflation, inflation_in, bears, revocation_in}
use Rattle.core_world.specs.Threads.ThreadView.{ThreadView, StepMade, last_seen}
use Rattle.core_world.specs.World.{World}
use Rattle.core_world.specs.RevocationRules.{FoundAfter, words_after, writes_in}
use Rattle.core_world.specs.Locks.{has_epoch, marks, prototype_of}

-- the mark is validly biased to a thread, by this prototype
abbrev pub IsValidBias : Option MarkForm → ℕ → Type 0
IsValidBias (Some (Biased thread epoch age)) prototype = has_epoch (epoch_in prototype) epoch ≡ true
IsValidBias _ prototype = ⊥

-- the thread is in the middle of an inflation, and P holds of it
abbrev pub InMiddleOf : ThreadView → (Inflation → Type 0) → Type 0
InMiddleOf k P = (i : Inflation) × (inflation_in k.stage ≡ Some i) × P i

-- m is the monitor of an object of which thread t is the plain owner, or whose lock it has without an entry that says so
abbrev pub IsOwnMonitor : World → ThreadView → (ℕ → ℕ → Bool) → ℕ → ℕ → Type 0
IsOwnMonitor w k owner t m = (o : ℕ) × (monitor_in (marks w o) ≡ Some m) × ((owner o t || bears k.stage o) ≡ true)

-- a word that stays while thread t runs, which knows k, where its call last saw v there. The plain owners are `owner`
abbrev pub StaysWhileRunning : World → ThreadView → (ℕ → ℕ → Bool) → ℕ → WordId → ℕ → Type 0
StaysWhileRunning w k owner t Safepoint v = ⊥
StaysWhileRunning w k owner t (Prototype c) v = Unit {0}
StaysWhileRunning w k owner t (Revocations c) v = Unit {0}
StaysWhileRunning w k owner t (LastBulk c) v = Unit {0}
StaysWhileRunning w k owner t (Mark o) v =
    IsValidBias (read_mark v) (prototype_of w o) ⊎ ((m : ℕ) × (monitor_in v ≡ Some m))
    ⊎ InMiddleOf k (λ i. i.object ≡ o)
    ⊎ ((is_biased v ≡ true) × (owner o t ≡ true))
StaysWhileRunning w k owner t (Stamp o) v = owner o t ≡ true
StaysWhileRunning w k owner t (Slot o s) v = owner o t ≡ true
StaysWhileRunning w k owner t (Hold u p) v = u ≡ t
StaysWhileRunning w k owner t (Displaced u p) v = (u ≡ t) ⊎ InMiddleOf k (λ i. (i.thread ≡ u) × (i.place ≡ p))
StaysWhileRunning w k owner t (Waiting u) v =
    ((o : ℕ) × (owner o t ≡ true) × (waits_on v o ≡ true)) ⊎ ((u ≡ t) × ((o : ℕ) × (says_notified v o ≡ true)))
StaysWhileRunning w k owner t (Length u) v = ⊥
StaysWhileRunning w k owner t (Owner m) v = (k.kept ≡ Some m) ⊎ IsOwnMonitor w k owner t m
StaysWhileRunning w k owner t (Recursions m) v = (k.kept ≡ Some m) ⊎ IsOwnMonitor w k owner t m
StaysWhileRunning w k owner t (Header m) v = k.kept ≡ Some m
StaysWhileRunning w k owner t (Object m) v = k.kept ≡ Some m
StaysWhileRunning w k owner t Claim v = ⊥
StaysWhileRunning w k owner t End v = ⊥
StaysWhileRunning w k owner t (Ring p) v = ⊥
StaysWhileRunning w k owner t (Class o) v = v ≢ 0

-- a word that stays while a thread's request stands
abbrev pub StaysWhileAsking : World → WordId → ℕ → Type 0
StaysWhileAsking w (Prototype c) v = Unit {0}
StaysWhileAsking w (Revocations c) v = Unit {0}
StaysWhileAsking w (LastBulk c) v = Unit {0}
StaysWhileAsking w (Class o) v = v ≢ 0
StaysWhileAsking w (Mark o) v = IsValidBias (read_mark v) (prototype_of w o)
StaysWhileAsking w _ v = ⊥

abbrev pub Stays : World → ThreadView → (ℕ → ℕ → Bool) → ℕ → WordId → ℕ → Type 0
Stays w k owner t n v =
    ((k.running ≡ true) × StaysWhileRunning w k owner t n v)
    ⊎ ((k.requesting ≡ true) × (revocation_in k.stage ≡ None) × StaysWhileAsking w n v)

-- the thread keeps the monitor, or a mark names it
abbrev pub IsKeptOrNamed : World → ThreadView → ℕ → Type 0
IsKeptOrNamed w k m = (k.kept ≡ Some m) ⊎ ((o : ℕ) × (monitor_in (marks w o) ≡ Some m))

-- a step of these was on a word of m
abbrev pub HasMet : List StepMade → ℕ → ℕ → Type 0
HasMet steps m v = (n : WordId) × (its_monitor n ≡ Some m) × (last_seen n steps ≡ Some v)

-- from some words on, these steps alone made the words what they are, and each found what those before it left
pub record AreTheSteps (words : WordId → ℕ) (steps : List StepMade) : Type 0 where
  pub before : WordId → ℕ
  pub found : FoundAfter before steps
  pub same : words ≡ words_after (writes_in steps) before

pub record SeenStays (w : World) (owner : ℕ → ℕ → Bool) (waits : ℕ → List (ℕ × ℕ)) : Type 0 where
  pub stays : (t : ℕ) (n : WordId) (v : ℕ) → last_seen n (w.known t).seen ≡ Some v
      → Stays w (w.known t) owner t n v → w.words n ≡ v
  -- a mark that had no bias pattern has none
  pub unbiased : (t o v : ℕ) → last_seen (Mark o) (w.known t).seen ≡ Some v → ((w.known t).running ≡ true)
      ⊎ ((w.known t).requesting ≡ true)
      → is_biased v ≡ false → is_biased (marks w o) ≡ false
  -- an object whose mark has the bias pattern, or had it when a thread saw it, is there
  pub classed : (o : ℕ) → is_biased (marks w o) ≡ true → has_class w.shape w.words o ≡ true
  pub saw_classed : (t o v : ℕ) → last_seen (Mark o) (w.known t).seen ≡ Some v → ((w.known t).running ≡ true)
      ⊎ ((w.known t).requesting ≡ true)
      → is_biased v ≡ true → has_class w.shape w.words o ≡ true
  -- nobody came to wait on an object of which the thread is the owner
  pub unwaiting : (t u o v : ℕ) → last_seen (Waiting u) (w.known t).seen ≡ Some v → (w.known t).running ≡ true
      → owner o t ≡ true
      → waits_on v o ≡ false → waits_on (w.words (Waiting u)) o ≡ false
  -- nobody waits on an object of which the thread is the owner, where it saw a mark that named no monitor
  pub unwaited : (t o v : ℕ) → last_seen (Mark o) (w.known t).seen ≡ Some v → (w.known t).running ≡ true
      → owner o t ≡ true → monitor_in v ≡ None → waits o ≡ []
  -- at its reached safepoint each word is as the thread saw it since
  pub stands : (t : ℕ) (n : WordId) (v : ℕ) → (w.known t).reached ≡ true
      → last_seen n (w.known t).seen_at_safepoint ≡ Some v → w.words n ≡ v
  -- and nobody else has stored anything since; while it revokes a bias, more is known of its stores
  pub alone : (t : ℕ) → (w.known t).reached ≡ true → revocation_in (w.known t).stage ≡ None
      → AreTheSteps w.words (w.known t).seen_at_safepoint
  -- a running thread has seen words only of such monitors as it keeps or a mark names
  pub monitors : (t m v : ℕ) → (w.known t).running ≡ true → HasMet (w.known t).seen m v → IsKeptOrNamed w (w.known t) m
