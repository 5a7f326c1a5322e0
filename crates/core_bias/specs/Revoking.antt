-- A revocation as a whole, and what a thread knows when it makes its stores and the step that ends it.
use Rattle.std.specs.Prelude.{◌≡◌, ℕ, ◌<◌, ◌++◌, Bool, true, false, List, [], ◌∷◌, Some}
use Rattle.mark_word.specs.Mark.{read_mark}
use Rattle.lock_policy.specs.declared.policy.Verdict.{Verdict}
use Rattle.lock_policy.specs.Policy.{decided, is_reset}
use Rattle.core_world.specs.declared.word_id.WordId.{WordId}
use Rattle.core_world.specs.declared.word_id.WordId.TheVariants.{Safepoint, Mark, Prototype, Revocations, LastBulk, Class}
use Rattle.core_world.specs.declared.stage.Stage.TheVariants.{Settled}
use Rattle.core_world.specs.declared.heap_call.Operation.{Operation}
use Rattle.core_world.specs.Threads.Counts.{with_verdict_counted}
use Rattle.core_world.specs.Words.Forms.{epoch_in, is_biased}
use Rattle.core_world.specs.Threads.ThreadView.{Still, ThreadView, StepMade, last_seen}
use Rattle.core_world.specs.Threads.References.{HasReference}
use Rattle.core_world.specs.Locks.{is_valid_bias}
use Rattle.core_world.specs.Trees.Plans.{CallContext}
use Rattle.core_world.specs.Trees.SafepointSteps.{reached_word}
use Rattle.core_world.specs.RevocationRules.{Write, write, words_after, revocation_writes, writes_in, FoundAfter}
use Rattle.core_world.specs.Words.Shape.{Shape}
use Rattle.core_world.specs.Words.Names.{class_by}
use Rattle.core_world.specs.Threads.AtRest.{SawClass}
use Rattle.core_world.specs.Threads.Stages.{Revocation, revocation_in}
use Rattle.core_world.specs.Valid.{RevokesWithin}
use Rattle.core_world.specs.Trees.StepTree.{StepTree, step}
use Rattle.core_world.specs.World.{World, with_known}
use Rattle.core_locks.specs.Knowing.{IsBiasTo}

-- THE WHOLE. What the clauses read of a thread's knowledge is the same, but for what it has seen and counted.
pub record SameButForStores (k l : ThreadView) : Type 0 where
  pub thread : k.thread ≡ l.thread
  pub log : k.log ≡ l.log
  pub running : k.running ≡ l.running
  pub requesting : k.requesting ≡ l.requesting
  pub reached : k.reached ≡ l.reached
  pub halted : k.halted ≡ l.halted
  pub kept : k.kept ≡ l.kept
  pub moving : k.moving ≡ l.moving
  pub saved : k.saved ≡ l.saved
  pub holds : k.holds ≡ l.holds
  pub wait : k.wait ≡ l.wait
  pub published : k.published ≡ l.published
  pub draws : k.draws ≡ l.draws
  pub shots : k.shots ≡ l.shots
  pub stage : k.stage ≡ l.stage
  pub unfinished : k.unfinished ≡ l.unfinished

-- the world after all stores of thread r's revocation, where it knows l
abbrev pub revoked_world : World → ℕ → Revocation → ThreadView → World
revoked_world w r b l =
    record {
      shape = w.shape;
      start = w.start;
      biasing = w.biasing;
      words = words_after (revocation_writes w.shape r b w.words) w.words;
      known = with_known r l w.known;
    }

-- what it knows then: what it knew, and the verdict
pub record HasCounted (w : World) (r : ℕ) (b : Revocation) (l : ThreadView) : Type 0 where
  pub calm : (w.known r).stage ≡ Settled
  pub same : SameButForStores (w.known r) l
  pub counts : let c = class_by w.shape w.words b.object in
      l.counts ≡ with_verdict_counted (w.known r).counts c
      (decided (w.words (Revocations c)) (w.words (LastBulk c)) b.now).0
      (is_reset (w.words (Revocations c)) (w.words (LastBulk c)) b.now)

-- by these words the mark of o is validly biased to a thread
abbrev pub IsBiasedToOne : Shape → (WordId → ℕ) → ℕ → Type 0
IsBiasedToOne s f o = is_valid_bias (read_mark (f (Mark o))) (f (Prototype (class_by s f o))) ≡ true

-- THE STORES. By whatever words the thread can have found since its safepoint was reached, in which the object was validly biased to a thread: its stores
-- since then and this one are the first that the rules list; and its stores are all of them.
abbrev pub IsNextStore : Shape → ℕ → Revocation → List StepMade → WordId → ℕ → Type 0
IsNextStore s r b stood at word =
    (f : WordId → ℕ) → IsBiasedToOne s f b.object → FoundAfter f stood → (rest : List Write)
    × (writes_in stood ++ write at word ∷ rest ≡ revocation_writes s r b f)

abbrev pub AreAllStores : Shape → ℕ → Revocation → List StepMade → Type 0
AreAllStores s r b stood =
    (f : WordId → ℕ) → IsBiasedToOne s f b.object → FoundAfter f stood
    → writes_in stood ≡ revocation_writes s r b f

-- What the thread knows of the next store.
pub record MayStore (s : Shape) (k : ThreadView) (e : CallContext) (r : ℕ) (b : Revocation) (at : WordId) (word : ℕ) : Type 0 where
  pub next : IsNextStore s r b k.seen_at_safepoint at word
  pub goes_on : e.unfinished ≡ k.unfinished
  pub check : e.check ≡ k.checking

-- The first store. The thread has stored nothing at its safepoint, and has seen there the object's class, and that its mark is validly biased to a
-- thread; it counts the verdict that the policy gives by the class's words as it saw them there.
pub record MayBeginRevoking (s : Shape) (k : ThreadView) (e : CallContext) (r : ℕ) (b : Revocation) (class : ℕ)
    (verdict : Verdict) (reset : Bool) (at : WordId) (word : ℕ) : Type 0 where
  pub reached : k.reached ≡ true
  pub calm : k.stage ≡ Settled
  pub operation : Operation
  pub unfinished : k.unfinished ≡ Some (record { op = operation; object = b.object })
  pub allowed : RevokesWithin operation b.rebias
  pub object : HasReference s k b.object
  pub unwritten : writes_in k.seen_at_safepoint ≡ []
  pub saw_class : SawClass s k.seen_at_safepoint b.object class
  pub biased : (mark prototype : ℕ) × (last_seen (Mark b.object) k.seen_at_safepoint ≡ Some mark)
      × (last_seen (Prototype class) k.seen_at_safepoint ≡ Some prototype)
      × (is_valid_bias (read_mark mark) prototype ≡ true)
  pub decides : (count last : ℕ)
      × (last_seen (Revocations class) k.seen_at_safepoint ≡ Some count)
      × (last_seen (LastBulk class) k.seen_at_safepoint ≡ Some last)
      × (verdict ≡ (decided count last b.now).0) × (reset ≡ is_reset count last b.now)
  pub store : MayStore s k e r b at word

-- Each other store.
pub record MayGoOnRevoking (s : Shape) (k : ThreadView) (e : CallContext) (r : ℕ) (b : Revocation) (at : WordId)
    (word : ℕ) : Type 0 where
  pub reached : k.reached ≡ true
  pub its_revocation : revocation_in k.stage ≡ Some b
  pub store : MayStore s k e r b at word

-- THE STEPS SO FAR lead from one tree to another, the newest step first.
abbrev pub Leads : {A : Type 0} → StepTree A → List StepMade → StepTree A → Type 0
Leads {A} T [] U = T ≡ U
Leads {A} T (m ∷ ms) U = (g : ℕ → StepTree A) × Leads T ms (step m.plan g) × (U ≡ g m.found)

-- THE END, by a step after which the thread stands at the revocation no more: its stores are all that the rules list.
pub record MayEndRevoking (s : Shape) (k : ThreadView) (e : CallContext) (r : ℕ) (b : Revocation) : Type 0 where
  pub reached : k.reached ≡ true
  pub its_revocation : revocation_in k.stage ≡ Some b
  pub still : k.moving ≡ Still
  pub all : AreAllStores s r b k.seen_at_safepoint
  pub goes_on : e.unfinished ≡ k.unfinished

-- what the answer of a revocation tells of its object's mark: it is validly biased to the thread t then, or has the bias pattern no more
abbrev pub TellsBias : ℕ → ℕ → ℕ → Bool → (WordId → ℕ) → Type 0
TellsBias t o c true f = IsBiasTo t (read_mark (f (Mark o))) (epoch_in (f (Prototype c)))
TellsBias t o c false f = is_biased (f (Mark o)) ≡ false

-- the marks, the words of classes and the class words of objects: those that stay while a request stands
abbrev pub is_kept_on_request : WordId → Bool
is_kept_on_request (Mark o) = true
is_kept_on_request (Prototype c) = true
is_kept_on_request (Revocations c) = true
is_kept_on_request (LastBulk c) = true
is_kept_on_request (Class o) = true
is_kept_on_request _ = false

-- A load at the safepoint, which is still reached then. What the thread has seen of marks, words of classes and class words since the call that made the
-- request, it has seen or stored since the safepoint was reached: what it saw there before may be another word by now.
pub record MayLookAfterRevoking (s : Shape) (k : ThreadView) (e : CallContext) (r : ℕ) (b : Revocation) : Type 0 where
  pub ends : MayEndRevoking s k e r b
  pub check : e.check ≡ k.checking
  pub since : (n : WordId) (v : ℕ) → is_kept_on_request n ≡ true → last_seen n k.seen ≡ Some v
      → last_seen n k.seen_at_safepoint ≡ Some v

-- Thread r stands before the release of its safepoint.
pub record IsReleasing (w : World) (r : ℕ) : Type 0 where
  pub safe : w.words Safepoint ≡ reached_word r
  pub thread : (w.known r).thread ≡ r
  pub few : r < 32
