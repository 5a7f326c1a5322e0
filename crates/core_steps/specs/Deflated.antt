-- When a deflation may begin; what it leaves of each monitor, by what its thread saw at its safepoint, which is what stands there; and what stands in
-- each valid world.
use Rattle.std.specs.Prelude.{◌≡◌, ◌≢◌, ◌⊎◌, ℕ, ◌+◌, ◌%◌, ◌==◌, ◌||◌, ◌++◌, ◌<◌, Bool, true, false, List, [], ◌∷◌, length, Some, None}
use Rattle.mark_word.specs.declared.owner.OwnerForm.TheVariants.{Free}
use Rattle.mark_word.specs.Owner.{owner_of}
use Rattle.core_world.specs.declared.word_id.WordId.{WordId}
use Rattle.core_world.specs.declared.word_id.WordId.TheVariants.{Mark, Waiting, Owner, Recursions, Header, Object, Claim, Ring}
use Rattle.core_world.specs.declared.plan.LocalEffect.{LocalEffect}
use Rattle.core_world.specs.declared.plan.LocalEffect.TheVariants.{Detach}
use Rattle.core_world.specs.declared.stage.Stage.{Stage}
use Rattle.core_world.specs.RevocationRules.{writes_in}
use Rattle.core_world.specs.Words.Forms.{monitor_in}
use Rattle.core_world.specs.Words.Shape.{Shape, ring_places}
use Rattle.core_world.specs.Threads.ThreadView.{ThreadView, Still, StepMade, last_seen}
use Rattle.core_world.specs.Threads.Stages.{Revocation, revocation_in}
use Rattle.core_world.specs.Trees.BiasSteps.{stage_after}
use Rattle.core_world.specs.Trees.DeflateSteps.{is_untouched}
use Rattle.core_world.specs.Trees.Plans.{CallContext}
use Rattle.core_world.specs.Trees.RevocationSteps.{RevocationOutcome, revoke_at_safepoint_steps}
use Rattle.core_world.specs.Trees.StepTree.{done}
use Rattle.core_world.specs.Locks.{marks}
use Rattle.core_world.specs.World.{World}
use Rattle.core_locks.specs.DeflationLaws.{Saw, IsFilled}
use Rattle.core_bias.specs.Revoking.{Leads, is_kept_on_request}
use Rattle.core_law.specs.Logic.{Heap, SoundWorldWith}

-- WHERE IT BEGINS. All stores of the revocation b are made: the thread's steps since its safepoint was reached, after some that stored nothing, have led
-- to its answer. What the thread saw of marks, words of classes and class words in the calls of the request, it has seen or stored since.
pub record HasRevoked (s : Shape) (k : ThreadView) (e : CallContext) (b : Revocation) (answer : RevocationOutcome) : Type 0 where
  pub its_revocation : revocation_in k.stage ≡ Some b
  pub steps : (ms earlier : List StepMade) × (k.seen_at_safepoint ≡ ms ++ earlier) × (writes_in earlier ≡ [])
      × Leads (revoke_at_safepoint_steps s k.thread e b) ms (done answer)
  pub since : (n : WordId) (v : ℕ) → is_kept_on_request n ≡ true → last_seen n k.seen ≡ Some v → last_seen n k.seen_at_safepoint ≡ Some v

-- A thread whose safepoint is reached, and that has nothing in hand of the ring, may go through the monitors at this stage: it is its own, in which it
-- revokes nothing; or all stores of a revocation are made, and it is where the answer of that leaves it.
pub record MayDeflate (s : Shape) (k : ThreadView) (e : CallContext) (stage : Stage) : Type 0 where
  pub reached : k.reached ≡ true
  pub stopped : k.running ≡ false
  pub still : k.moving ≡ Still
  pub check : e.check ≡ k.checking
  pub goes_on : e.unfinished ≡ k.unfinished
  pub begins : ((revocation_in k.stage ≡ None) × (k.stage ≡ stage))
      ⊎ ((b : Revocation) × (answer : RevocationOutcome) × HasRevoked s k e b answer × (stage_after answer.took b.object ≡ stage))

-- BY WHAT THE THREAD SAW. A step took the monitor m from its object; and one of these steps did.
abbrev pub takes : LocalEffect → ℕ → Bool
takes (Detach monitor) m = monitor == m
takes _ m = false

abbrev pub is_taken_by : List StepMade → ℕ → Bool
is_taken_by [] m = false
is_taken_by (x ∷ xs) m = takes x.plan.own m || is_taken_by xs m

-- at this safepoint the thread took the monitor m from its object
abbrev pub GaveBack : ThreadView → ℕ → Type 0
GaveBack k m = is_taken_by k.seen_at_safepoint m ≡ true

-- the monitor m of o has an owner, or some thread waits on o, was notified from it or enters it
abbrev pub SawInUse : Shape → ThreadView → ℕ → ℕ → Type 0
SawInUse s k o m =
    ((v : ℕ) × Saw k (Owner m) v × (v ≢ owner_of Free))
    ⊎ ((u v : ℕ) × (u < s.threads) × Saw k (Waiting u) v × (is_untouched o v ≡ false))

-- BY THE WORDS of a world
abbrev pub IsInUse : World → ℕ → ℕ → Type 0
IsInUse w o m =
    (w.words (Owner m) ≢ owner_of Free)
    ⊎ ((u : ℕ) × (u < w.shape.threads) × (is_untouched o (w.words (Waiting u)) ≡ false))

-- in each valid world in which the thread knows this, every monitor that a mark names is in use
abbrev pub NamedAreInUse : Heap → ThreadView → Type 0
NamedAreInUse heap k =
    (v : SoundWorldWith heap k) (o m : ℕ) → o < length heap.shape.objects → monitor_in (marks v.world o) ≡ Some m
    → IsInUse v.world o m

-- the words of the monitor m are as they were before it was claimed first
pub record IsClean (w : World) (m : ℕ) : Type 0 where
  pub owner : w.words (Owner m) ≡ owner_of Free
  pub recursions : w.words (Recursions m) ≡ 0
  pub header : w.words (Header m) ≡ 0
  pub object : w.words (Object m) ≡ 0

-- it stands at a filled position of the ring
abbrev pub StandsInRing : World → ℕ → Type 0
StandsInRing w m = (d : ℕ) × IsFilled w d × (w.words (Ring ((w.words Claim + d) % ring_places w.shape)) ≡ m)

-- in each valid world in which the thread knows this, the monitor m is clean and stands in the ring, and no mark names it
abbrev pub IsBack : Heap → ThreadView → ℕ → Type 0
IsBack heap k m =
    (v : SoundWorldWith heap k) → IsClean v.world m × StandsInRing v.world m × ((o : ℕ) → monitor_in (marks v.world o) ≢ Some m)

-- BOTH. The monitor m was given back at this safepoint, and is so still; or it isn't idle: where the mark of the object in its object word names it, it
-- is in use. In no valid world does another mark name it.
abbrev pub IsSettled : Heap → ThreadView → ℕ → Type 0
IsSettled heap k m =
    (GaveBack k m × IsBack heap k m)
    ⊎ ((o v : ℕ) × Saw k (Object m) o × Saw k (Mark o) v × (monitor_in v ≡ Some m → SawInUse heap.shape k o m))

-- so is every monitor that it gave back between k and l
abbrev pub GivenBackAreClean : Heap → ThreadView → ThreadView → Type 0
GivenBackAreClean heap k l = (m : ℕ) → GaveBack l m → (GaveBack k m → ⊥) → IsBack heap l m
