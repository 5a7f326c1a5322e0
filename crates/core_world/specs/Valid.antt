-- Which worlds are valid: every clause holds, or the thread whose safepoint is reached is in the middle of revoking a bias.
use Rattle.std.specs.Prelude.{◌≡◌, ◌≢◌, ◌⊎◌, ℕ, ◌<◌, ◌≤◌, Bool, true, false, List, [], ◌++◌, length, Some}
use Rattle.mark_word.specs.Mark.{read_mark}
use Rattle.lock_policy.specs.Policy.{decided, is_reset}
use Rattle.plain_monitor.specs.Objects.{PlainObject}
use Rattle.plain_monitor.specs.History.{LegalObjects, objects_after}
use Rattle.core_world.specs.declared.word_id.WordId.TheVariants.{Safepoint, Prototype, Revocations, LastBulk, Mark, Stamp, Slot, Hold}
use Rattle.core_world.specs.declared.word_id.WordId.TheVariants.{Waiting, Length, Recursions, Object, Claim, End, Ring, Class}
use Rattle.core_world.specs.declared.stage.Stage.TheVariants.{Settled}
use Rattle.core_world.specs.declared.heap_call.Operation.{Operation}
use Rattle.core_world.specs.declared.heap_call.Operation.TheVariants as op
use Rattle.core_world.specs.Words.Shape.{IsInLimits, monitor_count, ring_bits}
use Rattle.core_world.specs.Words.Names.{class_by}
use Rattle.core_world.specs.Words.Forms.{is_halted}
use Rattle.core_world.specs.Threads.Stages.{Revocation, hold_words_ahead, inflation_in, revocation_in}
use Rattle.core_world.specs.Threads.Counts.{with_verdict_counted}
use Rattle.core_world.specs.Threads.ThreadView.{ThreadView}
use Rattle.core_world.specs.World.{World, logs}
use Rattle.core_world.specs.Locks.{is_valid_bias, marks, inflated_to, displaced_words, headers, owner_words, inflations, lock, header}
use Rattle.core_world.specs.Locks.{who, object_of, monitor_of, holds_by_monitor, owner_at, hash_at, waits_at, notified_at}
use Rattle.core_world.specs.Opening.{first_known}
use Rattle.core_world.specs.Clauses.SeenWords.{SeenStays}
use Rattle.core_world.specs.Clauses.WordForms.{WordsHaveForms}
use Rattle.core_world.specs.Clauses.Safepoints.{SafepointIsKnown, StoppedAreQuiet, ends}
use Rattle.core_world.specs.Clauses.Holds.{HoldsFitLogs}
use Rattle.core_world.specs.Clauses.Owners.{LocksArePlain}
use Rattle.core_world.specs.Clauses.Biases.{BiasedAreFree}
use Rattle.core_world.specs.Clauses.Records.{RecordsRest}
use Rattle.core_world.specs.Clauses.Inflations.{InflationsAreOne}
use Rattle.core_world.specs.Clauses.Monitors.{MonitorsAreNamed}
use Rattle.core_world.specs.Clauses.Recursions.{RecursionsFit}
use Rattle.core_world.specs.Clauses.Hashes.{HashesFit}
use Rattle.core_world.specs.Clauses.Draws.{DrawsFit}
use Rattle.core_world.specs.Clauses.Slots.{SlotsFit}
use Rattle.core_world.specs.Clauses.Waits.{WaitsFit}
use Rattle.core_world.specs.Clauses.Stamps.{StampsFit}
use Rattle.core_world.specs.Clauses.Lengths.{LengthsFit}
use Rattle.core_world.specs.Clauses.Claims.{MonitorsAreClaimed, MovesFit}
use Rattle.core_world.specs.Clauses.Classes.{ClassesFit, bulk_rebiases, bulk_revokes}
use Rattle.core_world.specs.Shots.{ShotsFit}
use Rattle.core_world.specs.RevocationRules.{Write, FoundAfter, revocation_writes, words_after, writes_in}

-- the three clauses that speak of a world's words as they are, whatever is under way
abbrev pub SeenFit : World → List PlainObject → Type 0
SeenFit w objects = SeenStays w (owner_at objects) (waits_at objects)

abbrev pub FormsFit : World → Type 0
FormsFit w =
    WordsHaveForms w.shape (marks w) (owner_words w) (λ t. w.words (Waiting t)) (λ m. w.words (Object m))
    (λ o. w.words (Class o)) (λ t p. w.words (Hold t p)) (w.words Safepoint)

abbrev pub SafepointFits : World → List PlainObject → Type 0
SafepointFits w objects =
    SafepointIsKnown w.shape.threads (w.words Safepoint) (λ t. (w.known t).running)
    (λ t. (w.known t).requesting) (λ t. (w.known t).reached)
    (λ t. (w.known t).halted) (λ t. ends (w.known t).log) (λ t. (w.known t).unfinished) (monitor_of objects)

-- every clause holds, and these are the plain objects after the logs
pub record Fits (w : World) (objects : List PlainObject) : Type 0 where
  pub limits : IsInLimits w.shape
  pub legal : LegalObjects w.shape.objects (logs w)
  pub taken : objects_after w.shape.objects (logs w) ≡ Some objects
  pub sized : length objects ≡ length w.shape.objects
  -- a thread knows its number, and one that the heap lacks has made no step
  pub numbered : (t : ℕ) → (w.known t).thread ≡ t
  pub absent : (t : ℕ) → w.shape.threads ≤ t → w.known t ≡ first_known t
  pub seen : SeenFit w objects
  pub forms : FormsFit w
  pub safe : SafepointFits w objects
  pub quiet : StoppedAreQuiet (λ t. (w.known t).running) (λ t. (w.known t).reached) (λ t. (w.known t).stage)
  pub holds : HoldsFitLogs (λ t p. w.words (Hold t p)) (λ t. (w.known t).holds)
      (λ t o. hold_words_ahead (w.known t).stage o) (λ o t. holds_by_monitor (monitor_of objects o) t)
  pub owners : LocksArePlain (who w) (λ t. (w.known t).stage) (owner_at objects)
  pub biases : BiasedAreFree (marks w) (lock w) (λ t. (w.known t).holds) (hash_at objects) (waits_at objects)
      (notified_at objects)
  pub records : RecordsRest (lock w) (λ t. (w.known t).holds) (λ t. (w.known t).stage) (displaced_words w)
  pub inflating : InflationsAreOne (marks w) (λ t. inflation_in (w.known t).stage) (inflations w)
  pub monitors : MonitorsAreNamed (inflated_to w) (λ m. w.words (Object m)) (headers w)
  pub recursions : RecursionsFit (marks w) (λ m. w.words (Recursions m)) (lock w) (λ t. (w.known t).holds)
      (λ t. (w.known t).stage) (λ t. (w.known t).saved) (displaced_words w) (waits_at objects)
      (notified_at objects)
  pub hashes : HashesFit (marks w) (lock w) (header w) (λ t. (w.known t).holds) (displaced_words w) (hash_at objects)
  pub draws : DrawsFit w.start (logs w) (λ t. (w.known t).log) (λ t. (w.known t).draws) (hash_at objects)
  pub slots : SlotsFit w.shape (λ o i. w.words (Slot o i)) (λ o. (object_of objects o).slots)
  pub waits : WaitsFit (inflated_to w) (λ t. w.words (Waiting t)) (λ t. (w.known t).wait)
      (λ t. (w.known t).log) (λ t. (w.known t).stage) (λ t. (w.known t).unfinished) (λ t. (w.known t).running)
      (waits_at objects) (notified_at objects)
  pub stamps : StampsFit (logs w) (λ t. (w.known t).log) (λ o. w.words (Stamp o))
      (λ o. (monitor_of objects o).owner) (λ t. (w.known t).unfinished)
  pub lengths : LengthsFit (λ t. w.words (Length t)) (λ t. (w.known t).published) (λ t. (w.known t).log)
      (λ t. (w.known t).running) (λ t. (w.known t).requesting) (is_halted (w.words Safepoint))
  pub claims : MonitorsAreClaimed w.shape.threads (length w.shape.objects) (monitor_count w.shape) (ring_bits w.shape)
      (w.words Claim) (w.words End) (λ p. w.words (Ring p)) (inflated_to w) (λ t. (w.known t).kept)
      (λ t. (w.known t).moving)
  pub moves : MovesFit (λ t. (w.known t).running) (λ t. (w.known t).reached) (λ t. (w.known t).moving)
  pub classes : ClassesFit w.biasing (λ c. w.words (Prototype c)) (λ c. w.words (Revocations c))
      (λ c. w.words (LastBulk c)) (marks w) (bulk_rebiases w.shape.threads (λ t. (w.known t).counts))
      (bulk_revokes w.shape.threads (λ t. (w.known t).counts))
  pub shots : ShotsFit w.shape.objects (logs w) (λ t. (w.known t).log) (λ t. (w.known t).shots)
      (λ t. (w.known t).unfinished)

-- a new bias is allowed in an enter alone; an exit and a dump revoke none
abbrev pub RevokesWithin : Operation → Bool → Type 0
RevokesWithin op.Enter rebias = rebias ≡ true
RevokesWithin op.Exit rebias = ⊥
RevokesWithin op.Dump rebias = ⊥
RevokesWithin _ rebias = rebias ≡ false

-- the requester knows what it knew before its first store, but for its stage, its call and its steps, and the verdict that it has counted
abbrev pub requester_known : World → ℕ → Revocation → ThreadView → ThreadView
requester_known before t b k =
    let c = class_by before.shape before.words b.object in
    let count = before.words (Revocations c) in
    let last = before.words (LastBulk c) in
    record (before.known t) {
      counts = with_verdict_counted (before.known t).counts c (decided count last b.now).0 (is_reset count last b.now);
      stage = k.stage;
      seen = k.seen;
      seen_at_safepoint = k.seen_at_safepoint;
      steps = k.steps;
      call = k.call;
    }

-- The thread whose safepoint is reached is revoking a bias, and has made some of the stores. All clauses hold of the world before its first
-- store, and three of them of the world as it is. Nobody runs meanwhile, and no other thread changes a word or a log.
pub record IsRevoking (w : World) (objects : List PlainObject) : Type 0 where
  pub before : World
  pub fits : Fits before objects
  pub shape : w.shape ≡ before.shape
  pub start : w.start ≡ before.start
  pub biasing : w.biasing ≡ before.biasing
  pub requester : ℕ
  pub reached : (before.known requester).reached ≡ true
  -- where it stood in the middle of nothing
  pub was_calm : (before.known requester).stage ≡ Settled
  -- the operation that it works for
  pub revocation : Revocation
  pub its_revocation : revocation_in (w.known requester).stage ≡ Some revocation
  pub operation : Operation
  pub unfinished : (before.known requester).unfinished ≡ Some (record { op = operation; object = revocation.object })
  pub allowed : RevokesWithin operation revocation.rebias
  -- its object, which was validly biased to a thread before the first store
  pub object : revocation.object < length before.shape.objects
  pub biased : is_valid_bias (read_mark (before.words (Mark revocation.object)))
      (before.words (Prototype (class_by before.shape before.words revocation.object))) ≡ true
  -- its stores so far are the first of those that the rules list, and the words are those after them
  pub rest : List Write
  pub writes : writes_in (w.known requester).seen_at_safepoint ++ rest
      ≡ revocation_writes before.shape requester revocation before.words
  pub begun : writes_in (w.known requester).seen_at_safepoint ≢ []
  pub words : w.words ≡ words_after (writes_in (w.known requester).seen_at_safepoint) before.words
  -- what its steps since its safepoint was reached found is what was there before, but for its stores
  pub found : FoundAfter before.words (w.known requester).seen_at_safepoint
  -- the safepoint word is none of them
  pub untouched : w.words Safepoint ≡ before.words Safepoint
  pub knows : w.known requester ≡ requester_known before requester revocation (w.known requester)
  pub others : (t : ℕ) → t ≢ requester → w.known t ≡ before.known t
  -- the three
  pub seen : SeenFit w objects
  pub forms : FormsFit w
  pub safe : SafepointFits w objects

-- a bias is being revoked, and this was the world before the first store
abbrev pub RevokesSince : World → List PlainObject → World → Type 0
RevokesSince w objects before = (s : IsRevoking w objects) × (s.before ≡ before)

-- the world is valid, and these are the plain objects after its logs
abbrev pub IsValid : World → List PlainObject → Type 0
IsValid w objects = Fits w objects ⊎ IsRevoking w objects

pub record Valid (w : World) : Type 0 where
  pub objects : List PlainObject
  pub is : IsValid w objects

-- The world is valid, and one more clause holds: of the world as it is or, during a revocation, of the world before its first store.
abbrev pub IsValidWith : (World → Type 0) → World → List PlainObject → Type 0
IsValidWith clause w objects = (Fits w objects × clause w) ⊎ ((s : IsRevoking w objects) × clause s.before)

pub record ValidWith (clause : World → Type 0) (w : World) : Type 0 where
  pub objects : List PlainObject
  pub is : IsValidWith clause w objects
