-- When a step keeps the law of biases: what its thread knows, and what the step leaves.
use Rattle.std.specs.Prelude.{◌≡◌, ◌⊎◌, ℕ, ◌<◌, Bool, true, false, List, [], ◌∷◌, ◌++◌, Some, None}
use Rattle.mark_word.specs.Mark.{read_mark}
use Rattle.plain_monitor.specs.declared.entry.Entry.{Entry}
use Rattle.plain_monitor.specs.declared.entry.Entry.TheVariants as entry
use Rattle.plain_monitor.specs.declared.entry.Logged.{Logged}
use Rattle.plain_monitor.specs.declared.entry.Path.{Path}
use Rattle.plain_monitor.specs.declared.entry.Path.TheVariants.{BiasOwn, BiasTaken, StackFirst, StackAgain, MonitorFirst, MonitorAgain}
use Rattle.plain_monitor.specs.Made.{creates}
use Rattle.plain_monitor.specs.Objects.{PlainObject}
use Rattle.plain_history.specs.Appending.{MayAppend}
use Rattle.core_world.specs.declared.word_id.WordId.{WordId}
use Rattle.core_world.specs.declared.word_id.WordId.TheVariants.{Mark, Prototype, Revocations, Class}
use Rattle.core_world.specs.declared.plan.StepPlan.{StepPlan}
use Rattle.core_world.specs.declared.stage.Stage.TheVariants.{Settled, RecordLocked, MonitorAcquired, BiasAcquired, RecursionsRaised}
use Rattle.core_world.specs.declared.heap_call.Operation.TheVariants as op
use Rattle.core_world.specs.Words.Acts.{word_after}
use Rattle.core_world.specs.Threads.Counts.{CountedVerdict}
use Rattle.core_world.specs.Words.Forms.{is_biased, epoch_in}
use Rattle.core_world.specs.Threads.ThreadView.{ThreadView, last_seen}
use Rattle.core_world.specs.Locks.{BiasedTo, is_valid_bias, lock, marks, hold_count}
use Rattle.core_world.specs.Trees.Plans.{CallContext}
use Rattle.core_world.specs.Clauses.Safepoints.{IsUnfinished}
use Rattle.core_world.specs.Words.Shape.{Shape}
use Rattle.core_world.specs.Threads.AtRest.{SawClass}
use Rattle.core_world.specs.Threads.Stages.{path_into}
use Rattle.core_world.specs.Steps.{counts_after, log_after, unfinished_after, world_after}
use Rattle.core_world.specs.Valid.{Fits, IsRevoking}
use Rattle.core_world.specs.World.{World, logs}
use Rattle.core_law.specs.BiasLaw.{BiasLawHolds}
use Rattle.core_locks.specs.Knowing.{GoesOn, WorksFor, HasHold, SawInflated, SawOwnBias}

-- WORDS. The marks, the prototypes, the counts of revocations and the class words are the words that the law reads.
abbrev pub is_bias_word : WordId → Bool
is_bias_word (Mark o) = true
is_bias_word (Prototype c) = true
is_bias_word (Revocations c) = true
is_bias_word (Class o) = true
is_bias_word _ = false

-- In this word a step leaves v, and with that each mark as biased as it was: the word is another one, or v is what stood there, or it is a mark
-- that had no bias pattern and gets none.
abbrev pub LeavesBiases : World → WordId → ℕ → Type 0
LeavesBiases w at v =
    (is_bias_word at ≡ false) ⊎ (v ≡ w.words at)
    ⊎ ((o : ℕ) × (at ≡ Mark o) × (is_biased (marks w o) ≡ false) × (is_biased v ≡ false))

-- BESIDE THE BIASES. A step of thread t that logs and counts nothing, leaves the biases, and after which the thread is about to log the Enter
-- that it was about to log, if any. It leaves unfinished what is so, or begins an operation. Nearly every step is of this kind.
pub record IsBeside (w : World) (t : ℕ) (p : StepPlan) : Type 0 where
  pub log : log_after p.note (w.words p.at) (w.known t).log ≡ (w.known t).log
  pub own : (counts : List CountedVerdict) → counts_after p.own counts ≡ counts
  pub goes_on : (unfinished_after p.note (w.words p.at) p.after ≡ (w.known t).unfinished)
      ⊎ ((w.known t).unfinished ≡ None)
  pub stands : (o : ℕ) → path_into p.stage o ≡ path_into (w.known t).stage o
  pub leaves : LeavesBiases w p.at (word_after p.act (w.words p.at))

-- WHAT A THREAD SAW in its call: a mark of o without the bias pattern
abbrev pub SawUnbiased : ThreadView → ℕ → Type 0
SawUnbiased k o = (v : ℕ) × (last_seen (Mark o) k.seen ≡ Some v) × (is_biased v ≡ false)

-- THE HOLD WORD. What went before a hold word of o at place p, by the path of the Enter that comes: the thread saw its own bias; it gave itself the
-- bias; it exchanged the neutral mark for that place; it holds o and saw a mark without the bias pattern, or the heap has no biases; it exchanged the
-- free owner word; or it holds o, saw its monitor and raised the recursions.
abbrev pub WentBefore : Bool → Shape → ThreadView → ℕ → ℕ → Path → Type 0
WentBefore biasing s k o p BiasOwn = (k.stage ≡ Settled) × SawOwnBias s k o
WentBefore biasing s k o p BiasTaken = k.stage ≡ BiasAcquired o
WentBefore biasing s k o p StackFirst = k.stage ≡ RecordLocked o p
WentBefore biasing s k o p StackAgain = (k.stage ≡ Settled) × HasHold k o × ((biasing ≡ false) ⊎ SawUnbiased k o)
WentBefore biasing s k o p MonitorFirst = k.stage ≡ MonitorAcquired o
WentBefore biasing s k o p MonitorAgain = (k.stage ≡ RecursionsRaised o) × HasHold k o × ((m : ℕ) × SawInflated k o m)

-- Storing it, in a heap with biases or without.
pub record MayComeBy (biasing : Bool) (s : Shape) (k : ThreadView) (e : CallContext) (o p : ℕ) (path : Path) : Type 0 where
  pub runs : k.running ≡ true
  pub goes_on : GoesOn k e
  pub before : WentBefore biasing s k o p path

-- TAKING A BIAS. A mark with the bias pattern that is validly biased to nobody, by the prototype that the thread saw in this call: anonymous, or
-- stale.
pub record SawFreeBias (s : Shape) (k : ThreadView) (o mark prototype : ℕ) : Type 0 where
  pub class : ℕ
  pub saw_class : SawClass s k.seen o class
  pub seen : last_seen (Prototype class) k.seen ≡ Some prototype
  pub biased : is_biased mark ≡ true
  pub free : is_valid_bias (read_mark mark) prototype ≡ false

-- Exchanging such a mark for the bias to the thread itself, in the epoch of that prototype.
pub record MayTakeBias (s : Shape) (k : ThreadView) (e : CallContext) (o mark prototype epoch : ℕ) : Type 0 where
  pub runs : k.running ≡ true
  pub calm : k.stage ≡ Settled
  pub goes_on : GoesOn k e
  pub saw : SawFreeBias s k o mark prototype
  pub valid : epoch_in prototype ≡ Some epoch

-- DROPPING A BIAS. Exchanging such a mark for one without the bias pattern: where the prototype has none, or for a hash of the object, or by a
-- thread that holds it. (Of an object that a thread holds no mark is free.)
pub record MayDropBias (s : Shape) (k : ThreadView) (e : CallContext) (o mark prototype neutral : ℕ) : Type 0 where
  pub runs : k.running ≡ true
  pub calm : k.stage ≡ Settled
  pub goes_on : GoesOn k e
  pub saw : SawFreeBias s k o mark prototype
  pub unbiased : is_biased neutral ≡ false
  pub why : (epoch_in prototype ≡ None) ⊎ IsUnfinished e.unfinished op.Hash o ⊎ HasHold k o

-- LOGGING. An entry that ends a bias comes where its object's mark has no bias pattern. (An Enter comes after what its hold word came by.)
abbrev pub HasNone : World → Entry → Type 0
HasNone w (entry.Wait o) = is_biased (marks w o) ≡ false
HasNone w (entry.Notify o woken) = is_biased (marks w o) ≡ false
HasNone w (entry.NotifyAll o woken) = is_biased (marks w o) ≡ false
HasNone w _ = Unit {0}

-- so it is where the thread saw such a mark in this call
abbrev pub SawNone : ThreadView → Entry → Type 0
SawNone k (entry.Wait o) = SawUnbiased k o
SawNone k (entry.Notify o woken) = SawUnbiased k o
SawNone k (entry.NotifyAll o woken) = SawUnbiased k o
SawNone k _ = Unit {0}

-- By a step that leaves v in this word, thread t logs y and then knows l. The entry makes no object. It is of its own operation, the Enter that it
-- was about to log if it is one, and after it the thread is about to log none.
pub record LogsBeside (w : World) (at : WordId) (v t : ℕ) (y : Logged) (l : ThreadView) : Type 0 where
  pub runs : (w.known t).running ≡ true
  pub appends : MayAppend (logs w) t y
  pub grows : l.log ≡ (w.known t).log ++ y ∷ []
  pub counts : l.counts ≡ (w.known t).counts
  pub makes_none : creates y.entry ≡ None
  pub operation : WorksFor (w.known t) y.entry
  pub came : (o : ℕ) (path : Path) → path_into (w.known t).stage o ≡ Some path → y.entry ≡ entry.Enter o path
  pub enters : (o : ℕ) (path : Path) → y.entry ≡ entry.Enter o path → path_into (w.known t).stage o ≡ Some path
  pub left : (o : ℕ) → path_into l.stage o ≡ None
  pub ended : HasNone w y.entry
  pub leaves : LeavesBiases w at v

-- THE END OF A REVOCATION. What the stores of the revocation left of its object: where it gave its thread a new bias, that has it, and holds nothing
-- of the object; and else no bias pattern.
pub record LeavesObject (w : World) (t o : ℕ) (took : Bool) : Type 0 where
  pub taken : took ≡ true → (lock w o ≡ BiasedTo t) × (hold_count o (w.known t).holds ≡ 0)
  pub dropped : took ≡ false → is_biased (marks w o) ≡ false

-- The revocation's thread has made all the stores; whether it took a new bias, the object's mark says; and its operation stays unfinished.
pub record MayEndRevocation (w : World) (objects : List PlainObject) (s : IsRevoking w objects) (e : CallContext)
    (took : Bool) : Type 0 where
  pub over : s.rest ≡ []
  pub says : took ≡ is_biased (marks w s.revocation.object)
  pub goes_on : e.unfinished ≡ (w.known s.requester).unfinished

-- In each world of which the other clauses hold and in which thread t may, its step keeps the law of biases.
abbrev pub KeepsBiases : (World → ℕ → Type 0) → (World → ℕ → StepPlan) → Type 0
KeepsBiases may plan =
    (w : World) (objects : List PlainObject) (t : ℕ) → t < w.shape.threads → may w t → Fits w objects
    → BiasLawHolds w → BiasLawHolds (world_after (plan w t) t w)
