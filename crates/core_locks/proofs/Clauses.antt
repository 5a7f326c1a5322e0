-- The clauses of a valid world by name, over the parts that they read. A step shows those that it touches, and all others by what they were.
use Rattle.core_locks.proofs.Prelude.{◌≡◌, ℕ, zero, suc, ◌+◌, ◌≤◌, Bool, List, ◌∷◌, length, Option, Some, refl, ◌∙◌, read_mark, PlainMonitor}
use Rattle.core_locks.proofs.Prelude.{PlainObject, Logged, objects_after, LegalObjects, Value, Safepoint, Prototype, Stamp, Slot, Hold}
use Rattle.core_locks.proofs.Prelude.{Waiting, Length, Recursions, Object, Claim, Revocations, LastBulk, is_halted, Inflation, inflation_in}
use Rattle.core_locks.proofs.Prelude.{hold_words_ahead, ThreadView, World, logs, logs_from, Lock, lock, lock_form, header, marks, displaced_words}
use Rattle.core_locks.proofs.Prelude.{headers, owner_words, prototype_of, inflations, holder, hold_count, holds_by_monitor, object_of}
use Rattle.core_locks.proofs.Prelude.{monitor_of, owner_at, hash_at, waits_at, notified_at, inflated_to, inflation_of, SeenStays, HoldsFitLogs}
use Rattle.core_locks.proofs.Prelude.{RecordsRest, RecursionsFit, Fits, WaitsFit, ends, StoppedAreQuiet, SafepointIsKnown, StampsFit}
use Rattle.core_locks.proofs.Prelude.{LocksArePlain, BiasedAreFree, LengthsFit, InflationsAreOne, DrawsFit, MonitorsAreClaimed, first_known}
use Rattle.core_locks.proofs.Prelude.{HashesFit, SlotsFit, ClassesFit, bulk_rebiases, bulk_revokes, IsInLimits, WordsHaveForms, MonitorsAreNamed}
use Rattle.core_locks.proofs.Prelude.{ShotsFit, End, Ring, MovesFit, monitor_count, ring_bits, Class}

-- what the clauses read: the world, what is made of its words and stages, and the plain objects
pub record Parts : Type 0 where
  pub world : World
  pub logs : List (List Logged)
  pub inflated : ℕ → Option ℕ
  pub inflates : ℕ → Option Inflation
  pub inflation : ℕ → Option Inflation
  pub lock : ℕ → Lock
  pub header : ℕ → Option ℕ
  pub objects : List PlainObject
  pub monitors : ℕ → PlainMonitor
  pub stands : ℕ → ℕ → ℕ
  pub owner : ℕ → ℕ → Bool
  pub hash : ℕ → ℕ
  pub waits : ℕ → List (ℕ × ℕ)
  pub called : ℕ → List (ℕ × ℕ)
  pub slots : ℕ → List Value

abbrev pub parts_of : World → List PlainObject → Parts
parts_of w objects = record {
  world = w;
  logs = logs w;
  inflated = inflated_to w;
  inflates = λ t. inflation_in (w.known t).stage;
  inflation = inflations w;
  lock = lock w;
  header = header w;
  objects = objects;
  monitors = monitor_of objects;
  stands = λ o t. holds_by_monitor (monitor_of objects o) t;
  owner = owner_at objects;
  hash = hash_at objects;
  waits = waits_at objects;
  called = notified_at objects;
  slots = λ o. (object_of objects o).slots;
}

pub data Clause : Type 0 where
  limits legal taken sized numbered absent seen forms safe quiet holds owners biases : Clause
  records inflating monitors recursions hashes draws slots waits stamps lengths claims moves classes shots : Clause

-- what a clause says of these parts
abbrev pub Holds : Parts → Clause → Type 0
Holds p limits = IsInLimits p.world.shape
Holds p legal = LegalObjects p.world.shape.objects p.logs
Holds p taken = objects_after p.world.shape.objects p.logs ≡ Some p.objects
Holds p sized = length p.objects ≡ length p.world.shape.objects
Holds p numbered = (t : ℕ) → (p.world.known t).thread ≡ t
Holds p absent = (t : ℕ) → p.world.shape.threads ≤ t → p.world.known t ≡ first_known t
Holds p seen = SeenStays p.world p.owner p.waits
Holds p forms =
    WordsHaveForms p.world.shape (marks p.world) (owner_words p.world) (λ t. p.world.words (Waiting t)) (λ m. p.world.words (Object m))
    (λ o. p.world.words (Class o)) (λ t q. p.world.words (Hold t q)) (p.world.words Safepoint)
Holds p safe =
    SafepointIsKnown p.world.shape.threads (p.world.words Safepoint) (λ t. (p.world.known t).running)
    (λ t. (p.world.known t).requesting) (λ t. (p.world.known t).reached)
    (λ t. (p.world.known t).halted) (λ t. ends (p.world.known t).log) (λ t. (p.world.known t).unfinished) p.monitors
Holds p quiet = StoppedAreQuiet (λ t. (p.world.known t).running) (λ t. (p.world.known t).reached) (λ t. (p.world.known t).stage)
Holds p holds = HoldsFitLogs (λ t q. p.world.words (Hold t q)) (λ t. (p.world.known t).holds) (λ t o. hold_words_ahead (p.world.known t).stage o) p.stands
Holds p owners = LocksArePlain (λ o. holder (p.lock o) (λ t. hold_count o (p.world.known t).holds)) (λ t. (p.world.known t).stage) p.owner
Holds p biases = BiasedAreFree (marks p.world) p.lock (λ t. (p.world.known t).holds) p.hash p.waits p.called
Holds p records = RecordsRest p.lock (λ t. (p.world.known t).holds) (λ t. (p.world.known t).stage) (displaced_words p.world)
Holds p inflating = InflationsAreOne (marks p.world) p.inflates p.inflation
Holds p monitors = MonitorsAreNamed p.inflated (λ m. p.world.words (Object m)) (headers p.world)
Holds p recursions =
    RecursionsFit (marks p.world) (λ m. p.world.words (Recursions m)) p.lock
    (λ t. (p.world.known t).holds) (λ t. (p.world.known t).stage) (λ t. (p.world.known t).saved)
    (displaced_words p.world) p.waits p.called
Holds p hashes = HashesFit (marks p.world) p.lock p.header (λ t. (p.world.known t).holds) (displaced_words p.world) p.hash
Holds p draws = DrawsFit p.world.start p.logs (λ t. (p.world.known t).log) (λ t. (p.world.known t).draws) p.hash
Holds p slots = SlotsFit p.world.shape (λ o i. p.world.words (Slot o i)) p.slots
Holds p waits =
    WaitsFit p.inflated (λ t. p.world.words (Waiting t)) (λ t. (p.world.known t).wait) (λ t. (p.world.known t).log) (λ t. (p.world.known t).stage)
    (λ t. (p.world.known t).unfinished) (λ t. (p.world.known t).running) p.waits p.called
Holds p stamps = StampsFit p.logs (λ t. (p.world.known t).log) (λ o. p.world.words (Stamp o)) (λ o. (p.monitors o).owner) (λ t. (p.world.known t).unfinished)
Holds p lengths =
    LengthsFit (λ t. p.world.words (Length t)) (λ t. (p.world.known t).published) (λ t. (p.world.known t).log) (λ t. (p.world.known t).running)
    (λ t. (p.world.known t).requesting) (is_halted (p.world.words Safepoint))
Holds p claims =
    MonitorsAreClaimed p.world.shape.threads (length p.world.shape.objects)
    (monitor_count p.world.shape) (ring_bits p.world.shape) (p.world.words Claim) (p.world.words End)
    (λ q. p.world.words (Ring q)) p.inflated (λ t. (p.world.known t).kept) (λ t. (p.world.known t).moving)
Holds p moves = MovesFit (λ t. (p.world.known t).running) (λ t. (p.world.known t).reached) (λ t. (p.world.known t).moving)
Holds p classes =
    ClassesFit p.world.biasing (λ c. p.world.words (Prototype c)) (λ c. p.world.words (Revocations c)) (λ c. p.world.words (LastBulk c)) (marks p.world)
    (bulk_rebiases p.world.shape.threads (λ t. (p.world.known t).counts)) (bulk_revokes p.world.shape.threads (λ t. (p.world.known t).counts))
Holds p shots = ShotsFit p.world.shape.objects p.logs (λ t. (p.world.known t).log) (λ t. (p.world.known t).shots) (λ t. (p.world.known t).unfinished)

abbrev pub AllHold : Parts → Type 0
AllHold p = (c : Clause) → Holds p c

pub clauses : (w : World) (objects : List PlainObject) → Fits w objects → AllHold (parts_of w objects)
clauses w objects v limits = v.limits
clauses w objects v _ = search v

pub fits : (w : World) (objects : List PlainObject) → AllHold (parts_of w objects) → Fits w objects
fits w objects h = record {
  limits = h limits;
  legal = h legal;
  taken = h taken;
  sized = h sized;
  numbered = h numbered;
  absent = h absent;
  seen = h seen;
  forms = h forms;
  safe = h safe;
  quiet = h quiet;
  holds = h holds;
  owners = h owners;
  biases = h biases;
  records = h records;
  inflating = h inflating;
  monitors = h monitors;
  recursions = h recursions;
  hashes = h hashes;
  draws = h draws;
  slots = h slots;
  waits = h waits;
  stamps = h stamps;
  lengths = h lengths;
  claims = h claims;
  moves = h moves;
  classes = h classes;
  shots = h shots;
}

-- the parts of a world x in which each lock and header is as it was in w
abbrev pub kept_locks : World → Parts → Parts
kept_locks w p = record p { inflates = λ t. inflation_in (w.known t).stage; inflation = inflations w; lock = lock w; header = header w }

pub locks_stand : (w x : World) (objects : List PlainObject) → x.shape ≡ w.shape → ((t : ℕ) → inflation_in (x.known t).stage ≡ inflation_in (w.known t).stage)
    → marks x ≡ marks w → prototype_of x ≡ prototype_of w → owner_words x ≡ owner_words w
    → ((inflations x ≡ inflations w) → header x ≡ header w) → parts_of x objects ≡ kept_locks w (parts_of x objects)
locks_stand w x objects shape inflates mark prototype owned head =
    let named : inflations x ≡ inflations w = λ i. λ o. inflation_of o (shape i).threads (λ t. inflates t i) in
    λ i. record (parts_of x objects) {
      inflates = λ t. inflates t i;
      inflation = named i;
      lock = λ o. lock_form (read_mark (mark i o)) (prototype i o) (owned i) (named i o);
      header = head named i;
    }

-- and so is each log
abbrev pub kept_parts : World → World → List PlainObject → Parts
kept_parts w x objects = record (kept_locks w (parts_of x objects)) { logs = logs w }

logs_same : (u n : ℕ) (f g : ℕ → ThreadView) → ((t : ℕ) → (f t).log ≡ (g t).log) → logs_from u n f ≡ logs_from u n g
logs_same u zero f g e = refl
logs_same u (suc n) f g e = λ i. e u i ∷ logs_same (u + 1) n f g e i

pub parts_stand : (w x : World) (objects : List PlainObject) → x.shape ≡ w.shape
    → ((t : ℕ) → (x.known t).log ≡ (w.known t).log) → ((t : ℕ) → inflation_in (x.known t).stage ≡ inflation_in (w.known t).stage)
    → marks x ≡ marks w → prototype_of x ≡ prototype_of w → owner_words x ≡ owner_words w
    → ((inflations x ≡ inflations w) → header x ≡ header w) → parts_of x objects ≡ kept_parts w x objects
parts_stand w x objects shape log inflates mark prototype owned head =
    let logs_is : logs x ≡ logs w = (λ i. logs_from 0 (shape i).threads x.known) ∙ logs_same 0 w.shape.threads x.known w.known log in
    locks_stand w x objects shape inflates mark prototype owned head ∙ (λ i. record (kept_locks w (parts_of x objects)) { logs = logs_is i })

-- the parts of a world x in which each log, header and named monitor is as it was in w, and the locks are these
abbrev pub turned_parts : World → World → List PlainObject → (ℕ → Lock) → Parts
turned_parts w x objects f = record (kept_parts w x objects) { lock = f; inflated = inflated_to w }

pub parts_turn : (w x : World) (objects : List PlainObject) (f : ℕ → Lock) → x.shape ≡ w.shape
    → ((t : ℕ) → (x.known t).log ≡ (w.known t).log) → ((t : ℕ) → inflation_in (x.known t).stage ≡ inflation_in (w.known t).stage)
    → lock x ≡ f → header x ≡ header w → inflated_to x ≡ inflated_to w → parts_of x objects ≡ turned_parts w x objects f
parts_turn w x objects f shape log inflates lock_is header_is names =
    let logs_is : logs x ≡ logs w = (λ i. logs_from 0 (shape i).threads x.known) ∙ logs_same 0 w.shape.threads x.known w.known log in
    λ i. record (parts_of x objects) {
      logs = logs_is i;
      inflated = names i;
      inflates = λ t. inflates t i;
      inflation = λ o. inflation_of o (shape i).threads (λ t. inflates t i);
      lock = lock_is i;
      header = header_is i;
    }

-- the parts of a world x in which each log is as it was in w, and the named monitors, locks and headers are these
abbrev pub parts_with : World → World → List PlainObject → (ℕ → Option ℕ) → (ℕ → Lock) → (ℕ → Option ℕ) → Parts
parts_with w x objects g f h = record (parts_of x objects) { logs = logs w; inflated = g; lock = f; header = h }

pub parts_are : (w x : World) (objects : List PlainObject) (g : ℕ → Option ℕ) (f : ℕ → Lock) (h : ℕ → Option ℕ)
    → x.shape ≡ w.shape → ((t : ℕ) → (x.known t).log ≡ (w.known t).log)
    → inflated_to x ≡ g → lock x ≡ f → header x ≡ h → parts_of x objects ≡ parts_with w x objects g f h
parts_are w x objects g f h shape log names lock_is header_is =
    let logs_is : logs x ≡ logs w = (λ i. logs_from 0 (shape i).threads x.known) ∙ logs_same 0 w.shape.threads x.known w.known log in
    λ i. record (parts_of x objects) { logs = logs_is i; inflated = names i; lock = lock_is i; header = header_is i }

-- the parts in which each object waits, hashes and has slots as in P, and the logs are those of the world x
abbrev pub kept_objects : World → List PlainObject → Parts → Parts
kept_objects x P p = record p { logs = logs x; hash = hash_at P; waits = waits_at P; slots = λ o. (object_of P o).slots }
