-- A step of one thread, field by field: what its thread knows afterwards is what it knew, but for the fields that the step names.
use Rattle.core_locks.proofs.Prelude.{◌≡◌, ◌≢◌, ◌⊎◌, ℕ, ◌+◌, ◌<◌, ◌≤◌, ◌==◌, eq-eqb, ne_eqb, Bool, true, false, cond, List, length, Option}
use Rattle.core_locks.proofs.Prelude.{Some, None, refl, sym, ap, ◌∙◌, subst, arith, inl, inr, is_listed, PlainObject, Logged, WordId, Safepoint}
use Rattle.core_locks.proofs.Prelude.{Stamp, Waiting, Length, Stage, Resumes, Waits, OwnerConverted, Notifies, Revokes, monitor_in}
use Rattle.core_locks.proofs.Prelude.{enters_on, is_halted, inflation_in, notification_in, revocation_in, ThreadView, World, with_known, logs}
use Rattle.core_locks.proofs.Prelude.{marks, monitor_of, waits_at, notified_at, Fits, SeenFit, WaitsFit, ends, IsUnfinished, StoppedAreQuiet}
use Rattle.core_locks.proofs.Prelude.{SafepointIsKnown, StampsFit, lets_go, LengthsFit, log_limit, first_known, Unfinished, by_equal}
use Rattle.core_locks.proofs.Prelude.{each_with_known, with_known_else, stamp_goes_on, ShotsFit, Hold, hold_words_ahead, hold_count}
use Rattle.core_locks.proofs.Prelude.{holds_by_monitor, HoldsFitLogs, recursions_ahead, recursions_lowered, Lock, OwnedBy, recursion_count}
use Rattle.core_locks.proofs.Prelude.{RecursionsFit, RecursionsRaised, RecursionsLowered, Exits, is_thread, owner_at, ◌||◌, bears, LocksArePlain, IsQuiet}
use Rattle.core_world.specs.declared.heap_call.Operation.TheVariants as op
use Rattle.core_world.proofs.shot.ShotsStay.{shots_go_on}
use Rattle.core_locks.proofs.Clauses.{Parts, parts_of, Clause, absent, safe, quiet, waits, stamps, shots, Holds, AllHold, clauses, fits}

-- Which fields of its thread's knowledge a step of a kind may change: of the thread that moved (true) the new ones, of the others (false) the
-- old ones. All other fields are the old ones of both.
abbrev pub Fields : Type 0
Fields = Bool → ThreadView → ThreadView → ThreadView

-- what a step may change that logs nothing and keeps nothing, on no word of its own, of a thread that stands where it stood
abbrev pub quietly : Fields
quietly b l k = record k {
  unfinished = (cond b l k).unfinished;
  checking = (cond b l k).checking;
  seen = (cond b l k).seen;
  seen_at_safepoint = (cond b l k).seen_at_safepoint;
  steps = (cond b l k).steps;
  call = (cond b l k).call;
}

-- and of one that comes to stand elsewhere
abbrev pub turning : Fields
turning b l k = record (quietly b l k) { stage = (cond b l k).stage }

-- and of one that comes to keep a monitor, or keeps none any more
abbrev pub keeping : Fields
keeping b l k = record (quietly b l k) { kept = (cond b l k).kept; moving = (cond b l k).moving }

-- and of one that takes a position or a monitor in hand, or puts it down
abbrev pub handling : Fields
handling b l k = record (quietly b l k) { moving = (cond b l k).moving }

-- and of one that saves recursions
abbrev pub saving : Fields
saving b l k = record (quietly b l k) { saved = (cond b l k).saved }

-- and comes to stand elsewhere
abbrev pub spending : Fields
spending b l k = record (turning b l k) { kept = (cond b l k).kept }

-- and on its own hold words
abbrev pub holding : Fields
holding b l k = record (turning b l k) { holds = (cond b l k).holds }

-- what a step on the safepoint word may change: besides, what that word says of the thread
abbrev pub asking : Fields
asking b l k = record (quietly b l k) {
  running = (cond b l k).running;
  requesting = (cond b l k).requesting;
  reached = (cond b l k).reached;
  halted = (cond b l k).halted;
}

-- what a store of its own waiting word may change
abbrev pub saying : Fields
saying b l k = record (quietly b l k) { wait = (cond b l k).wait }

-- what a store of its published length may change, where it logs nothing
abbrev pub publishing : Fields
publishing b l k = record (quietly b l k) { published = (cond b l k).published }

-- what a step may change that logs an entry and leads elsewhere
abbrev pub noting : Fields
noting b l k = record (turning b l k) { log = (cond b l k).log; draws = (cond b l k).draws }

-- and stores its own waiting word
abbrev pub departing : Fields
departing b l k = record (noting b l k) { wait = (cond b l k).wait }

-- or one of its hold words
abbrev pub leaving : Fields
leaving b l k = record (noting b l k) { holds = (cond b l k).holds }

-- what a step may change that logs an entry, of a thread that stands where it stood
abbrev pub telling : Fields
telling b l k = record (quietly b l k) { log = (cond b l k).log; draws = (cond b l k).draws }

-- and publishes its new length
abbrev pub announcing : Fields
announcing b l k = record (telling b l k) { published = (cond b l k).published }

-- the world after a step of thread t: the words are f, and the thread knows l
abbrev pub stepped : World → ℕ → ThreadView → (WordId → ℕ) → World
stepped w t l f = record { shape = w.shape; start = w.start; biasing = w.biasing; words = f; known = with_known t l w.known }

-- the same world, where the thread knows anew the fields of a kind
abbrev pub next : World → ℕ → ThreadView → Fields → (WordId → ℕ) → World
next w t l fields f = record { shape = w.shape; start = w.start; biasing = w.biasing; words = f; known = λ u. fields (u == t) l (w.known u) }

-- a step of thread t that changes these fields
pub record IsStep (w : World) (t : ℕ) (l : ThreadView) (fields : Fields) : Type 0 where
  pub within : t < w.shape.threads
  pub mine : l ≡ fields true l (w.known t)
  pub others : (k : ThreadView) → k ≡ fields false l k

-- it goes on with what was unfinished, or begins an operation
abbrev pub GoesOnTo : ThreadView → ThreadView → Type 0
GoesOnTo k l = (l.unfinished ≡ k.unfinished) ⊎ (k.unfinished ≡ None)

-- the thread isn't about to change recursions, nor has it changed them ahead of its records, nor does it wait
pub record IsAside (s : Stage) : Type 0 where
  pub ahead : (o : ℕ) → recursions_ahead s o ≡ 0
  pub lowered : (o : ℕ) → recursions_lowered s o ≡ 0
  pub waits : (o : ℕ) → s ≡ Waits o → ⊥
  pub resumes : (o : ℕ) → s ≡ Resumes o → ⊥
  pub takes_over : (o : ℕ) → s ≡ OwnerConverted o → ⊥

abbrev pub is_aside : Stage → Bool
is_aside (Waits o) = false
is_aside (Resumes o) = false
is_aside (OwnerConverted o) = false
is_aside (RecursionsRaised o) = false
is_aside (RecursionsLowered o) = false
is_aside _ = true

pub aside_by : (s : Stage) → is_aside s ≡ true → IsAside s
aside_by (Waits o) e = absurd (cc e)
aside_by (Resumes o) e = absurd (cc e)
aside_by (OwnerConverted o) e = absurd (cc e)
aside_by (RecursionsRaised o) e = absurd (cc e)
aside_by (RecursionsLowered o) e = absurd (cc e)
aside_by _ e = record { ahead = λ o. refl; lowered = λ o. refl; waits = λ o c. cc c; resumes = λ o c. cc c; takes_over = λ o c. cc c }

-- the thread is in the middle of no wait, no notify and no revocation
pub record IsPlain (s : Stage) : Type 0 where
  pub calls : notification_in s ≡ None
  pub its_revocation : revocation_in s ≡ None
  pub resumes : (o : ℕ) → s ≡ Resumes o → ⊥
  pub waits : (o : ℕ) → s ≡ Waits o → ⊥

abbrev pub is_plain : Stage → Bool
is_plain (Resumes o) = false
is_plain (Waits o) = false
is_plain (Notifies o n) = false
is_plain (Revokes o rebias now) = false
is_plain _ = true

pub plain_by : (s : Stage) → is_plain s ≡ true → IsPlain s
plain_by (Resumes o) e = absurd (cc e)
plain_by (Waits o) e = absurd (cc e)
plain_by (Notifies o n) e = absurd (cc e)
plain_by (Revokes o rebias now) e = absurd (cc e)
plain_by _ e = record { calls = refl; its_revocation = refl; resumes = λ o c. cc c; waits = λ o c. cc c }

-- a fact of a word and of what a thread knows, at the number that changed and at the others
pub each_written : (Q : ℕ → ℕ → ThreadView → Type 0) (t v : ℕ) (k : ThreadView) (f : ℕ → ℕ) (g : ℕ → ThreadView) (u : ℕ)
    → Q t v k → (u ≢ t → Q u (f u) (g u)) → Q u (cond (u == t) v (f u)) (with_known t k g u)
each_written Q t v k f g u mine others =
    by_equal u t
    (λ e. subst (λ (z : ℕ). Q z (cond (z == t) v (f z)) (with_known t k g z)) (sym e)
    (subst (λ (b : Bool). Q t (cond b v (f t)) (cond b k (g t))) (sym (eq-eqb t t refl)) mine))
    (λ d. subst (λ (b : Bool). Q u (cond b v (f u)) (cond b k (g u))) (sym (ne_eqb u t d)) (others d))

-- no safepoint is reached while a thread runs
pub none_reached : (w : World) (P : List PlainObject) (t : ℕ) (l : ThreadView) → Fits w P → (w.known t).running ≡ true
    → l.reached ≡ (w.known t).reached → (u : ℕ) → (with_known t l w.known u).reached ≡ true → ⊥
none_reached w P t l v runs same u = each_with_known (λ u y. y.reached ≡ true → ⊥) t l w.known u (λ e. unless t (sym same ∙ e)) (λ d. unless u)
  where
    unless : (u : ℕ) → (w.known u).reached ≡ true → ⊥
    unless u e = let stopped = (v.safe.safepoint u e).1 t in absurd (cc (stopped, runs))

module _ {w : World} {t : ℕ} {l : ThreadView} {fields : Fields} (s : IsStep w t l fields) where
  each : (u : ℕ) → with_known t l w.known u ≡ fields (u == t) l (w.known u)
  each u = by_equal u t
      (λ e. subst (λ z. with_known t l w.known z ≡ fields (z == t) l (w.known z)) (sym e)
      (subst (λ b. cond b l (w.known t) ≡ fields b l (w.known t)) (sym (eq-eqb t t refl)) s.mine))
      (λ n. subst (λ b. cond b l (w.known u) ≡ fields b l (w.known u)) (sym (ne_eqb u t n)) (s.others (w.known u)))

  pub next_is : (f : WordId → ℕ) → stepped w t l f ≡ next w t l fields f
  next_is f = λ i. record { shape = w.shape; start = w.start; biasing = w.biasing; words = f; known = λ u. each u i }

  -- every clause holds after the step where it holds of these parts, which are those of that world
  pub step_fits : (f : WordId → ℕ) (Q : List PlainObject) (p : Parts) → parts_of (next w t l fields f) Q ≡ p → AllHold p → Fits (stepped w t l f) Q
  step_fits f Q p is h = fits (stepped w t l f) Q (subst AllHold (sym (ap (λ x. parts_of x Q) (next_is f) ∙ is)) h)

  pub holds_next : (F : World → Type 0) (f : WordId → ℕ) → F (stepped w t l f) → F (next w t l fields f)
  holds_next F f = subst F (next_is f)

  pub seen_next : (f : WordId → ℕ) (Q : List PlainObject) → SeenFit (stepped w t l f) Q → SeenFit (next w t l fields f) Q
  seen_next f Q = subst (λ x. SeenFit x Q) (next_is f)

  pub absent_next : (P : List PlainObject) → Fits w P → (u : ℕ) → w.shape.threads ≤ u → fields (u == t) l (w.known u) ≡ first_known u
  absent_next P h u far = sym (each u) ∙ with_known_else t l w.known u (λ e. omega (arith, s.within, far, e)) ∙ h.absent u far

  -- nothing is halted while the thread runs
  pub safe_next : (P Q : List PlainObject) (ended : ℕ → Bool) → (w.known t).running ≡ true → Fits w P
      → SafepointIsKnown w.shape.threads (w.words Safepoint) (λ u. (w.known u).running)
      (λ u. (w.known u).requesting) (λ u. (w.known u).reached) (λ u. (w.known u).halted) ended
      (λ u. (with_known t l w.known u).unfinished) (monitor_of Q)
  safe_next P Q ended runs h = record {
    bits = h.safe.bits;
    few = h.safe.few;
    requester = h.safe.requester;
    safepoint = h.safe.safepoint;
    stopped = h.safe.stopped;
    still = λ e. let stopped = (h.safe.still e).1 t in absurd (cc (stopped, runs));
  }

  pub quiet_next : (P : List PlainObject) → revocation_in l.stage ≡ None → (w.known t).running ≡ true → Fits w P
      → StoppedAreQuiet (λ u. (w.known u).running) (λ u. (w.known u).reached) (λ u. (with_known t l w.known u).stage)
  quiet_next P its_revocation runs h = record {
    quiet = λ u. each_with_known (λ u y. (w.known u).running ≡ false → IsQuiet (w.known u).reached y.stage) t l w.known u
        (λ e. absurd (cc (e, runs))) (λ d. h.quiet.quiet u);
    none_revokes = λ u. each_with_known (λ u y. revocation_in y.stage ≡ None) t l w.known u its_revocation (λ d. h.quiet.none_revokes u);
  }

  pub logs_next : (f : WordId → ℕ) → logs (next w t l fields f) ≡ logs (stepped w t l f)
  logs_next f = λ i. logs (sym (next_is f) i)

  -- with one entry more, and room for it, the lengths fit
  pub lengths_next : (P : List PlainObject) → length l.log ≡ length (w.known t).log + 1
      → length (w.known t).log < log_limit → (w.known t).running ≡ true → Fits w P
      → LengthsFit (λ u. w.words (Length u)) (λ u. (w.known u).published) (λ u. (with_known t l w.known u).log)
      (λ u. (w.known u).running) (λ u. (w.known u).requesting) (is_halted (w.words Safepoint))
  lengths_next P more room runs h = record {
    few = λ u. each_with_known (λ u y. length y.log ≤ log_limit) t l w.known u (omega (arith, more, room)) (λ d. h.lengths.few u);
    stored = h.lengths.stored;
    most = λ u. each_with_known (λ u y. (w.known u).published ≤ length y.log) t l w.known u
        (let b = h.lengths.most t in omega (arith, more, b)) (λ d. h.lengths.most u);
    all = λ u r. each_with_known (λ u y. (w.known u).running ≡ false → (w.known u).requesting ≡ false
        → is_halted (w.words Safepoint) ≡ false → (w.known u).published ≡ length y.log) t l w.known u
        (λ g. absurd (cc (g, runs))) (λ d. h.lengths.all u) r;
  }

  -- STAGES. One that the thread isn't at afterwards stood before, and one that it wasn't at stands.
  pub stage_back : (f : Stage) (u : ℕ) → (l.stage ≡ f → ⊥) → (with_known t l w.known u).stage ≡ f → (u ≢ t) × ((w.known u).stage ≡ f)
  stage_back f u none e = each_with_known (λ u y. y.stage ≡ f → (u ≢ t) × ((w.known u).stage ≡ f)) t l w.known u (λ g. absurd (none g)) (λ d g. (d, g)) e

  pub stage_forth : (f : Stage) (u : ℕ) → ((w.known t).stage ≡ f → ⊥) → (w.known u).stage ≡ f → (with_known t l w.known u).stage ≡ f
  stage_forth f u none e = each_with_known (λ u y. (w.known u).stage ≡ f → y.stage ≡ f) t l w.known u (λ g. absurd (none g)) (λ d g. g) e

  -- what stages say of a matter is as it was, where the thread's says the same of it
  pub stage_part : {A : Type 0} (part : Stage → A) → part l.stage ≡ part (w.known t).stage
      → (u : ℕ) → part (with_known t l w.known u).stage ≡ part (w.known u).stage
  stage_part part same u = each_with_known (λ u y. part y.stage ≡ part (w.known u).stage) t l w.known u same (λ d. refl)

  pub inflates_stay : inflation_in l.stage ≡ inflation_in (w.known t).stage → (u : ℕ)
      → inflation_in (with_known t l w.known u).stage ≡ inflation_in (w.known u).stage
  inflates_stay = stage_part inflation_in

  -- each object has the owner that it had, where the thread comes to let go of none, and tells no waiters that it didn't tell before
  pub owners_move : {P : List PlainObject} {who : ℕ → Option ℕ} → ((i : ℕ) → l.stage ≡ Waits i → ⊥) → ((i q : ℕ) → l.stage ≡ Exits i q → ⊥)
      → ((i : ℕ) → notification_in l.stage ≡ Some i → notification_in (w.known t).stage ≡ Some i)
      → ((i u : ℕ) → is_thread (who i) u ≡ (owner_at P i u || bears (with_known t l w.known u).stage i)) → Fits w P
      → LocksArePlain who (λ u. (with_known t l w.known u).stage) (owner_at P)
  owners_move {P} unwaiting unleaving telling has v = record {
    same = has;
    let_go = λ i u f. v.owners.let_go i u (stage_back (Waits i) u (unwaiting i) f).1;
    left = λ i u q f. v.owners.left i u q (stage_back (Exits i q) u (unleaving i q) f).1;
    calls = λ i u. each_with_known (λ u y. notification_in y.stage ≡ Some i → owner_at P i u ≡ true) t l w.known u (λ c. v.owners.calls i t (telling i c))
        (λ d. v.owners.calls i u);
  }

  -- What waits says the same, where the thread is in the middle of no notify afterwards that it wasn't in before, resumes no more, and stands on
  -- the list that its stage tells of.
  pub waits_turn : {inflated : ℕ → Option ℕ} {wait own : ℕ → ℕ} {log : ℕ → List Logged}
      {unfinished : ℕ → Option Unfinished} {running : ℕ → Bool} {waiters called : ℕ → List (ℕ × ℕ)}
      → notification_in l.stage ≡ notification_in (w.known t).stage → ((o : ℕ) → (w.known t).stage ≡ Resumes o → ⊥)
      → ((o n : ℕ) → l.stage ≡ Notifies o n → ⊥) → ((o : ℕ) → l.stage ≡ Resumes o → is_listed (called o) t ≡ true)
      → ((o : ℕ) → l.stage ≡ Waits o → is_listed (waiters o) t ≡ true)
      → WaitsFit inflated wait own log (λ u. (w.known u).stage) unfinished running waiters called
      → WaitsFit inflated wait own log (λ u. (with_known t l w.known u).stage) unfinished running waiters called
  waits_turn {waiters = waiters} {called = called} calls unresumed uncalled resumes left h = record {
    waiting = λ u o e. elim (h.waiting u o e) [ inl a ↦ inl a | inr a ↦ inr (a.0, (a.1.0, stage_part notification_in calls a.1.0 ∙ a.1.1)) ];
    waiter = h.waiter;
    notified = λ u o e. elim (h.notified u o e) [ inl a ↦ inl a | inr a ↦ inr (a.0, stage_forth (Resumes o) u (unresumed o) a.1) ];
    told = λ u o e. elim (h.told u o e) [ inl a ↦ inl a | inr a ↦ inr (a.0, (a.1.0, stage_part notification_in calls a.1.0 ∙ a.1.1)) ];
    telling = λ u o n e. h.telling u o n (stage_back (Notifies o n) u (uncalled o n) e).1;
    resuming = λ u o. each_with_known (λ u y. y.stage ≡ Resumes o → is_listed (called o) u ≡ true) t l w.known u (resumes o) (λ d. h.resuming u o);
    leaving = λ u o. each_with_known (λ u y. y.stage ≡ Waits o → is_listed (waiters o) u ≡ true) t l w.known u (left o) (λ d. h.leaving u o);
    unfinished = h.unfinished;
    stored = h.stored;
    entering = h.entering;
    done = h.done;
    stopped = h.stopped;
    stamped = h.stamped;
    sorted = h.sorted;
    inflated = h.inflated;
  }

  -- so it is with a stage that is plain before and afterwards
  module _ (before : IsPlain (w.known t).stage) (now : IsPlain l.stage) where
    pub calls_stay : (u : ℕ) → notification_in (with_known t l w.known u).stage ≡ notification_in (w.known u).stage
    calls_stay = stage_part notification_in (now.calls ∙ sym before.calls)

    pub waits_move : {inflated : ℕ → Option ℕ} {wait own : ℕ → ℕ} {log : ℕ → List Logged}
        {unfinished : ℕ → Option Unfinished} {running : ℕ → Bool} {waiters called : ℕ → List (ℕ × ℕ)}
        → WaitsFit inflated wait own log (λ u. (w.known u).stage) unfinished running waiters called
        → WaitsFit inflated wait own log (λ u. (with_known t l w.known u).stage) unfinished running waiters called
    waits_move = waits_turn (now.calls ∙ sym before.calls) before.resumes
        (λ o n e. let c = ap notification_in e in cc (c, now.calls)) (λ o e. absurd (now.resumes o e)) (λ o e. absurd (now.waits o e))

  -- the recursions count the same records, where the stage says nothing of them
  pub recursions_stand : {mark recursions : ℕ → ℕ} {lock : ℕ → Lock} {hold : ℕ → List ℕ}
      {saved : ℕ → ℕ} {displaced : ℕ → ℕ → ℕ} {waiters called : ℕ → List (ℕ × ℕ)}
      → IsAside (w.known t).stage → IsAside l.stage → RecursionsFit mark recursions lock hold (λ u. (w.known u).stage) saved displaced waiters called
      → RecursionsFit mark recursions lock hold (λ u. (with_known t l w.known u).stage) saved displaced waiters called
  recursions_stand {recursions = recursions} {lock = lock} {hold = hold} {displaced = displaced} before now h = record {
    first = h.first;
    others = h.others;
    owned = λ i a u e. each_with_known (λ u y. lock i ≡ OwnedBy u → (y.stage ≡ Waits i → ⊥) → (y.stage ≡ Resumes i → ⊥)
        → recursions a + recursions_lowered y.stage i ≡ recursion_count i (displaced u) (hold u) + recursions_ahead y.stage i) t l w.known u
        (λ g b c. omega (
          arith,
          h.owned i a t e g (before.waits i) (before.resumes i),
          before.ahead i,
          before.lowered i,
          now.ahead i,
          now.lowered i,
        )) (λ d. h.owned i a u e);
    waiting = h.waiting;
    on_record = h.on_record;
    free = h.free;
    thread_owns = λ i u e. h.thread_owns i u (stage_back (OwnerConverted i) u (now.takes_over i) e).1;
  }

  -- the hold words fit the logs, where the stage says as many besides
  pub holds_stand : (P : List PlainObject) → ((o : ℕ) → hold_words_ahead l.stage o ≡ hold_words_ahead (w.known t).stage o) → Fits w P
      → HoldsFitLogs (λ u q. w.words (Hold u q)) (λ u. (w.known u).holds)
      (λ u o. hold_words_ahead (with_known t l w.known u).stage o) (λ o u. holds_by_monitor (monitor_of P o) u)
  holds_stand P same h = record {
    stored = h.holds.stored;
    places = h.holds.places;
    number = λ u o. each_with_known (λ u y. hold_count o (w.known u).holds ≡ holds_by_monitor (monitor_of P o) u + hold_words_ahead y.stage o)
        t l w.known u (omega (arith, h.holds.number t o, same o)) (λ d. h.holds.number u o);
    each = h.holds.each;
  }

  -- WHAT IS UNFINISHED: the clauses that read it hold after the step
  module _ (P : List PlainObject) (goes_on : GoesOnTo (w.known t) l) where
    forth : (F : ℕ → Option Unfinished → Type 0) (u : ℕ) → (F t None → ⊥) → F u (w.known u).unfinished → F u (with_known t l w.known u).unfinished
    forth F u none h = each_with_known (λ u y. F u (w.known u).unfinished → F u y.unfinished) t l w.known u
        (λ g. elim goes_on [ inl e ↦ subst (F t) (sym e) g | inr e ↦ absurd (none (subst (F t) e g)) ]) (λ n g. g) h

    back : (o u : ℕ) → lets_go (with_known t l w.known u).unfinished o ≡ false → lets_go (w.known u).unfinished o ≡ false
    back o u h = each_with_known (λ u y. lets_go y.unfinished o ≡ false → lets_go (w.known u).unfinished o ≡ false) t l w.known u
        (λ g. elim goes_on [ inl e ↦ ap (λ z. lets_go z o) (sym e) ∙ g | inr e ↦ ap (λ z. lets_go z o) e ]) (λ n g. g) h

    -- the clauses that a quiet step leaves, if it leaves the words that they read
    abbrev pub Quiet : Clause → Type 0
    Quiet absent = (u : ℕ) → w.shape.threads ≤ u → fields (u == t) l (w.known u) ≡ first_known u
    Quiet safe =
        SafepointIsKnown w.shape.threads (w.words Safepoint) (λ u. (w.known u).running) (λ u. (w.known u).requesting)
        (λ u. (w.known u).reached) (λ u. (w.known u).halted) (λ u. ends (w.known u).log)
        (λ u. (with_known t l w.known u).unfinished) (monitor_of P)
    Quiet waits =
        WaitsFit (λ o. monitor_in (marks w o)) (λ u. w.words (Waiting u)) (λ u. (w.known u).wait) (λ u. (w.known u).log)
        (λ u. (w.known u).stage) (λ u. (with_known t l w.known u).unfinished) (λ u. (w.known u).running)
        (waits_at P) (notified_at P)
    Quiet stamps = StampsFit (logs w) (λ u. (w.known u).log) (λ o. w.words (Stamp o)) (λ o. (monitor_of P o).owner) (λ u. (with_known t l w.known u).unfinished)
    Quiet shots = ShotsFit w.shape.objects (logs w) (λ u. (w.known u).log) (λ u. (w.known u).shots) (λ u. (with_known t l w.known u).unfinished)
    Quiet c = Holds (parts_of w P) c

    waiting_unfinished : Fits w P → (u o : ℕ) → (is_listed (waits_at P o) u ≡ true) ⊎ (is_listed (notified_at P o) u ≡ true)
        → IsUnfinished (with_known t l w.known u).unfinished op.Wait o
    waiting_unfinished h u o e = forth (λ u z. IsUnfinished z op.Wait o) u (λ e. absurd (cc e)) (h.waits.unfinished u o e)

    entering_unfinished : Fits w P → (u o : ℕ) → enters_on (w.words (Waiting u)) o ≡ true
        → IsUnfinished (with_known t l w.known u).unfinished op.Enter o × ((m : ℕ) × (monitor_in (marks w o) ≡ Some m))
    entering_unfinished h u o e = let b = h.waits.entering u o e in (forth (λ u z. IsUnfinished z op.Enter o) u (λ e. absurd (cc e)) b.0, b.1)

    pub waits_go_on : Fits w P → Quiet waits
    waits_go_on h = search (waiting_unfinished h, entering_unfinished h, h.waits)

    pub stamps_go_on : Fits w P → Quiet stamps
    stamps_go_on h = record {
      logged = h.stamps.logged;
      words = h.stamps.words;
      even = λ o e. h.stamps.even o (λ u g. back o u (e u g));
      bound = h.stamps.bound;
      exact = λ o. stamp_goes_on (λ u. (w.known u).log) (monitor_of P o).owner t l w.known o
          (w.words (Stamp o)) (elim goes_on [ inl e ↦ inl (sym e) | inr e ↦ inr e ]) (h.stamps.exact o);
    }

    pub dumps_go_on : Fits w P → Quiet shots
    dumps_go_on h = shots_go_on (λ u. each_with_known (λ u y. ((w.known u).unfinished ≡ y.unfinished) ⊎ ((w.known u).unfinished ≡ None)) t l w.known u
        (elim goes_on [ inl e ↦ inl (sym e) | inr e ↦ inr e ]) (λ d. inl refl)) h.shots

    pub quiet_step : (w.known t).running ≡ true → Fits w P → (c : Clause) → Quiet c
    quiet_step runs h absent = absent_next P h
    quiet_step runs h safe = safe_next P P (λ u. ends (w.known u).log) runs h
    quiet_step runs h waits = waits_go_on h
    quiet_step runs h stamps = stamps_go_on h
    quiet_step runs h shots = dumps_go_on h
    quiet_step runs h c = clauses w P h c

    -- A STAGE that is plain before and afterwards.
    module _ (before : IsPlain (w.known t).stage) (now : IsPlain l.stage) where
      abbrev pub Plain : Clause → Type 0
      Plain quiet = StoppedAreQuiet (λ u. (w.known u).running) (λ u. (w.known u).reached) (λ u. (with_known t l w.known u).stage)
      Plain waits =
          WaitsFit (λ o. monitor_in (marks w o)) (λ u. w.words (Waiting u)) (λ u. (w.known u).wait)
          (λ u. (w.known u).log) (λ u. (with_known t l w.known u).stage) (λ u. (with_known t l w.known u).unfinished)
          (λ u. (w.known u).running) (waits_at P) (notified_at P)
      Plain c = Quiet c

      pub plain_step : (w.known t).running ≡ true → Fits w P → (c : Clause) → Plain c
      plain_step runs h quiet = quiet_next P now.its_revocation runs h
      plain_step runs h waits = waits_move before now (waits_go_on h)
      plain_step runs h c = quiet_step runs h c
