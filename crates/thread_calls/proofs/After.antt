-- What the steps of a call leave is what its pass is after them.
use Rattle.std.proofs.Common.{◌≡◌, ℕ, ◌≤◌, ◌∷◌, [], cond, Bool, true, false, List, length, Option, None, refl, ap, ◌∙◌, subst, arith, inl, inr}
use Rattle.plain_monitor.specs.declared.entry.Entry.{Entry}
use Rattle.core_world.specs.declared.answer.Progress.{Progress}
use Rattle.core_world.specs.declared.answer.Progress.TheVariants.{Done, Pending}
use Rattle.core_world.specs.declared.answer.PendingCause.{PendingCause}
use Rattle.core_world.specs.declared.answer.PendingCause.TheVariants as why
use Rattle.core_world.specs.declared.word_id.WordId.{WordId}
use Rattle.core_world.specs.declared.plan.StepPlan.{StepPlan}
use Rattle.core_world.specs.declared.heap_call.HeapCall.{HeapCall}
use Rattle.core_world.specs.declared.heap_call.Unfinished.{Unfinished}
use Rattle.core_world.specs.Due.{Runs, Ran}
use Rattle.core_world.specs.Steps.{known_after, known_hit, known_miss}
use Rattle.core_world.specs.Threads.ThreadView.{ThreadView, StepMade}
use Rattle.core_world.specs.Trees.StepTree.{StepTree, done, unreachable, step}
use Rattle.core_world.specs.Words.Acts.{hits}
use Rattle.core_world.specs.Words.Shape.{Shape}
use Rattle.core_calls.specs.CallsSay.{EnterCause, PutInMark}
use Rattle.core_calls.specs.Causes.{AmongSteps, AmongAfter, Missed, Cause, Overtaken}
use Rattle.core_calls.specs.Paths.{Leaves, Tells, ThreadHasLogged, entries_of}
use Rattle.core_calls.proofs.Runs.{did, did_none, did_one}
use Rattle.heap_table.specs.Parts.{HasMadeSteps}
use Rattle.heap_table.specs.Resting.{Rests}
use Rattle.heap_table.specs.Seen.{HeapSeen, PassSeen}
use Rattle.lock_runtime.specs.LookParts.{HasDumped}
use Rattle.lock_runtime.specs.Standing.{IsRunning, StandsAfterTurn}
use Rattle.thread_calls.specs.Advances.{RanFrom, DoneIn, PendedIn, HasStepped, MadeCall}
use Rattle.thread_calls.specs.inner.Made.{IsAfter, HasLogged, HasLeft}

-- a run leaves its thread's number
step_thread : (s : Shape) (start : ℕ) (p : StepPlan) (n : ℕ) (k : ThreadView) (b : Bool)
    → (cond b (known_hit s start p n k) (known_miss s start p n k)).thread ≡ k.thread
step_thread s start p n k true = refl
step_thread s start p n k false = refl

module _ {A : Type 0} (s : Shape) (start : ℕ) where
  runs_thread : (d : StepTree A) (k l : ThreadView) (a : A) → Runs s start d k l a → l.thread ≡ k.thread
  runs_thread (done b) k l a r = ap (λ (x : ThreadView). x.thread) r.0
  runs_thread unreachable k l a r = absurd r
  runs_thread (step p f) k l a r =
      runs_thread (f r.0) (known_after s start p r.0 k) l a r.1 ∙ step_thread s start p r.0 k (hits p.act r.0)

pub same_thread : {A : Type 0} {s : Shape} {start : ℕ} {d : StepTree A} {k l : ThreadView} {a : A} → Ran s start d k l a → l.thread ≡ k.thread
same_thread {A} {s} {start} {d} {k} {l} {a} r = runs_thread s start d k l a r.by

-- what is told may be told in part
pub tells_at : {k l : ThreadView} {P Q : List StepMade → Type 0} (t : Tells k l P) → Q t.steps → Tells k l Q
tells_at t says =
    record {
      steps = t.steps;
      added = t.added;
      new = t.new;
      log = t.log;
      entries = t.entries;
      unfinished = t.unfinished;
      checking = t.checking;
      says = says;
    }

pub tells_so : {k l : ThreadView} {P Q : List StepMade → Type 0} → Tells k l P → ((ms : List StepMade) → P ms → Q ms) → Tells k l Q
tells_so t so = tells_at t (so t.steps t.says)

-- the pass was k, and is q: the run was on its heap, and had this answer
pub record Came (h : HeapSeen) (k q : PassSeen) : Type 0 where
  pub rests : Rests h q
  pub limit : q.limit ≡ k.limit
  pub thread : q.known.thread ≡ k.known.thread

pub came : {A : Type 0} {h : HeapSeen} {d : StepTree A} {k q : PassSeen} {a : A} → Rests h q → HasMadeSteps h d k q a → Came h k q
came {A} {h} {d} {k} {q} {a} rests run =
    record { rests = rests; limit = run.limit; thread = same_thread run.ran }

pub came_dumped : {A : Type 0} {h : HeapSeen} {d : StepTree A} {k q : PassSeen} {a : A} → Rests h q → HasDumped h d k q a → Came h k q
came_dumped {A} {h} {d} {k} {q} {a} rests run =
    record { rests = rests; limit = run.limit; thread = same_thread run.ran }

-- STEPS. What logs an entry, or has a cause, is some step.
pub entries_some : (ms : List StepMade) (e : Entry) (es : List Entry) → entries_of ms ≡ e ∷ es → 1 ≤ length ms
entries_some [] e es h = absurd (cc h)
entries_some (m ∷ ms) e es h = omega arith

among_some : (P : StepMade → Type 0) (ms : List StepMade) → AmongSteps P ms → 1 ≤ length ms
among_some P [] h = absurd h
among_some P (m ∷ ms) h = omega arith

after_some : (P : StepMade → List StepMade → Type 0) (ms : List StepMade) → AmongAfter P ms → 1 ≤ length ms
after_some P [] h = absurd h
after_some P (m ∷ ms) h = omega arith

pub missed_some : {Had : WordId → ℕ → List StepMade → Type 0} {expected found : ℕ} (ms : List StepMade) → Missed Had expected found ms → 1 ≤ length ms
missed_some ms h = after_some _ ms h.among

pub cause_some : (t o : ℕ) (w : PendingCause) (ms : List StepMade) → Cause t o w ms → 1 ≤ length ms
cause_some t o (why.Owned word) ms h = among_some _ ms h.2
cause_some t o (why.Raced expected found) ms h = missed_some ms h
cause_some t o why.Inflating ms h = among_some _ ms h
cause_some t o why.Halted ms h = among_some _ ms h.2
cause_some t o _ ms h = among_some _ ms h.1

overtaken_some : (Had : WordId → ℕ → List StepMade → Type 0) (w : PendingCause) (ms : List StepMade) → Overtaken Had w ms → 1 ≤ length ms
overtaken_some Had (why.Raced expected found) ms h = missed_some ms h
overtaken_some Had w ms h = absurd h

pub enter_some : (requesting : Bool) (t o : ℕ) (w : PendingCause) (ms : List StepMade) → EnterCause requesting t o w ms → 1 ≤ length ms
enter_some requesting t o w ms h = elim h [ inl by ↦ cause_some t o w ms by.0.cause | inr by ↦ overtaken_some (PutInMark o) w ms by ]

pub stepped_by : (k q : PassSeen) {P : List StepMade → Type 0} (t : Tells k.known q.known P) → 1 ≤ length t.steps → HasStepped k q
stepped_by k q t some = record { steps = t.steps; added = t.added; some = some }

-- how a thread stands says nothing of the answer
pub stands_same : (A : Type 0) (k : ThreadView) (why : PendingCause) → StandsAfterTurn {A = A} k (Pending why) → StandsAfterTurn {A = Bool} k (Pending why)
stands_same A k (why.Stopping word) h = h
stands_same A k other h = h

module _ (h : HeapSeen) (k q : PassSeen) (c : Came h k q) where
  pub after_did : {es : List Entry} {u : Option Unfinished} → ThreadHasLogged es u false k.known q.known → IsAfter h k q
  after_did d = record { rests = c.rests; limit = c.limit; thread = c.thread; unchecked = d.checking }

  -- a call that was done, and logged one entry
  pub logged : (e : Entry) → Tells k.known q.known (Leaves (e ∷ []) None false) → IsRunning q.known
      → (task : HeapCall) → DoneIn h k q task → HasLogged h k q e
  logged e t runs task was =
      let d = did (e ∷ []) None false k.known q.known t in
      let one = did_one e None false k.known q.known d in
      record {
        is_after = after_did d;
        stamp = one.0;
        log = one.1;
        unfinished = d.unfinished;
        runs = runs;
        call = record { task = task; is = was; stepped = stepped_by k q t (entries_some t.steps e [] t.says.entries) };
      }

  -- a call that is pending
  pub left : (u : Option Unfinished) (why : PendingCause) → Tells k.known q.known (Leaves [] u false) → StandsAfterTurn {A = Bool} q.known (Pending why)
      → MadeCall (PendedIn h why) k q → HasLeft h k q u why
  left u why t stands call =
      let d = did [] u false k.known q.known t in
      record { is_after = after_did d; log = did_none u false k.known q.known d; unfinished = d.unfinished; stands = stands; call = call }

  -- by its progress, done or pending, from which its answer is made
  module _ {A B : Type 0} {d : StepTree B} (Says : List StepMade → B → Type 0) (progress : Progress A) (answer : Progress A → B)
      (tells : Tells k.known q.known (λ ms. Says ms (answer progress))) (stands : StandsAfterTurn q.known progress)
      (ran : RanFrom h d k q (answer progress)) where
    pub progress_done : (a : A) (e : Entry) → progress ≡ Done a → ((ms : List StepMade) → Says ms (answer (Done a)) → Leaves (e ∷ []) None false ms)
        → (task : HeapCall) → (RanFrom h d k q (answer (Done a)) → DoneIn h k q task) → HasLogged h k q e
    progress_done a e is so task was =
        logged e (tells_so (subst (λ (x : Progress A). Tells k.known q.known (λ ms. Says ms (answer x))) is tells) so)
        (subst (StandsAfterTurn q.known) is stands) task (was (subst (λ (x : Progress A). RanFrom h d k q (answer x)) is ran))

    pub progress_left : (u : Option Unfinished) (why : PendingCause) → progress ≡ Pending why
        → ((ms : List StepMade) → Says ms (answer (Pending why)) → Leaves [] u false ms)
        → ((ms : List StepMade) → Says ms (answer (Pending why)) → 1 ≤ length ms)
        → (task : HeapCall) → (RanFrom h d k q (answer (Pending why)) → PendedIn h why k q task) → HasLeft h k q u why
    progress_left u why is so some task was =
        let told = subst (λ (x : Progress A). Tells k.known q.known (λ ms. Says ms (answer x))) is tells in
        left u why (tells_so told so) (stands_same A q.known why (subst (StandsAfterTurn q.known) is stands))
        (record {
          task = task;
          is = was (subst (λ (x : Progress A). RanFrom h d k q (answer x)) is ran);
          stepped = stepped_by k q told (some told.steps told.says);
        })
