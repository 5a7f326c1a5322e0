-- The parts of a turn, and of a check, one after the other.
use Rattle.std.proofs.Common.{◌≡◌, ◌≢◌, ◌⊎◌, ℕ, ◌+◌, ◌<◌, ◌≤◌, not, ◌&&◌, if◌then◌else◌, Bool, true, false}
use Rattle.std.proofs.Common.{◌++◌, None, is_some, refl, sym, ap, ◌∙◌, subst, arith, inl, inr, true≢false}
use Rattle.core_world.specs.declared.answer.Progress.{Progress}
use Rattle.core_world.specs.declared.answer.Progress.TheVariants.{Done, Pending}
use Rattle.core_world.specs.declared.answer.PendingCause.{PendingCause}
use Rattle.core_world.specs.declared.answer.PendingCause.TheVariants.{Stopping}
use Rattle.core_world.specs.declared.heap_call.HeapCall.{HeapCall}
use Rattle.core_world.specs.declared.heap_call.HeapCall.TheVariants as task
use Rattle.core_world.specs.Threads.ThreadView.{ThreadView, Start}
use Rattle.core_world.specs.Threads.Stages.{one_if}
use Rattle.core_world.specs.Trees.Calls.{side_context}
use Rattle.core_world.specs.Trees.Operations.{check_steps}
use Rattle.core_world.specs.Trees.SafepointSteps.{poll_steps, stop_steps, resume_steps}
use Rattle.core_calls.specs.Paths.{Tells}
use Rattle.core_calls.specs.CallsSay.{PollSays, StopSays, ResumeSays, CheckSays}
use Rattle.core_calls.specs.Causes.{is_stopping}
use Rattle.heap_table.specs.Kept.{all_holds}
use Rattle.heap_table.specs.Parts.{HasMadeSteps}
use Rattle.heap_table.specs.Resting.{Rests, MayCall, start_now}
use Rattle.heap_table.specs.Seen.{HeapSeen, PassSeen}
use Rattle.lock_runtime.specs.Standing.{IsRunning, IsStopped, IsAsking, HasStopped, StandsAfterTurn, StandsAfterResumeTurn, StandsAfterCheckTurn}
use Rattle.object_program.specs.Program.{ProgramText}
use Rattle.thread_calls.specs.Advances.{DoneIn, PendedIn, HasStepped, MadeCall, MakesCall, HasSpent, HasFallen, HasAdvanced, MayAdvance, progress_of}
use Rattle.thread_calls.specs.declared.came.Went.{Went}
use Rattle.thread_calls.specs.declared.came.Went.TheVariants as went
use Rattle.thread_calls.specs.Between.{IsOn}
use Rattle.thread_frame.specs.Frames.{FrameSeen, unspent, has_ended}
use Rattle.thread_interp.specs.declared.moved.Moved.{Moved}
use Rattle.thread_interp.specs.declared.moved.RunState.{RunState}
use Rattle.thread_interp.specs.declared.moved.RunState.TheVariants.{Live, Blocked, Ended}
use Rattle.thread_interp.specs.Checks.{IsSetRunning, HasChecked, StandsAfterCheck}
use Rattle.thread_interp.specs.Moves.{HasMoved, IsState, CalledLast, LastCall, IsSetStill, StandsAfter, polls_in}
use Rattle.thread_interp.specs.inner.Running.{HasAdded, IsSet, StandsReady, HasTriedToRun, CalledBy, HasPolled}
use Rattle.thread_interp.specs.inner.Running.{IsGoing, IsGoneTo, StandsGone, HasGone, IsSetStopped}
use Rattle.thread_interp.specs.Runners.{IsRunner}
use Rattle.thread_interp.specs.inner.Runners.{runner_of}
use Rattle.thread_interp.proofs.Added.{polls_both, none_added, some_added, stepped_then, then_stepped, called_then}
use Rattle.thread_interp.proofs.Added.{called_once, call_added, ran_added, ran_stepped, poll_stepped, poll_counts}
use Rattle.thread_interp.proofs.Alive.{log_goes_on}
use Rattle.thread_interp.proofs.Asides.{IsBeside, still_on}
use Rattle.thread_interp.proofs.Sides.{is_unfinished, poll_beside, poll_other, poll_holds, resume_beside, resume_other, stop_beside, check_beside}

both : {b : Bool} {A : Type 0} → b ≡ true → b ≡ false → A
both is not_so = absurd (true≢false (sym is ∙ not_so))

pub progress_done : (turn : Progress (Unit {0})) → ((why : PendingCause) → turn ≡ Pending why → ⊥) → turn ≡ Done tt
progress_done (Done x) other = refl
progress_done (Pending why) other = absurd (other why refl)

-- what a step came to where it isn't pending, and whether an instruction was done
abbrev pub is_done : Went → Bool
is_done went.Done = true
is_done went.On = false
is_done went.Pending = false

pub went_done : (w : Went) (why : PendingCause) → (w ≡ went.Pending → ⊥) → progress_of w why ≡ Done (is_done w)
went_done went.Done why other = refl
went_done went.On why other = refl
went_done went.Pending why other = absurd (other refl)

pub not_done : (w : Went) → (w ≡ went.Done → ⊥) → is_done w ≡ false
not_done went.Done other = absurd (other refl)
not_done went.On other = refl
not_done went.Pending other = refl

-- SET RUNNING
module _ (h : HeapSeen) (text : ProgramText) (fuel : ℕ) (p : PassSeen) (f : FrameSeen) (on : IsOn h text fuel p f) (still : p.known.running ≡ false) where
  pub may_resume : p.known.requesting ≡ false → MayCall h p task.Resume
  may_resume asks = record { rests = on.rests; may = λ i. not (still i) && not (asks i) }

  -- its request stands already
  pub ready_asking : p.known.requesting ≡ true → HasTriedToRun h text fuel p p f (Done tt)
  ready_asking asks =
      record {
        on = on;
        checking = refl;
        asking = refl;
        thread = refl;
        log = refl;
        stands = record {
          goes = inr (record { runs = still; asks = asks });
          set = subst (λ b. IsSetRunning b h p p) (sym asks) refl;
          added = none_added p;
        };
      }

  module _ (q : PassSeen) (asks : p.known.requesting ≡ false) (rests : Rests h q) where
    abbrev start : Start
    start = start_now h p

    resumed_free : (turn : Progress (Unit {0})) → StandsAfterResumeTurn q.known turn → q.known.requesting ≡ false
    resumed_free (Done x) stands = stands.asks
    resumed_free (Pending why) stands = stands.asks

    resumed_stands : (turn : Progress (Unit {0})) → HasMadeSteps h (resume_steps (side_context task.Resume start) start.local) p q turn
        → Tells p.known q.known (λ ms. ResumeSays start ms turn) → StandsAfterResumeTurn q.known turn → StandsReady h p q turn
    resumed_stands (Done x) run says stands =
        record {
          goes = inl stands;
          set = subst (λ b. IsSetRunning b h p q) (sym asks) run.ran;
          added = ran_added h p q (resume_steps (side_context task.Resume start) start.local) (Done x) run.ran;
        }
    resumed_stands (Pending why) run says stands =
        record {
          stopped = stands;
          other = resume_other h p q on.rests rests why says;
          free = asks;
          pended = run.ran;
          stepped = ran_stepped h p q (resume_steps (side_context task.Resume start) start.local) (Pending why) refl run.ran;
        }

    pub ready_resumed : (turn : Progress (Unit {0})) → HasMadeSteps h (resume_steps (side_context task.Resume start) start.local) p q turn
        → Tells p.known q.known (λ ms. ResumeSays start ms turn) → StandsAfterResumeTurn q.known turn → HasTriedToRun h text fuel p q f turn
    ready_resumed turn run says stands =
        let is = resume_beside h p q on.rests rests turn run says in
        let free = resumed_free turn stands in
        record {
          on = still_on h text p.known.checking p q f is fuel on (λ asked unchecked. both asked free) (λ checks. on.checks (sym is.checking ∙ checks));
          checking = is.checking;
          asking = free ∙ sym asks;
          thread = is.thread;
          log = is.log;
          stands = resumed_stands turn run says stands;
        }

-- A STEP, by way of a poll where the thread runs
runs_after : (k : ThreadView) (why : PendingCause) → is_stopping why ≡ false → IsRunning k → StandsAfterTurn {A = Bool} k (Pending why)
runs_after k (Stopping word) other runs = absurd (cc other)
runs_after k why other runs = runs

module _ (h : HeapSeen) (text : ProgramText) (fuel : ℕ) (p q : PassSeen) (f : FrameSeen) (may : MayAdvance h text fuel p f) (rests : Rests h q)
    (turn : Progress (Unit {0})) (run : HasMadeSteps h (poll_steps (side_context task.Poll (start_now h p))) p q turn)
    (says : Tells p.known q.known (λ ms. PollSays (start_now h p) ms turn)) (stands : IsRunning q.known) where
  polled : IsBeside h p.known.checking p q
  polled = poll_beside h p q may.on.rests rests turn run says

  polled_unchecked : q.known.checking ≡ false
  polled_unchecked = polled.checking ∙ may.unchecked

  polled_on : IsOn h text fuel q f
  polled_on = still_on h text p.known.checking p q f polled fuel may.on (λ asked unchecked. both asked stands.asks) (λ checks. both checks polled_unchecked)

  pub may_advance : MayAdvance h text fuel q f
  may_advance = record { on = polled_on; unchecked = polled_unchecked; goes = inl stands.runs; live = may.live }

  abbrev poll : HasStepped p q
  poll = poll_stepped h p q turn run.ran

  one_poll : polls_in poll.steps ≡ 1
  one_poll = poll_counts h p q turn run.ran

  pub poll_pended : (why : PendingCause) → turn ≡ Pending why → HasPolled h text fuel p q f f (Pending why)
  poll_pended why is =
      let says_why = subst (λ (x : Progress (Unit {0})). Tells p.known q.known (λ ms. PollSays (start_now h p) ms x)) is says in
      let run_why = subst (λ (x : Progress (Unit {0})). HasMadeSteps h (poll_steps (side_context task.Poll (start_now h p))) p q x) is run in
      record {
        on = polled_on;
        unchecked = polled_unchecked;
        thread = polled.thread;
        stands = runs_after q.known why (poll_other h p q may.on.rests rests why says_why) stands;
        spent = (refl, may.live);
        fallen = tt;
        stepped = poll;
        polls = omega (arith, one_poll);
        called = called_once (PendedIn h why) h p q may.on.rests (record { task = task.Poll; is = run_why.ran; stepped = poll });
      }

  -- what is done after the poll is done
  module _ (done : turn ≡ Done tt) (r : PassSeen) (g : FrameSeen) where
    -- the poll was the last call, where a local instruction was done after it
    poll_last : r ≡ q → CalledLast (DoneIn h) h p r
    poll_last same =
        let run_done = subst (λ (x : Progress (Unit {0})). HasMadeSteps h (poll_steps (side_context task.Poll (start_now h p))) p q x) done run in
        subst (CalledLast (DoneIn h) h p) (sym same)
        (called_once (DoneIn h) h p q may.on.rests (record { task = task.Poll; is = run_done.ran; stepped = poll }))

    called_after : (next : Progress Bool) → MakesCall h q r f next → CalledBy h p r next
    called_after (Done b) (inl none) = poll_last none.1
    called_after (Done b) (inr one) = called_then p q r (DoneIn h) h (some_added p q poll) (called_once (DoneIn h) h q r rests one)
    called_after (Pending why) one = called_then p q r (PendedIn h why) h (some_added p q poll) (called_once (PendedIn h why) h q r rests one)

    falls : (next : Progress Bool) → HasFallen q r f g next → HasFallen p r f g next
    falls (Done b) fell =
        let same = ap all_holds (poll_holds h.heap.shape h.heap.start (side_context task.Poll (start_now h p)) p.known q.known turn run.ran) in
        omega (arith, fell, same)
    falls (Pending why) fell = tt

    pub advanced : (next : Progress Bool) → HasAdvanced h text fuel q r f g next → HasPolled h text fuel p r f g next
    advanced next did =
        let more = call_added h q r f next did.calls in
        let both = polls_both more.steps poll.steps in
        record {
          on = did.on;
          unchecked = did.unchecked;
          thread = did.thread ∙ polled.thread;
          stands = did.stands;
          spent = did.spent;
          fallen = falls next did.fallen;
          stepped = stepped_then p q r poll more;
          polls = omega (arith, both, one_poll);
          called = called_after next did.calls;
        }

-- A STEP without a poll, of a thread whose request stands
module _ (h : HeapSeen) (text : ProgramText) (fuel : ℕ) (p q : PassSeen) (f g : FrameSeen) (may : MayAdvance h text fuel p f)
    (still : p.known.running ≡ false) where
  asks : p.known.requesting ≡ true
  asks = elim may.goes [ inl runs ↦ both runs still | inr asked ↦ asked ]

  -- its frame stands before a call
  not_local : f.mode ≡ None → ⊥
  not_local local = let some = ap is_some local in absurd (cc (some, (may.on.asks asks may.unchecked).before))

  called_at_once : (next : Progress Bool) → MakesCall h p q f next → CalledBy h p q next
  called_at_once (Done b) (inl none) = absurd (not_local none.0)
  called_at_once (Done b) (inr one) = called_once (DoneIn h) h p q may.on.rests one
  called_at_once (Pending why) one = called_once (PendedIn h why) h p q may.on.rests one

  stepped_at_once : (next : Progress Bool) → MakesCall h p q f next → HasStepped p q
  stepped_at_once (Done b) (inl none) = absurd (not_local none.0)
  stepped_at_once (Done b) (inr one) = one.stepped
  stepped_at_once (Pending why) one = one.stepped

  pub went_on : (next : Progress Bool) → HasAdvanced h text fuel p q f g next → HasPolled h text fuel p q f g next
  went_on next did =
      let asked : one_if p.known.requesting ≡ 1 = ap one_if asks in
      record {
        on = did.on;
        unchecked = did.unchecked;
        thread = did.thread;
        stands = did.stands;
        spent = did.spent;
        fallen = did.fallen;
        stepped = stepped_at_once next did.calls;
        polls = omega (arith, asked);
        called = called_at_once next did.calls;
      }

below : (m n : ℕ) → m ≤ n → m ≢ n → m < n
below m n most less = omega (arith, most, less)

-- GOING ON. One more instruction was done, or none was.
abbrev Counts : Bool → ℕ → ℕ → Type 0
Counts b count now = ((b ≡ true) × (now ≡ count + 1)) ⊎ ((b ≡ false) × (now ≡ count))

module _ (h : HeapSeen) (text : ProgramText) (fuel quantum : ℕ) (p q r : PassSeen) (f g g2 : FrameSeen) (count : ℕ)
    (going : IsGoing h text fuel quantum p q f g count) where
  -- the polls, of which the step has one unless the request stands
  polls_now : (step : HasStepped q r) → polls_in (step.steps ++ going.added.steps) ≡ polls_in step.steps + polls_in going.added.steps
  polls_now step = polls_both step.steps going.added.steps

  -- the last call was pending
  pub gone_blocked : (why : PendingCause) → HasPolled h text fuel q r g g2 (Pending why)
      → HasGone h text fuel quantum p r f g2 (record { instructions = count; state = Blocked why })
  gone_blocked why did =
      let polls = polls_now did.stepped in
      record {
        on = did.on;
        unchecked = did.unchecked;
        thread = did.thread ∙ going.thread;
        most = omega (arith, going.few);
        spent = omega (arith, going.spent, did.spent.0);
        stepped = then_stepped p q r going.added did.stepped;
        polls = omega (arith, polls, going.polls);
        state = (did.spent.1, called_then p q r (PendedIn h why) h going.added did.called);
        stands = standing why did.stands;
      }
    where
      standing : (why : PendingCause) → StandsAfterTurn {A = Bool} r.known (Pending why) → StandsGone r.known (Blocked why)
      standing (Stopping word) stands = stands
      standing why stands = stands

  -- or it was done, and the thread has done so many instructions now
  module _ (b : Bool) (did : HasPolled h text fuel q r g g2 (Done b)) (now : ℕ) (counts : Counts b count now) where
    spent_now : unspent f ≡ unspent g2 + now
    spent_now = elim counts [
      | inl one ↦
          let spent : unspent g ≡ unspent g2 + 1 = subst (λ (x : Bool). HasSpent g g2 (Done x)) one.0 did.spent in
          omega (arith, going.spent, spent, one.1)
      | inr none ↦
          let spent : unspent g ≡ unspent g2 = subst (λ (x : Bool). HasSpent g g2 (Done x)) none.0 did.spent in
          omega (arith, going.spent, spent, none.1)
    ]

    most : now ≤ quantum
    most = elim counts [ inl one ↦ omega (arith, going.few, one.1) | inr none ↦ omega (arith, going.few, none.1) ]

    one_more : now ≤ count + 1
    one_more = elim counts [ inl one ↦ omega (arith, one.1) | inr none ↦ omega (arith, none.1) ]

    abbrev stepped : HasStepped p r
    stepped = then_stepped p q r going.added did.stepped

    polled_enough : now ≤ polls_in stepped.steps + one_if p.known.requesting
    polled_enough = let polls = polls_now did.stepped in omega (arith, polls, going.polls, did.polls, one_more)

    last : CalledLast (DoneIn h) h p r
    last = called_then p q r (DoneIn h) h going.added did.called

    pub gone_ended : has_ended g2 ≡ true → HasGone h text fuel quantum p r f g2 (record { instructions = now; state = Ended })
    gone_ended over =
        record {
          on = did.on;
          unchecked = did.unchecked;
          thread = did.thread ∙ going.thread;
          most = most;
          spent = spent_now;
          stepped = stepped;
          polls = polled_enough;
          state = (over, last);
          stands = did.stands;
        }

    pub gone_live : has_ended g2 ≡ false → now ≡ quantum → HasGone h text fuel quantum p r f g2 (record { instructions = now; state = Live })
    gone_live live all =
        record {
          on = did.on;
          unchecked = did.unchecked;
          thread = did.thread ∙ going.thread;
          most = most;
          spent = spent_now;
          stepped = stepped;
          polls = polled_enough;
          state = (all, live, last);
          stands = did.stands;
        }

    pub goes_on : has_ended g2 ≡ false → now ≢ quantum → IsGoing h text fuel quantum p r f g2 now
    goes_on live less =
        let asks : one_if r.known.requesting ≡ 0 = ap one_if did.stands.asks in
        record {
          may = record { on = did.on; unchecked = did.unchecked; goes = inl did.stands.runs; live = live };
          thread = did.thread ∙ going.thread;
          spent = spent_now;
          few = below now quantum most less;
          added = some_added p r stepped;
          polls = omega (arith, polled_enough, asks);
        }

-- STOPPED
module _ (h : HeapSeen) (text : ProgramText) (fuel : ℕ) (p : PassSeen) (f : FrameSeen) (on : IsOn h text fuel p f) where
  pub may_stop : p.known.running ≡ true → MayCall h p task.Stop
  may_stop runs = record { rests = on.rests; may = runs }

  pub still_kept : p.known.running ≡ false → IsSetStopped h text fuel p p f
  still_kept still =
      record {
        on = on;
        checking = refl;
        thread = refl;
        log = refl;
        added = none_added p;
        stands = inl (record { still = still; same = refl });
      }

  pub still_stopped : (q : PassSeen) → p.known.running ≡ true → Rests h q
      → HasMadeSteps h (stop_steps (side_context task.Stop (start_now h p)) (start_now h p).local) p q tt
      → Tells p.known q.known (λ ms. StopSays (start_now h p) ms tt) → HasStopped q.known → IsSetStopped h text fuel p q f
  still_stopped q runs rests run says stands =
      let is = stop_beside h p q on.rests rests tt run says in
      record {
        on = still_on h text p.known.checking p q f is fuel on
            (λ asked unchecked. both asked stands.stopped.asks) (λ checks. on.checks (sym is.checking ∙ checks));
        checking = is.checking;
        thread = is.thread;
        log = is.log;
        added = ran_added h p q (stop_steps (side_context task.Stop (start_now h p)) (start_now h p).local) tt run.ran;
        stands = inr (record { ran_before = runs; stopped = stands.stopped; ran = run.ran });
      }

module _ (h : HeapSeen) (text : ProgramText) (fuel : ℕ) (p q : PassSeen) (f : FrameSeen) (is : IsSetStopped h text fuel p q f) where
  pub runs_no_more : q.known.running ≡ false
  runs_no_more = elim is.stands [
    | inl kept ↦ ap (λ (x : PassSeen). x.known.running) kept.same ∙ kept.still
    | inr been ↦ been.stopped.runs
  ]

  -- a thread that ran was stopped, and one that didn't stands as it stood
  was_stopped : IsRunning p.known → IsStopped q.known
  was_stopped runs = elim is.stands [ inl kept ↦ both runs.runs kept.still | inr been ↦ been.stopped ]

  stood : p.known.running ≡ false → q ≡ p
  stood still = elim is.stands [ inl kept ↦ kept.same | inr been ↦ both been.ran_before still ]

  pub set_still : IsSetStill p.known.running h p q
  set_still = elim is.stands [
    | inl kept ↦ subst (λ b. IsSetStill b h p q) (sym kept.still) kept.same
    | inr been ↦ subst (λ b. IsSetStill b h p q) (sym been.ran_before) been.ran
  ]

  -- A TURN after its stop, from the pass before it
  module _ (before ready : PassSeen) (first : HasAdded before ready) where
    last_call : (Is : PassSeen → PassSeen → HeapCall → Type 0) → CalledLast Is h ready p → LastCall Is h before q
    last_call Is called = record { after = p; called = called_then before ready p Is h first called; still = set_still }

    stopped_state : (quantum count : ℕ) (state : RunState) → IsGoneTo h quantum count ready p f state
        → IsState h quantum count before (runner_of q f fuel) state
    stopped_state quantum count Live so = (so.0, so.1, last_call (DoneIn h) so.2)
    stopped_state quantum count (Blocked why) so = (so.0, last_call (PendedIn h why) so.1)
    stopped_state quantum count Ended so = (so.0, last_call (DoneIn h) so.1)

  asked_still : IsAsking p.known → IsAsking q.known
  asked_still asks = subst (λ (x : PassSeen). IsAsking x.known) (sym (stood asks.runs)) asks

  stopped_stands : (state : RunState) → StandsGone p.known state → StandsAfter q.known state
  stopped_stands (Blocked (Stopping word)) so = asked_still so
  stopped_stands _ so = was_stopped so

  pub has_moved : (quantum : ℕ) (before ready : PassSeen) (first : FrameSeen) (set : IsSet h before ready)
      → ready.known.requesting ≡ before.known.requesting → (m : Moved) → HasGone h text fuel quantum ready p first f m
      → HasMoved h quantum (runner_of before first fuel) (runner_of q f fuel) m
  has_moved quantum before ready first set asking m gone =
      let one = polls_both gone.stepped.steps set.added.steps in
      let two = polls_both is.added.steps (gone.stepped.steps ++ set.added.steps) in
      let same = ap one_if asking in
      record {
        most = gone.most;
        spent = gone.spent;
        stepped = stepped_then before p q (then_stepped before ready p set.added gone.stepped) is.added;
        polls = omega (arith, gone.polls, one, two, same);
        state = stopped_state before ready set.added quantum m.instructions m.state gone.state;
        stands = stopped_stands m.state gone.stands;
      }

  pub is_runner : IsRunner h text (runner_of q f fuel)
  is_runner = record { on = is.on; still = runs_no_more }

  -- a stopped thread stays so
  stopped_still : IsStopped p.known → IsStopped q.known
  stopped_still stopped = subst (λ (x : PassSeen). IsStopped x.known) (sym (stood stopped.runs)) stopped

  -- A CHECK, after its stop
  over : p.known.checking ≡ false → q.known.checking ≡ false
  over unchecked = is.checking ∙ unchecked

  pub has_checked : (turn : Progress Bool) → p.known.checking ≡ is_unfinished turn → StandsAfterCheckTurn p.known turn → StandsAfterCheck q.known turn
  has_checked (Done true) checking stands =
      let same = stood stands.stopped.runs in (
        record { stopped = stopped_still stands.stopped; halted = ap (λ (x : PassSeen). x.known.halted) same ∙ stands.halted },
        record { stopped = stopped_still stands.stopped; over = over checking },
      )
  has_checked (Done false) checking stands = record { stopped = was_stopped stands; over = over checking }
  has_checked (Pending (Stopping word)) checking stands = record { asking = asked_still stands; unfinished = is.checking ∙ checking }
  has_checked (Pending why) checking stands = record { stopped = was_stopped stands; over = over checking }

-- A TURN whose resume was pending
module _ (h : HeapSeen) (text : ProgramText) (fuel quantum : ℕ) (p q : PassSeen) (f : FrameSeen) (live : has_ended f ≡ false)
    (why : PendingCause) (ready : HasTriedToRun h text fuel p q f (Pending why)) where
  pub barred_moved : Rests h p → HasMoved h quantum (runner_of p f fuel) (runner_of q f fuel) (record { instructions = 0; state = Blocked why })
  barred_moved rests =
      record {
        most = omega arith;
        spent = omega arith;
        stepped = ready.stands.stepped;
        polls = omega arith;
        state = (live, last);
        stands = standing why ready.stands.other ready.stands.stopped;
      }
    where
      last : LastCall (PendedIn h why) h p q
      last =
          let call : MadeCall (PendedIn h why) p q = record { task = task.Resume; is = ready.stands.pended; stepped = ready.stands.stepped } in
          record {
            after = q;
            called = called_once (PendedIn h why) h p q rests call;
            still = subst (λ b. IsSetStill b h q q) (sym ready.stands.stopped.runs) refl;
          }

      standing : (why : PendingCause) → is_stopping why ≡ false → IsStopped q.known → StandsAfter q.known (Blocked why)
      standing (Stopping word) other stopped = absurd (cc other)
      standing why other stopped = stopped

  pub barred_runner : IsRunner h text (runner_of q f fuel)
  barred_runner = record { on = ready.on; still = ready.stands.stopped.runs }

-- and one that may go on
pub may_go : (h : HeapSeen) (text : ProgramText) (fuel : ℕ) (p q : PassSeen) (f : FrameSeen) (turn : Progress (Unit {0})) → p.known.checking ≡ false
    → has_ended f ≡ false → HasTriedToRun h text fuel p q f turn → IsRunning q.known ⊎ IsAsking q.known → MayAdvance h text fuel q f
may_go h text fuel p q f turn unchecked live ready stands =
    record {
      on = ready.on;
      unchecked = ready.checking ∙ unchecked;
      goes = elim stands [ inl runs ↦ inl runs.runs | inr asks ↦ inr asks.asks ];
      live = live;
    }

-- A CHECK
module _ (h : HeapSeen) (text : ProgramText) (fuel : ℕ) (p q : PassSeen) (f : FrameSeen) (free : p.known.requesting ≡ p.known.checking)
    (live : has_ended f ≡ false) where
  -- it may begin where its own request stands, and where the thread runs
  pub may_check : (turn : Progress (Unit {0})) → HasTriedToRun h text fuel p q f turn → IsRunning q.known ⊎ IsAsking q.known → MayCall h q task.Check
  may_check turn ready stands =
      let none = log_goes_on h text fuel q f ready.on live in
      record { rests = ready.on.rests; may = λ i. not (none i) && goes i }
    where
      goes : (if q.known.requesting then q.known.checking else q.known.running) ≡ true
      goes = elim stands [
        | inl runs ↦ ap (λ b. if b then q.known.checking else q.known.running) runs.asks ∙ runs.runs
        | inr asks ↦
            ap (λ b. if b then q.known.checking else q.known.running) asks.asks
            ∙ ready.checking ∙ sym free ∙ sym ready.asking ∙ asks.asks
      ]

  -- a resume that was pending leaves no check unfinished
  pub not_checked : (why : PendingCause) → HasTriedToRun h text fuel p q f (Pending why) → StandsAfterCheck q.known (Pending why)
  not_checked why ready = standing why ready.stands.other
    where
      checked : HasChecked q.known
      checked = record {
        stopped = ready.stands.stopped;
        over = ready.checking ∙ sym free ∙ sym ready.asking ∙ ready.stands.stopped.asks;
      }

      standing : (why : PendingCause) → is_stopping why ≡ false → StandsAfterCheck q.known (Pending why)
      standing (Stopping word) other = absurd (cc other)
      standing why other = checked

-- after it the pass and its frame still belong together
module _ (h : HeapSeen) (text : ProgramText) (fuel : ℕ) (p q : PassSeen) (f : FrameSeen) (on : IsOn h text fuel p f) (live : has_ended f ≡ false)
    (rests : Rests h q) (turn : Progress Bool) (run : HasMadeSteps h (check_steps h.heap.shape (start_now h p)) p q turn)
    (says : Tells p.known q.known (λ ms. CheckSays (start_now h p) ms turn)) (stands : StandsAfterCheckTurn q.known turn) where
  is_checked : IsBeside h (is_unfinished turn) p q
  is_checked = check_beside h p q on.rests rests turn run says

  pub check_left : q.known.checking ≡ is_unfinished turn
  check_left = is_checked.checking

  pub check_thread : q.known.thread ≡ p.known.thread
  check_thread = is_checked.thread

  pub check_log : q.known.log ≡ p.known.log
  check_log = is_checked.log

  -- a request that stands after it is the check's
  asks_as_check : (turn : Progress Bool) → StandsAfterCheckTurn q.known turn → q.known.checking ≡ is_unfinished turn
      → q.known.requesting ≡ true → q.known.checking ≡ false → ⊥
  asks_as_check (Done true) stands checking asked unchecked = both asked stands.stopped.asks
  asks_as_check (Done false) stands checking asked unchecked = both asked stands.asks
  asks_as_check (Pending (Stopping word)) stands checking asked unchecked = both checking unchecked
  asks_as_check (Pending why) stands checking asked unchecked = both asked stands.asks

  pub check_on : IsOn h text fuel q f
  check_on = still_on h text (is_unfinished turn) p q f is_checked fuel on (asks_as_check turn stands check_left) (λ checks. live)
