-- What polls, stops, resumes and checks leave of a thread's knowledge.
use Rattle.std.proofs.Common.{◌≡◌, ℕ, cond, Bool, true, false, List, [], refl, ap}
use Rattle.core_world.specs.declared.answer.Progress.{Progress}
use Rattle.core_world.specs.declared.answer.Progress.TheVariants.{Done, Pending}
use Rattle.core_world.specs.declared.answer.PendingCause.{PendingCause}
use Rattle.core_world.specs.declared.answer.PendingCause.TheVariants.{Stopping, Requested}
use Rattle.core_world.specs.declared.word_id.WordId.TheVariants.{Safepoint}
use Rattle.core_world.specs.declared.heap_call.HeapCall.TheVariants as task
use Rattle.core_world.specs.Due.{Runs, Ran}
use Rattle.core_world.specs.Threads.ThreadView.{ThreadView, StepMade, Start}
use Rattle.core_world.specs.Trees.Calls.{side_context}
use Rattle.core_world.specs.Trees.Operations.{check_steps}
use Rattle.core_world.specs.Trees.Plans.{CallContext, load, done_with, pending_for}
use Rattle.core_world.specs.Trees.SafepointSteps.{has_requester, poll_steps, stop_steps, resume_steps}
use Rattle.core_world.specs.Words.Shape.{Shape}
use Rattle.core_world.specs.Steps.{known_after}
use Rattle.core_calls.specs.Paths.{Tells, Leaves}
use Rattle.core_calls.specs.CallsSay.{PollSays, StopSays, ResumeSays, CheckSays}
use Rattle.core_calls.specs.Causes.{is_stopping, of_polls, of_resumes}
use Rattle.heap_table.specs.Parts.{HasMadeSteps}
use Rattle.heap_table.specs.Resting.{Rests, start_now}
use Rattle.heap_table.specs.Seen.{HeapSeen, PassSeen}
use Rattle.thread_interp.proofs.Asides.{IsBeside, beside, telling}

-- BY THE STEPS
poll_leaves : (k : Start) (ms : List StepMade) (turn : Progress (Unit {0})) → PollSays k ms turn → Leaves [] k.unfinished k.checking ms
poll_leaves k ms (Done x) so = so.0
poll_leaves k ms (Pending why) so = so.0

resume_leaves : (k : Start) (ms : List StepMade) (turn : Progress (Unit {0})) → ResumeSays k ms turn → Leaves [] k.unfinished k.checking ms
resume_leaves k ms (Done x) so = so.0
resume_leaves k ms (Pending why) so = so.0

-- a check that is pending for running threads is unfinished, and else none is
abbrev pub is_unfinished : Progress Bool → Bool
is_unfinished (Done stuck) = false
is_unfinished (Pending why) = is_stopping why

check_leaves : (k : Start) (ms : List StepMade) (turn : Progress Bool) → CheckSays k ms turn → Leaves [] k.unfinished (is_unfinished turn) ms
check_leaves k ms (Done stuck) so = so.0
check_leaves k ms (Pending why) so = so.0

-- polls and resumes ask for no safepoint
poll_asks_none : (why : PendingCause) → of_polls why ≡ true → is_stopping why ≡ false
poll_asks_none (Stopping word) h = absurd (cc h)
poll_asks_none why h = refl

resume_asks_none : (why : PendingCause) → of_resumes why ≡ true → is_stopping why ≡ false
resume_asks_none (Stopping word) h = absurd (cc h)
resume_asks_none why h = refl

-- BY THE PASSES
module _ (h : HeapSeen) (p q : PassSeen) (before : Rests h p) (rests : Rests h q) where
  abbrev start : Start
  start = start_now h p

  module _ (turn : Progress (Unit {0})) (run : HasMadeSteps h (poll_steps (side_context task.Poll start)) p q turn)
      (says : Tells p.known q.known (λ ms. PollSays start ms turn)) where
    pub poll_beside : IsBeside h p.known.checking p q
    poll_beside = beside h (poll_steps (side_context task.Poll start)) p q turn p.known.checking before rests run
        (telling p.known q.known (λ ms so. poll_leaves start ms turn so) says)

  pub poll_other : (why : PendingCause) → Tells p.known q.known (λ ms. PollSays start ms (Pending why)) → is_stopping why ≡ false
  poll_other why says = poll_asks_none why says.says.1.among

  module _ (turn : Progress (Unit {0})) (run : HasMadeSteps h (resume_steps (side_context task.Resume start) start.local) p q turn)
      (says : Tells p.known q.known (λ ms. ResumeSays start ms turn)) where
    pub resume_beside : IsBeside h p.known.checking p q
    resume_beside = beside h (resume_steps (side_context task.Resume start) start.local) p q turn p.known.checking before rests run
        (telling p.known q.known (λ ms so. resume_leaves start ms turn so) says)

  pub resume_other : (why : PendingCause) → Tells p.known q.known (λ ms. ResumeSays start ms (Pending why)) → is_stopping why ≡ false
  resume_other why says = resume_asks_none why says.says.1.among

  module _ (x : Unit {0}) (run : HasMadeSteps h (stop_steps (side_context task.Stop start) start.local) p q x)
      (says : Tells p.known q.known (λ ms. StopSays start ms x)) where
    pub stop_beside : IsBeside h p.known.checking p q
    stop_beside = beside h (stop_steps (side_context task.Stop start) start.local) p q x p.known.checking before rests run
        (telling p.known q.known (λ ms so. so.0) says)

  module _ (turn : Progress Bool) (run : HasMadeSteps h (check_steps h.heap.shape start) p q turn)
      (says : Tells p.known q.known (λ ms. CheckSays start ms turn)) where
    pub check_beside : IsBeside h (is_unfinished turn) p q
    check_beside = beside h (check_steps h.heap.shape start) p q turn (is_unfinished turn) before rests run
        (telling p.known q.known (λ ms so. check_leaves start ms turn so) says)

-- A poll is one load, which leaves the hold words.
module _ (s : Shape) (start : ℕ) (e : CallContext) (k l : ThreadView) (turn : Progress (Unit {0})) where
  pub poll_holds : Ran s start (poll_steps e) k l turn → l.holds ≡ k.holds
  poll_holds ran = cases (has_requester ran.by.0) ran.by.1
    where
      cases : (b : Bool)
          → Runs s start (cond b (pending_for (Requested ran.by.0)) (done_with tt)) (known_after s start (load e Safepoint) ran.by.0 k) l turn
          → l.holds ≡ k.holds
      cases true r = ap (λ (x : ThreadView). x.holds) r.0
      cases false r = ap (λ (x : ThreadView). x.holds) r.0
