-- The calls on the safepoint word begin well.
use Rattle.std.proofs.Common.{◌≡◌, ℕ, ◌==◌, eq-eqb, Bool, true, false, cond, Option, Some, None, refl, sym, ap, ◌∙◌, subst, inl, inr}
use Rattle.mark_word.specs.Safe.{read_safe}
use Rattle.core_world.specs.declared.answer.Progress.{Progress}
use Rattle.core_world.specs.declared.answer.PendingCause.{PendingCause}
use Rattle.core_world.specs.declared.answer.PendingCause.TheVariants as why
use Rattle.core_world.specs.declared.heap_call.HeapCall.TheVariants.{Poll, Stop, Resume, Request, Reached, Release}
use Rattle.core_world.specs.Threads.AtRest.{AtRest}
use Rattle.core_world.specs.Trees.Calls.{steps_of, may_begin, side_context, end}
use Rattle.core_world.specs.Words.Forms.{requester_in, asks_in, runs_in, is_halted, is_still}
use Rattle.core_world.specs.Threads.ThreadView.{ThreadView, local_of, start_of}
use Rattle.core_world.specs.Trees.Operations.{lone_context}
use Rattle.core_world.specs.Trees.Plans.{CallContext, done_with, pending_for}
use Rattle.core_world.specs.Trees.SafepointSteps.{has_requester, running_too, requested_by, reached_word, released_word}
use Rattle.core_world.specs.Trees.SafepointSteps.{bar, unless, poll_steps, resume_steps, request_steps, reached_steps}
use Rattle.core_world.specs.Trees.StepTree.{StepTree, ◌>>=◌}
use Rattle.core_law.specs.Logic.{Heap, SoundWorldWith, Does}
use Rattle.core_law.specs.Sound.{Finishes}
use Rattle.core_law.specs.Begins.{BeginsWell}
use Rattle.core_steps.proofs.Looks.{looks_safe}
use Rattle.core_steps.proofs.LawRules.{stops, resumes, requests, releases, publishes_all}
use Rattle.core_steps.proofs.Resting.{Carries, carried, unasking, unchecking, rests, rests_asking}
use Rattle.core_steps.proofs.safepoint.SafeWords.{stopped_asks, resumed_asks, requested_runs, reached_there, released_asks}
use Rattle.core_law.proofs.Standing.{few_threads}
use Rattle.core_steps.proofs.Tests.{both, not_true, none_is, unsome}
use Rattle.core_steps.proofs.Trees.{answers, follows, binds, chooses, hitting, finding, swapping}

module _ (heap : Heap) where
  -- a call that tells nobody what its tree answers
  pub closes : {A : Type 0} (fresh : Bool) (d : StepTree A) (k : ThreadView)
      → Does heap fresh d k (λ b a l. AtRest heap.shape l) → Finishes heap fresh (d >>= end) k
  closes fresh d k h = binds heap fresh d end k _ (follows heap fresh d k _ _ h (λ b a l x. record { by = x }))

  -- STOP
  stop_finishes : (k : ThreadView) → SoundWorldWith heap k → AtRest heap.shape k → may_begin heap.shape heap.biasing k Stop ≡ true
      → Finishes heap true (steps_of heap.shape Stop (start_of heap.start k)) k
  unfolding steps_of
  stop_finishes k v rest runs =
      let e = side_context Stop (start_of heap.start k) in
      let unasks = unasking heap.shape k rest runs in
      let unchecks = unchecking heap.shape k rest unasks in
      hitting heap true _ _ k _ (λ n. refl) (λ i. publishes_all heap k e (record { runs = runs; calm = rest.calm; goes_on = refl })) (λ n i was.
      hitting heap false _ _ _ _ (λ n. refl) (λ i. stops heap _ e (record {
        runs = runs;
        calm = refl;
        published = refl;
        ended = λ h. (rest.ended h).0;
        still = rest.still;
        goes_on = refl;
      })) (λ n i was.
      answers heap false _ _ _ (rests heap.shape _ refl (stopped_asks heap _ n was.stands was.found runs ∙ unasks) unchecks (carried heap.shape k rest))))

  pub stop_begins : BeginsWell heap Stop
  stop_begins = record { does = stop_finishes }

  -- RESUME
  no_bar : (word : ℕ) → bar word ≡ None → (is_halted word ≡ false) × (requester_in word ≡ None)
  no_bar word e = cases (is_halted word) (has_requester word) refl refl e
    where
      cases : (a b : Bool) → is_halted word ≡ a → has_requester word ≡ b → cond a (Some why.Halted) (cond b (Some (why.Requested word)) None) ≡ None
          → (is_halted word ≡ false) × (requester_in word ≡ None)
      cases true b f g e = absurd (cc e)
      cases false true f g e = absurd (cc e)
      cases false false f g e = (f, unsome _ g)

  pub by_bar : {A : Type 0} (bar_is : Option PendingCause) (d : StepTree (Progress A)) (k : ThreadView) (Q : Bool → Progress A → ThreadView → Type 0)
      → ((b : Bool) (a : Progress A) → Q b a k)
      → (bar_is ≡ None → Does heap false d k Q) → Does heap false (unless bar_is d) k Q
  by_bar (Some why) d k Q any f = answers heap false _ k Q (any _ _)
  by_bar None d k Q any f = f refl

  resume_does : (k : ThreadView) (e : CallContext) → AtRest heap.shape k → k.running ≡ false
      → k.requesting ≡ false → e.check ≡ k.checking → e.unfinished ≡ k.unfinished
      → Does heap true (resume_steps e (local_of k)) k (λ b a l. AtRest heap.shape l)
  resume_does k e rest stopped unasks check goes =
      let carries : Carries k.moving k.log k.wait k.holds k.shots e.unfinished =
      subst (Carries k.moving k.log k.wait k.holds k.shots) (sym goes) (carried heap.shape k rest) in
      let unchecks = check ∙ unchecking heap.shape k rest unasks in
      hitting heap true _ _ k _ (λ n. refl) (λ i. looks_safe heap k e rest.calm check (inl goes) (inl goes)) (λ word i was.
      by_bar (bar word) _ _ _ (λ b a. rests heap.shape _ refl unasks unchecks carries) (λ free.
      let f = no_bar word free in
      swapping heap false _ word _ (λ n. done_with tt) (λ n. unless (bar n) (pending_for (why.Raced word n))) _ _ refl
      (λ i. resumes heap _ e word (record { stopped = stopped; unasking = unasks; unasked = f.1; unhalted = f.0; goes_on = refl }))
      (λ n i was h. answers heap false _ _ _ (rests heap.shape _ refl
      (ap (λ (b : Bool). asks_in (cond b (running_too (read_safe word) k.thread) n) k.thread) (eq-eqb n word h)
      ∙ resumed_asks heap _ word was.stands (was.found ∙ h) stopped f.1)
      unchecks carries))
      (λ n i was h. by_bar (bar n) _ _ _ (λ b a. rests heap.shape _ refl unasks unchecks carries)
      (λ f. answers heap false _ _ _ (rests heap.shape _ refl unasks unchecks carries)))))

  resume_finishes : (k : ThreadView) → SoundWorldWith heap k → AtRest heap.shape k → may_begin heap.shape heap.biasing k Resume ≡ true
      → Finishes heap true (steps_of heap.shape Resume (start_of heap.start k)) k
  unfolding steps_of
  resume_finishes k v rest may =
      let m = both _ _ may in
      closes true _ k (resume_does k (side_context Resume (start_of heap.start k)) rest (not_true _ m.0) (not_true _ m.1) refl refl)

  pub resume_begins : BeginsWell heap Resume
  resume_begins = record { does = resume_finishes }

  -- POLL
  poll_finishes : (k : ThreadView) → SoundWorldWith heap k → AtRest heap.shape k → may_begin heap.shape heap.biasing k Poll ≡ true
      → Finishes heap true (steps_of heap.shape Poll (start_of heap.start k)) k
  unfolding steps_of
  poll_finishes k v rest runs =
      let e = side_context Poll (start_of heap.start k) in
      let unasks = unasking heap.shape k rest runs in
      let unchecks = unchecking heap.shape k rest unasks in
      closes true (poll_steps e) k (
      hitting heap true _ _ k _ (λ n. refl) (λ i. looks_safe heap k e rest.calm refl (inl refl) (inl refl)) (λ word i was.
      chooses heap false (has_requester word) _ _ _ _
      (λ h. answers heap false _ _ _ (rests heap.shape _ refl unasks unchecks (carried heap.shape k rest)))
      (λ h. answers heap false _ _ _ (rests heap.shape _ refl unasks unchecks (carried heap.shape k rest)))))

  pub poll_begins : BeginsWell heap Poll
  poll_begins = record { does = poll_finishes }

  -- REQUEST
  request_finishes : (k : ThreadView) → SoundWorldWith heap k → AtRest heap.shape k → may_begin heap.shape heap.biasing k Request ≡ true
      → Finishes heap true (steps_of heap.shape Request (start_of heap.start k)) k
  unfolding steps_of
  request_finishes k v rest may =
      let m = both _ _ may in let n = both _ _ m.0 in
      let nothing = none_is _ n.1 in
      let e = lone_context Request in
      let unasks = unasking heap.shape k rest n.0 in
      let carries : Carries k.moving k.log k.wait k.holds k.shots None =
      subst (Carries k.moving k.log k.wait k.holds k.shots) nothing (carried heap.shape k rest) in
      closes true (request_steps e k.thread) k (
      hitting heap true _ _ k _ (λ n. refl)
      (λ i. looks_safe heap k e rest.calm (sym (not_true _ m.1)) (inr nothing) (inl (sym nothing))) (λ word i was.
      chooses heap false (has_requester word) _ _ _ _ (λ h. answers heap false _ _ _ (rests heap.shape _ refl unasks refl carries)) (λ free.
      swapping heap false _ word _ (λ n. done_with tt) (λ n. cond (has_requester n) (pending_for (why.Requested n)) (pending_for (why.Raced word n))) _ _ refl
      (λ i. requests heap _ e word (record {
        runs = n.0;
        calm = refl;
        ended = λ h. (rest.ended h).0;
        unasked = unsome _ free;
        still = rest.still;
        goes_on = inl refl;
      }) (inl refl))
      (λ n' i was h. answers heap false _ _ _ (rests_asking heap.shape _ refl
      (ap (λ (b : Bool). runs_in (cond b (requested_by (read_safe word) k.thread) n') k.thread) (eq-eqb n' word h)
      ∙ requested_runs heap _ word was.stands (was.found ∙ h) n.0)
      refl refl carries))
      (λ n i was h. chooses heap false (has_requester n) _ _ _ _
      (λ h. answers heap false _ _ _ (rests heap.shape _ refl unasks refl carries))
      (λ h. answers heap false _ _ _ (rests heap.shape _ refl unasks refl carries))))))

  pub request_begins : BeginsWell heap Request
  request_begins = record { does = request_finishes }

  -- REACHED
  reached_finishes : (k : ThreadView) → SoundWorldWith heap k → AtRest heap.shape k → may_begin heap.shape heap.biasing k Reached ≡ true
      → Finishes heap true (steps_of heap.shape Reached (start_of heap.start k)) k
  unfolding steps_of
  reached_finishes k v rest may =
      let m = both _ _ may in let n = both _ _ m.0 in
      let nothing = none_is _ n.1 in
      let carries : Carries k.moving k.log k.wait k.holds k.shots None =
      subst (Carries k.moving k.log k.wait k.holds k.shots) nothing (carried heap.shape k rest) in
      closes true (reached_steps (lone_context Reached)) k (
      hitting heap true _ _ k _ (λ n. refl)
      (λ i. looks_safe heap k (lone_context Reached) rest.calm (sym (not_true _ m.1)) (inr nothing) (inl (sym nothing))) (λ word i was.
      chooses heap false (is_still word) _ _ _ _
      (λ h. answers heap false _ _ _ (rests_asking heap.shape _ refl (rest.stopped n.0) refl refl carries))
      (λ h. answers heap false _ _ _ (rests_asking heap.shape _ refl (rest.stopped n.0) refl refl carries))))

  pub reached_begins : BeginsWell heap Reached
  reached_begins = record { does = reached_finishes }

  -- RELEASE. The exchange hits, and the thread asks no more.
  pub released_unasks : (k : ThreadView) (n : ℕ) → SoundWorldWith heap k → n ≡ reached_word k.thread
      → asks_in (cond (n == reached_word k.thread) (released_word k.thread) n) k.thread ≡ false
  released_unasks k n v h = ap (λ (b : Bool). asks_in (cond b (released_word k.thread) n) k.thread) (eq-eqb n (reached_word k.thread) h)
      ∙ released_asks k.thread (few_threads heap k v)

  release_finishes : (k : ThreadView) → SoundWorldWith heap k → AtRest heap.shape k → may_begin heap.shape heap.biasing k Release ≡ true
      → Finishes heap true (steps_of heap.shape Release (start_of heap.start k)) k
  unfolding steps_of
  release_finishes k v rest may =
      let m = both _ _ may in let n = both _ _ m.0 in
      let nothing = none_is _ n.1 in
      finding heap true _ _ k _ (λ word was. eq-eqb word (reached_word k.thread) (reached_there heap k word was.stands was.found n.0))
      (λ i. releases heap k (lone_context Release) (record { reached = n.0; calm = rest.calm; still = rest.still; goes_on = sym nothing })) (λ word i was.
      let there = reached_there heap k word was.stands was.found n.0 in
      chooses heap false (word == reached_word k.thread) _ _ _ _
      (λ hit. answers heap false _ _ _ (rests heap.shape _ refl (released_unasks k word v there) refl
      (subst (Carries k.moving k.log k.wait k.holds k.shots) nothing (carried heap.shape k rest))))
      (λ miss. absurd (cc (miss, eq-eqb word (reached_word k.thread) there))))

  pub release_begins : BeginsWell heap Release
  release_begins = record { does = release_finishes }
