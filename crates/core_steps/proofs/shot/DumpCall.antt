-- A dump begins well: it looks at all objects and lengths at a safepoint, keeps its shot, releases the safepoint and logs its entry.
use Rattle.std.proofs.Common.{◌≡◌, ℕ, zero, suc, ◌+◌, ◌-◌, ◌<◌, nat_lt, ◌==◌, ◌||◌, ◌&&◌, ◌++◌, eq-eqb, Bool, true, false, cond}
use Rattle.std.proofs.Common.{List, [], ◌∷◌, length, Option, Some, None, refl, sym, ap, ◌∙◌, subst, inl, inr, arith, ◌≤◌}
use Rattle.std.proofs.lemmas.List.{length-append, length-map}
use Rattle.std.proofs.lemmas.Bool.Decides.{nat_tests}
use Rattle.mark_word.specs.declared.mark.MarkForm.{MarkForm}
use Rattle.mark_word.specs.declared.mark.MarkForm.TheVariants.{Biased, Locked, Inflated}
use Rattle.mark_word.specs.declared.owner.OwnerForm.{OwnerForm}
use Rattle.mark_word.specs.declared.owner.OwnerForm.TheVariants.{ByThread, ByRecord}
use Rattle.mark_word.specs.Mark.{read_mark}
use Rattle.mark_word.specs.Owner.{read_owner}
use Rattle.plain_monitor.specs.Limits.{most_holds}
use Rattle.plain_monitor.specs.declared.entry.Entry.TheVariants as entry
use Rattle.core_world.specs.declared.answer.Progress.{Progress}
use Rattle.core_world.specs.declared.answer.Progress.TheVariants.{Done, Pending}
use Rattle.core_world.specs.declared.word_id.WordId.{WordId}
use Rattle.core_world.specs.declared.word_id.WordId.TheVariants as id
use Rattle.core_world.specs.declared.stage.Stage.TheVariants.{Settled}
use Rattle.core_world.specs.declared.heap_call.Operation.TheVariants as op
use Rattle.core_world.specs.declared.heap_call.HeapCall.TheVariants.{Dump}
use Rattle.core_world.specs.declared.heap_call.Unfinished.{Unfinished}
use Rattle.core_world.specs.Threads.AtRest.{AtRest, MayAsk}
use Rattle.core_world.specs.Trees.Calls.{steps_of, may_begin}
use Rattle.core_world.specs.Words.Forms.{epoch_in, runs_in, says_notified}
use Rattle.core_world.specs.Threads.ThreadView.{ThreadView, Local, Still, DumpShot, local_of, start_of}
use Rattle.core_world.specs.Clauses.Lengths.{log_limit}
use Rattle.core_world.specs.Locks.{has_epoch}
use Rattle.core_world.specs.Trees.LookSteps.{keep_shot_plan, look_at_holds, look_at_owner, look_at_named, look_at_objects, take_shot_steps}
use Rattle.core_world.specs.Trees.Operations.{answer, and_then, goes_on_with, dump_going}
use Rattle.core_world.specs.Trees.Plans.{CallContext, call_context, load, done_with}
use Rattle.core_world.specs.Trees.SafepointSteps.{reached_word, released_word, safepoint_steps, release_safepoint, release_plan}
use Rattle.core_world.specs.Clauses.Safepoints.{IsUnfinished, ends}
use Rattle.core_world.specs.Threads.References.{making_in}
use Rattle.core_world.specs.Words.Shape.{Shape, class_in_shape, IsInLimits}
use Rattle.core_world.specs.Shots.{dumps_from}
use Rattle.core_world.specs.Steps.{known_hit, shot_of}
use Rattle.core_world.specs.Trees.StepTree.{StepTree, done, unreachable, step, ask, all_from, ◌>>=◌}
use Rattle.core_world.specs.Trees.WaitSteps.{publish_steps}
use Rattle.core_locks.specs.ShotLaws.{SawAll, SawSteps, MayKeepShot, shot_looks}
use Rattle.core_locks.proofs.shot.Shoots.{keeps_shot}
use Rattle.bias_law.proofs.QuietKinds as quiet
use Rattle.core_locks.proofs.shot.ShotTree.{looks_first, looks_see}
use Rattle.core_locks.proofs.shot.ValidShots.{valid_shots}
use Rattle.core_world.specs.There.{IsIn}
use Rattle.core_world.specs.Clauses.WordForms.{IsMark, IsOwner}
use Rattle.core_world.specs.declared.plan.StepPlan.{StepPlan}
use Rattle.core_world.proofs.There.{IsFormed, class_there}
use Rattle.core_law.specs.Logic.{Heap, SoundWorldWith, Does}
use Rattle.core_law.specs.Sound.{Finishes}
use Rattle.core_law.specs.Begins.{BeginsWell}
use Rattle.core_steps.proofs.OwnParts.{same_own, load_keeps_own}
use Rattle.core_steps.proofs.Facts.{Untold, ready_here}
use Rattle.core_law.proofs.Standing.{fits_here, home, valid_here, few_threads, inside}
use Rattle.core_world.specs.Trees.DeflateSteps.{deflate_steps}
use Rattle.core_steps.proofs.ClassSteps.{made_there, class_found}
use Rattle.core_steps.proofs.deflation.Deflations.{deflate_does}
use Rattle.core_made.proofs.ShotTaken.{shot_keeps}
use Rattle.core_steps.proofs.LawRules.{keeps_made, calm_in_all, releases, publishes, limits}
use Rattle.core_steps.proofs.FairSteps.{begins_going}
use Rattle.core_steps.proofs.safepoint.Requests.{Asks, Stood, BeginsSafepoint, safepoint_does}
use Rattle.core_steps.proofs.Resting.{Carries, logged_carries, rests, rests_with}
use Rattle.core_steps.proofs.safepoint.SafeCalls.{closes, released_unasks}
use Rattle.core_steps.proofs.safepoint.SafepointLooks.{Reaches, stays_reached, stood_kept, keeps_look, going, reaches_on}
use Rattle.core_law.proofs.SafepointSights.{Seeing, seeing_all, seeing_itself, saw_there, still_seen, found_formed}
use Rattle.core_steps.proofs.safepoint.SafeWords.{reached_there, released_runs}
use Rattle.core_steps.proofs.Tests.{asking_goes, free_runs, Operates, operates, going_is, goes_on_or_begins, is_of_kind}
use Rattle.core_steps.proofs.Trees.{answers, chooses, chooses_then, follows, binds, hitting, finding}

-- LOOKS. All steps of the tree are loads of words of the heap that log and keep nothing, whatever words of the heap's forms they find.
abbrev Looks : {A : Type 0} → Shape → CallContext → StepTree A → Type 0
Looks s e (done a) = Unit {0}
Looks s e unreachable = ⊥
Looks s e (step p f) = ((at : WordId) × IsIn s at × (p ≡ load e at)) × ((n : ℕ) → IsFormed s p.at n → Looks s e (f n))

module _ (s : Shape) (e : CallContext) where
  looks_bind : {A B : Type 0} (d : StepTree A) (g : A → StepTree B) → Looks s e d → ((a : A) → Looks s e (g a)) → Looks s e (d >>= g)
  looks_bind (done a) g h k = k a
  looks_bind unreachable g h k = h
  looks_bind (step p f) g h k = (h.0, λ n formed. looks_bind (f n) g (h.1 n formed) k)

  looks_each : (i n : ℕ) (f : ℕ → StepTree (Unit {0})) → ((j : ℕ) → j < i + n → Looks s e (f j)) → Looks s e (all_from i n f)
  looks_each i zero f h = tt
  looks_each i (suc n) f h =
      looks_bind (f i) (λ u. all_from (i + 1) n f) (h i (omega arith)) (λ u. looks_each (i + 1) n f (λ j less. h j (omega (arith, less))))

  look_one : (at : WordId) → IsIn s at → Looks {A = Unit {0}} s e (ask (load e at) >>= (λ n. done tt))
  look_one at there = ((at, there, refl), λ n formed. tt)

  look_holds : (t : ℕ) → t < s.threads → Looks s e (look_at_holds e t)
  look_holds t thread = looks_each 0 most_holds (λ p. ask (load e (id.Hold t p)) >>= (λ n. done tt)) (λ p place. look_one (id.Hold t p) (thread, place))

  look_owner : (f : Option OwnerForm) → IsOwner s f → Looks s e (look_at_owner f e)
  look_owner (Some (ByThread thread)) form = look_holds thread form
  look_owner (Some (ByRecord thread place)) form = look_holds thread form
  look_owner _ form = tt

  look_valid : (b : Bool) (t : ℕ) → t < s.threads → Looks s e (cond b (look_at_holds e t) (done tt))
  look_valid true t thread = look_holds t thread
  look_valid false t thread = tt

  module _ (limits : IsInLimits s) where
    look_named : (f : Option MarkForm) (o : ℕ) → o < length s.objects → IsMark s f → Looks s e (look_at_named f e s o)
    look_named (Some (Biased thread epoch age)) o object form =
        by_test (nat_lt o s.declared) refl
      where
        after_class : (c : ℕ) → c < s.classes → Looks s e
            (ask (load e (id.Prototype c)) >>= (λ n. cond (has_epoch (epoch_in n) epoch) (look_at_holds e thread) (done tt)))
        after_class c class = ((id.Prototype c, class, refl), λ n formed. look_valid (has_epoch (epoch_in n) epoch) thread form.0)

        by_test : (b : Bool) → nat_lt o s.declared ≡ b → Looks s e (cond b (done (class_in_shape s o)) (step (load e (id.Class o)) (λ word. done (word - 1)))
            >>= (λ c. ask (load e (id.Prototype c)) >>= (λ n. cond (has_epoch (epoch_in n) epoch) (look_at_holds e thread) (done tt))))
        by_test true declared = after_class (class_in_shape s o) (class_there s o limits object)
        by_test false made = (
          (id.Class o, made_there s o object made, refl),
          λ word formed. after_class (word - 1)
              (class_found s o word limits object formed),
        )
    look_named (Some (Locked thread place)) o object form = look_holds thread form
    look_named (Some (Inflated monitor)) o object form = ((id.Owner monitor, form, refl), λ n formed. look_owner (read_owner n) formed)
    look_named _ o object form = tt

    look_all : Looks s e (shot_looks e s)
    look_all = looks_bind (look_at_objects e s) (λ u. all_from 0 s.threads (λ t. ask (load e (id.Length t)) >>= (λ n. done tt)))
        (looks_each 0 (length s.objects) (λ o. ask (load e (id.Mark o)) >>= (λ mark. look_at_named (read_mark mark) e s o))
        (λ o less.
        let object : o < length s.objects = omega (arith, less) in
        ((id.Mark o, object, refl), λ n formed. look_named (read_mark n) o object formed)))
        (λ u. looks_each 0 s.threads (λ t. ask (load e (id.Length t)) >>= (λ n. done tt)) (λ t less. look_one (id.Length t) (omega (arith, less))))

-- no other operation is unfinished
unwaiting_dump : (u : Option Unfinished) → IsUnfinished u op.Dump 0 → (o : ℕ) → IsUnfinished u op.Wait o → ⊥
unwaiting_dump u e o h = let a = ap (is_of_kind op.Dump) (sym e ∙ h) in cc a

unentering_dump : (u : Option Unfinished) → IsUnfinished u op.Dump 0 → (o : ℕ) → IsUnfinished u op.Enter o → ⊥
unentering_dump u e o h = let a = ap (is_of_kind op.Dump) (sym e ∙ h) in cc a

-- what each dump works for
abbrev dump_errand : CallContext
dump_errand = call_context Dump op.Dump 0

module _ (heap : Heap) (me : ℕ) (here : Local) (shots : List DumpShot)
    (room : length here.log < log_limit) (few : length shots < 4) (limits : IsInLimits heap.shape) where
  -- the thread stands at its reached safepoint, and the parts of its knowledge that the tree takes are what they were when the call began
  record Dumps (k : ThreadView) : Type 0 where
    reaches : Reaches me k dump_errand
    same : local_of k ≡ here
    shots_are : k.shots ≡ shots

  after_load : (at : WordId) (n : ℕ) (k : ThreadView) → Dumps k → Dumps (known_hit heap.shape heap.start (load dump_errand at) n k)
  after_load at n k d = record {
    reaches = reaches_on heap me dump_errand at n k d.reaches;
    same = (load_keeps_own heap dump_errand Settled at n k).local ∙ d.same;
    shots_are = d.shots_are;
  }

  -- the looks, each of which stays seen
  looks_do : {A : Type 0} (d : StepTree A) (k : ThreadView) → Looks heap.shape dump_errand d → Dumps k
      → Does heap false d k (λ b a l. Dumps l × Seeing k l × SawSteps d l (λ x. Unit {0}))
  looks_do (done a) k h s = answers heap false a k _ (s, seeing_itself k, tt)
  looks_do unreachable k h s = absurd h
  looks_do {A} (step p f) k h s =
      let at = h.0.0 in
      subst (λ z. Does heap false (step z f) k (λ b a l. Dumps l × Seeing k l × SawSteps (step z f) l (λ x. Unit {0}))) (sym h.0.2)
      (hitting heap false (load dump_errand at) f k _ (λ n. refl) (λ i. keeps_look heap me dump_errand at k s.reaches (λ v. h.0.1)) (λ n i was.
      let l = known_hit heap.shape heap.start (load dump_errand at) n k in
      let kept = stood_kept at k s.reaches.reached in
      let seeing : Seeing k l = still_seen heap dump_errand at k n s.reaches.reached kept was in
      follows heap false (f n) l _ _ (looks_do (f n) l (h.1 n
      (subst (λ (z : StepPlan). IsFormed heap.shape z.at n) (sym h.0.2) (found_formed heap k at n refl was))) (after_load at n k s)) (λ b a m x.
      (x.0, seeing_all k l m seeing x.1, (n, x.1.saw at n (saw_there heap dump_errand at k n kept), x.2)))))

  -- after the shot: it has no entry yet
  record HasShot (shot : DumpShot) (k : ThreadView) : Type 0 where
    reached : k.reached ≡ true
    calm : k.stage ≡ Settled
    still : k.moving ≡ Still
    mine : dump_errand.unfinished ≡ k.unfinished
    live : ends k.log ≡ false
    untold : Untold k
    same : local_of k ≡ here
    shots_are : k.shots ≡ shots ++ shot ∷ []
    logged : length shots ≡ length (dumps_from 0 here.log)

  -- the release and the entry
  abbrev released : StepTree (Progress ℕ)
  released = do
    _ ← release_safepoint dump_errand here.thread
    _ ← publish_steps (entry.Dump (length shots + 1)) dump_errand here
    done_with (length shots + 1)

  ending_does : (k : ThreadView) (shot : DumpShot) → HasShot shot k → Does heap false released k (λ b r l. AtRest heap.shape l)
  ending_does k shot r = subst (λ z. Does heap false (release_safepoint dump_errand z.thread >>= (λ u.
      publish_steps (entry.Dump (length shots + 1)) dump_errand z >>= (λ u. done_with (length shots + 1)))) k (λ b r l. AtRest heap.shape l)) r.same (
      finding heap false (release_plan dump_errand Settled k.thread) _ k _
      (λ n was. eq-eqb n (reached_word k.thread) (reached_there heap k n was.stands was.found r.reached))
      (λ i. releases heap k dump_errand (record { reached = r.reached; calm = r.calm; still = r.still; goes_on = r.mine })) (λ n i was.
      let exchange = release_plan dump_errand Settled k.thread in
      let l = known_hit heap.shape heap.start exchange n k in
      let found = reached_there heap k n was.stands was.found r.reached in
      let hit = eq-eqb n (reached_word k.thread) found in
      let runs : l.running ≡ true = ap (λ (b : Bool). runs_in (cond b (released_word k.thread) n) k.thread) hit
      ∙ released_runs k.thread (few_threads heap k was.stands) in
      let unasks : l.requesting ≡ false = released_unasks heap k n was.stands found in
      chooses_then heap false (n == reached_word k.thread) _ _
      (λ u. publish_steps (entry.Dump (length shots + 1)) dump_errand (local_of k) >>= (λ u. done_with (length shots + 1))) l _
      (λ yes. hitting heap false _ _ l _ (λ n. refl)
      (λ i. publishes heap l dump_errand (entry.Dump (length shots + 1)) (λ v. (
        record {
          runs = runs;
          calm = refl;
          ready = ready_here heap l v runs (unwaiting_dump l.unfinished refl) (unentering_dump l.unfinished refl) r.untold r.live;
          tells = tt;
          room = subst (λ z. length z.log < log_limit) (sym r.same) room;
          own_entry = record {
            operation = inr refl;
            shot =
                let all : length k.shots ≡ length shots + 1 = ap (λ z. length z) r.shots_are ∙ length-append shots (shot ∷ []) in
                let dumps : length (dumps_from 0 k.log) ≡ length shots = ap (λ z. length (dumps_from 0 z.log)) r.same ∙ sym r.logged in
                (sym all, all ∙ ap (λ z. z + 1) (sym dumps));
          };
        },
        tt,
      )) tt)
      (λ n i was. answers heap false _ _ _ (rests heap.shape _ refl unasks refl (logged_carries k.log _ k.wait _ r.still r.live refl r.untold))))
      (λ no. absurd (cc (hit, no)))))

  -- the idle monitors are given back first
  abbrev deflated : StepTree (Progress ℕ)
  deflated = do
    _ ← deflate_steps heap.shape dump_errand Settled
    released

  deflating_does : (k : ThreadView) (shot : DumpShot) → HasShot shot k → k.running ≡ false → dump_errand.check ≡ k.checking
      → Does heap false deflated k (λ b r l. AtRest heap.shape l)
  deflating_does k shot r stopped check =
      going heap (deflate_steps heap.shape dump_errand Settled) (λ u. released) k _ (
      follows heap false _ k _ _ (deflate_does (record { heap = heap; call = dump_errand; before = k; stage = Settled; plain = refl }) k (record {
        reached = r.reached;
        stopped = stopped;
        stands = r.calm;
        check = check;
        mine = r.mine;
        still = r.still;
        own = same_own _;
      })) (λ b u l x.
      let y = x.0 in
      ending_does l shot (record {
        reached = y.reached;
        calm = y.stands;
        still = y.still;
        mine = y.mine;
        live = ap (λ z. ends z.log) y.local ∙ r.live;
        untold = λ o. ap (λ z. says_notified z.wait o) y.local ∙ r.untold o;
        same = y.local ∙ r.same;
        shots_are = y.shots ∙ r.shots_are;
        logged = r.logged;
      })))

  -- the load that keeps the shot
  shooting_does : (k : ThreadView) → Dumps k → SawAll heap.shape k → Does heap false
      (ask (keep_shot_plan dump_errand) >>= (λ n. done tt)) k (λ b (u : Unit {0}) l. Does heap false deflated l (λ b r l. AtRest heap.shape l))
  shooting_does k d saw =
      let r = d.reaches in
      let p = keep_shot_plan dump_errand in
      let logged : length k.shots ≡ length (dumps_from 0 k.log) = r.carries.shots_logged refl in
      hitting heap false p _ k _ (λ n. refl)
      (λ i. keeps_made heap k (λ s y. MayKeepShot s y dump_errand) (λ t y. keep_shot_plan dump_errand)
      (keeps_shot dump_errand) (quiet.keeps_shot dump_errand) (λ t y h. refl) (λ v. tt)
      (λ v. calm_in_all heap k v r.reached r.calm)
      (λ v. (tt, subst (λ z. length z < 4) (sym d.shots_are) few))
      (λ v. record {
        reached = r.reached;
        calm = r.calm;
        dumps = sym r.mine;
        goes_on = r.mine;
        logged = logged;
        room = subst (λ z. length z < 4) (sym d.shots_are) few;
        saw = saw;
      })
      (λ v a m. shot_keeps v.world v.objects k.thread dump_errand (inside heap k v) m (ap making_in m.goes_on) a.fits a.made)) (λ n i was.
      let l = known_hit heap.shape heap.start p n k in
      answers heap false _ l _ (deflating_does l (shot_of heap.shape k) (record {
        reached = stays_reached id.Safepoint n k r.reached;
        calm = refl;
        still = r.carries.still;
        mine = refl;
        live = r.live;
        untold = r.carries.untold;
        same = d.same;
        shots_are = ap (λ z. z ++ shot_of heap.shape k ∷ []) d.shots_are;
        logged = ap (λ z. length z) (sym d.shots_are) ∙ logged ∙ ap (λ z. length (dumps_from 0 z.log)) d.same;
      }) r.stopped refl))

  -- all that is done at the reached safepoint
  abbrev dumped : Progress (Unit {0}) → StepTree (Progress ℕ)
  dumped progress = and_then progress (λ u. do
    _ ← take_shot_steps dump_errand heap.shape
    deflated)

  standing_does : (k : ThreadView) → Dumps k → Does heap false (dumped (Done tt)) k (λ b r l. AtRest heap.shape l)
  standing_does k d =
      let shoot = ask (keep_shot_plan dump_errand) in
      subst (λ z. Does heap false (z >>= (λ u. deflated)) k (λ b r l. AtRest heap.shape l)) (sym (looks_first dump_errand heap.shape))
      (going heap (shot_looks dump_errand heap.shape >>= (λ u. shoot >>= (λ n. done tt))) (λ u. deflated) k _ (
      going heap (shot_looks dump_errand heap.shape) (λ u. shoot >>= (λ n. done tt)) k _ (
      follows heap false (shot_looks dump_errand heap.shape) k _ _
      (looks_do (shot_looks dump_errand heap.shape) k (look_all heap.shape dump_errand limits) d) (λ b u l x.
      shooting_does l x.0 (looks_see l dump_errand heap.shape _ x.2)))))

  then_dumped : (k0 : ThreadView) → local_of k0 ≡ here → k0.shots ≡ shots → (b : Bool) (r : Progress (Unit {0})) (k : ThreadView)
      → (b ≡ false) × Stood heap dump_errand me k0 r k
      → Does heap b (dumped r) k (λ b r l. AtRest heap.shape l)
  then_dumped k0 same shots_are b (Done x) k s =
      subst (λ z. Does heap z (dumped (Done tt)) k (λ b r l. AtRest heap.shape l)) (sym s.0)
      (standing_does k (record { reaches = s.1.0; same = s.1.1.local ∙ same; shots_are = s.1.1.shots ∙ shots_are }))
  then_dumped k0 same shots_are b (Pending why) k s = answers heap b _ k _ s.1

module _ (heap : Heap) where
  -- a thread whose request for a dump stands is at rest
  asks_dump : (me : ℕ) (k : ThreadView) → Asks heap dump_errand me k → AtRest heap.shape k
  asks_dump me k a = rests_with heap.shape k a.calm (subst (Carries k.moving k.log k.wait k.holds k.shots) a.mine a.carries)
      (λ asks. a.stopped) (λ asks unchecks. subst (MayAsk heap.shape k) a.mine tt) (λ checks. let unchecks = a.check in absurd (cc (checks, unchecks)))

  -- where no dump is unfinished, each shot has its entry
  shots_logged : (k : ThreadView) → SoundWorldWith heap k → k.running ≡ true → k.unfinished ≡ None → length k.shots ≡ length (dumps_from 0 k.log)
  shots_logged k v runs nothing =
      home heap k v (λ s y. y.unfinished ≡ None → length y.shots ≡ length (dumps_from 0 y.log)) (λ none. elim ((fits_here heap k v runs).shots.dumps k.thread) [
        | inl a ↦ sym (length-map _ _) ∙ ap (λ z. length z) a
        | inr a ↦ let dumps = a.1 in absurd (cc (none, dumps))
      ]) nothing

  dump_carries : (k : ThreadView) → AtRest heap.shape k → ends k.log ≡ false → length k.shots ≡ length (dumps_from 0 k.log)
      → Carries k.moving k.log k.wait k.holds k.shots dump_errand.unfinished
  dump_carries k rest live logged = record {
    still = rest.still;
    ended = λ ended. absurd (cc (ended, live));
    place = λ o h. absurd (unentering_dump dump_errand.unfinished refl o h);
    untold = rest.untold;
    shots_logged = λ h. logged;
  }

  -- a dump that begins, or goes on after its request
  starts : (k : ThreadView) → SoundWorldWith heap k → AtRest heap.shape k
      → Operates k (goes_on_with op.Dump 0 k.unfinished) → BeginsSafepoint heap dump_errand k.thread k
  starts k v rest a = record {
    number = refl;
    rest = rest;
    live = a.live;
    carries = dump_carries k rest a.live (cases k.running refl a.runs);
    asking = λ asks. (
      sym a.unchecking,
      sym (going_is op.Dump 0 k.unfinished
          (asking_goes k.running k.requesting (goes_on_with op.Dump 0 k.unfinished) a.runs (rest.stopped asks))),
    );
    running = λ free. (free_runs k.running k.requesting (goes_on_with op.Dump 0 k.unfinished) a.runs free, goes_on_or_begins op.Dump 0 k.unfinished a.free);
    begins = begins_going heap.shape k dump_errand.unfinished (λ o on. absurd (cc on)) refl (goes_on_or_begins op.Dump 0 k.unfinished a.free);
  }
    where
      cases : (b : Bool) → k.running ≡ b → (b || (k.requesting && goes_on_with op.Dump 0 k.unfinished)) ≡ true → length k.shots ≡ length (dumps_from 0 k.log)
      cases true runs h = elim (goes_on_or_begins op.Dump 0 k.unfinished a.free) [
        | inl goes ↦ rest.shots (sym goes)
        | inr none ↦ shots_logged k v runs none
      ]
      cases false stops h = rest.shots (going_is op.Dump 0 k.unfinished (asking_goes k.running k.requesting (goes_on_with op.Dump 0 k.unfinished) a.runs stops))

  -- a thread takes at most 4 shots
  fewer_than_four : (k : ThreadView) → SoundWorldWith heap k → (length k.shots == 4) ≡ false → length k.shots < 4
  fewer_than_four k v other =
      let most = home heap k v (λ s y. length y.shots ≤ 4) ((valid_shots v.world v.objects (valid_here heap k v)).few k.thread) in
      grind (arith, nat_tests, most, other)

  dump_finishes : (k : ThreadView) → SoundWorldWith heap k → AtRest heap.shape k → may_begin heap.shape heap.biasing k Dump ≡ true
      → Finishes heap true (steps_of heap.shape Dump (start_of heap.start k)) k
  unfolding steps_of
  dump_finishes k v rest may =
      let a = operates k (goes_on_with op.Dump 0 k.unfinished) may in
      let room : length k.log < log_limit = let r = a.room in omega arith in
      let s = start_of heap.start k in
      closes heap true _ k (
      chooses heap true (length k.shots == 4) _ _ k _ (λ h. answers heap true _ k _ rest) (λ h.
      let few = fewer_than_four k v h in
      let bounds = limits heap k v in
      binds heap true (dump_going heap.shape dump_errand s) answer k _ (
      follows heap true _ k _ _ (
      binds heap true (safepoint_steps dump_errand k.thread k.requesting) (dumped heap k.thread (local_of k) k.shots room few bounds) k _ (
      follows heap true _ k _ _ (safepoint_does heap dump_errand k.thread k
      (λ l a since unreached. asks_dump k.thread l a) true (starts k v rest a)) (λ b r l x.
      then_dumped heap k.thread (local_of k) k.shots room few bounds k refl refl b r l x)))
      (λ b r l x. answers heap b _ l _ x))))

  pub dump_begins : BeginsWell heap Dump
  dump_begins = record { does = dump_finishes }
