-- The steps of an enter by the monitor.
use Rattle.std.proofs.Common.{◌≡◌, ℕ, ◌^◌, ◌<◌, ◌≤◌, ◌==◌, eqb-true, eq-eqb, Bool, true, false, cond}
use Rattle.std.proofs.Common.{Option, Some, None, refl, sym, ap, ◌∙◌, subst, inl, inr, arith}
use Rattle.mark_word.specs.declared.owner.OwnerForm.{OwnerForm}
use Rattle.mark_word.specs.declared.owner.OwnerForm.TheVariants.{Free, ByThread, ByRecord}
use Rattle.mark_word.specs.declared.wait.WaitForm.TheVariants as wait
use Rattle.mark_word.specs.Owner.{owner_of, read_owner}
use Rattle.mark_word.specs.Wait.{wait_of}
use Rattle.mark_word.proofs.ReadingOwners.{read_owner-spells, read_owner-owner_of}
use Rattle.mark_word.proofs.ReadingWaits.{read_wait-wait_of}
use Rattle.plain_monitor.specs.Limits.{most_holds}
use Rattle.plain_monitor.specs.declared.entry.Path.{Path}
use Rattle.plain_monitor.specs.declared.entry.Path.TheVariants.{MonitorFirst, MonitorAgain}
use Rattle.core_world.specs.declared.word_id.WordId.TheVariants as id
use Rattle.core_world.specs.declared.stage.Stage.{Stage}
use Rattle.core_world.specs.declared.stage.Stage.TheVariants.{Settled, RecordLocked, MonitorAcquired, RecursionsRaised}
use Rattle.core_world.specs.declared.heap_call.Operation.TheVariants as op
use Rattle.core_world.specs.Threads.AtRest.{AtRest}
use Rattle.core_world.specs.Words.Forms.{monitor_in, says_notified, notified_form}
use Rattle.core_world.specs.Threads.ThreadView.{ThreadView, local_of, last_seen}
use Rattle.core_world.specs.Locks.{hold_count, marks, owner_words}
use Rattle.core_world.specs.Trees.LockSteps.{hold_steps, displace_plan}
use Rattle.core_world.specs.Trees.MonitorSteps.{record_steps, owned_steps, monitor_again_steps, monitor_own_steps, monitor_enter_at}
use Rattle.core_world.specs.Trees.MonitorSteps.{monitor_enter_steps, raise_count_plan, take_over_plan, grab_plan}
use Rattle.core_world.specs.Trees.Plans.{CallContext, with_stage, load, done_with, free_place}
use Rattle.core_world.specs.Clauses.Safepoints.{IsUnfinished}
use Rattle.core_world.specs.Steps.{is_idle, known_hit, known_miss}
use Rattle.core_world.specs.Clauses.WordForms.{IsOwner}
use Rattle.core_locks.specs.Knowing.{IsOut, SawInflated, SawOwn}
use Rattle.core_locks.proofs.monitor.Supplies.{thread_owned_held, own_record_held}
use Rattle.core_law.specs.Logic.{Heap, SoundWorldWith, Keeps, Does}
use Rattle.core_steps.proofs.Facts.{Untold, limits_here, out_here, free_here}
use Rattle.core_law.proofs.Standing.{fits_here, home, away}
use Rattle.core_steps.proofs.LawRules.{displaces_rule}
use Rattle.core_steps.proofs.monitor.MonitorFacts.{names_still}
use Rattle.core_steps.proofs.monitor.MonitorRules.{looks_at_monitor, mans_rule, raises_count_rule, grabs_rule}
use Rattle.core_steps.proofs.Resting.{rests, live_carries}
use Rattle.core_steps.proofs.SeenSteps.{saw_newest, saw_older, missed_any, missed_newest}
use Rattle.core_steps.proofs.enter_exit.StackEnters.{Taking, Comes, undumped_enter, hold_does}
use Rattle.core_steps.proofs.Trees.{answers, binds, chooses, exchanging, follows, hitting}
use Rattle.core_steps.proofs.wait.WaitRules.{stands_rule}

module _ (heap : Heap) (e : CallContext) (o m : ℕ) where
  -- what a thread counts on that enters o by its monitor m
  pub record Entering (k : ThreadView) : Type 0 where
    pub takes : Taking heap k.running k.requesting k.moving k.log e o
    pub enters : IsUnfinished e.unfinished op.Enter o
    pub mine : k.unfinished ≡ e.unfinished
    pub check : e.check ≡ k.checking
    pub untold : Untold k
    pub place : free_place k.holds < most_holds
    pub inflated : SawInflated k o m

  module _ (k : ThreadView) (x : Entering k) where
    out : SoundWorldWith heap k → IsOut k
    out v = out_here heap k v x.takes.runs (λ i h. x.takes.unwaiting i (sym x.mine ∙ h)) x.untold

  -- the displaced word 3, and the hold word, where one of the ways is gone that lead there
  record_does : (k : ThreadView) (stage : Stage) (path : Path) → Taking heap k.running k.requesting k.moving k.log e o → k.unfinished ≡ e.unfinished → Untold k
      → free_place k.holds < most_holds → k.stage ≡ stage
      → ((i p : ℕ) → stage ≡ RecordLocked i p → ⊥)
      → ((n : ℕ) → is_idle heap.shape k ≡ false
      → Comes heap (known_hit heap.shape heap.start (displace_plan e stage k.thread (free_place k.holds) 3) n k) o (free_place k.holds) path)
      → Does heap false (record_steps e stage (local_of k) o path) k (λ b r l. AtRest heap.shape l)
  record_does k stage path a mine untold place at unseized before =
      let displace = displace_plan e stage k.thread (free_place k.holds) 3 in
      hitting heap false displace _ k _ (λ n. refl)
      (λ i. subst (λ z. Keeps heap (displace_plan e z k.thread (free_place k.holds) 3) k) at
      (displaces_rule heap k e (free_place k.holds) 3 (λ v. record {
        runs = a.runs;
        free = free_here heap k v a.runs place;
        unseized = λ i h. unseized i (free_place k.holds) (sym at ∙ h);
        goes_on = inl (sym mine);
      }) (inl (sym mine))))
      (λ n i was.
      let l = known_hit heap.shape heap.start displace n k in
      binds heap false (hold_steps e (local_of k) o path) done_with l _ (
      follows heap false _ l _ _ (hold_does heap l e o path a refl untold place (before n i)) (λ b r y h. answers heap b _ y _ h)))

  -- OWNED BY THE THREAD: it has raised the recursions
  ahead_does : (k : ThreadView) → Entering k → k.stage ≡ RecursionsRaised o → 1 ≤ hold_count o k.holds → SawOwn k k.thread m
      → Does heap false (record_steps e (RecursionsRaised o) (local_of k) o MonitorAgain) k (λ b r l. AtRest heap.shape l)
  ahead_does k x at holds own =
      record_does k (RecursionsRaised o) MonitorAgain x.takes x.mine x.untold x.place at (λ i p h. cc h) (λ n i.
      let displace = displace_plan e (RecursionsRaised o) k.thread (free_place k.holds) 3 in
      let older = saw_older heap displace n k in
      let inflated : SawInflated (known_hit heap.shape heap.start displace n k) o m =
      (x.inflated.0, older (id.Mark o) i refl refl ∙ x.inflated.1, x.inflated.2) in
      (inr (inr (inr (inl (refl, holds, saw_newest heap displace n k, (m, inflated, older (id.Owner m) i refl refl ∙ own))))), (refl, holds, (m, inflated))))

  again_does : (k : ThreadView) → Entering k → k.stage ≡ Settled → 1 ≤ hold_count o k.holds → SawOwn k k.thread m
      → Does heap false (monitor_again_steps e (local_of k) o m) k (λ b r l. AtRest heap.shape l)
  again_does k x calm holds own =
      let look = load e (id.Recursions m) in
      hitting heap false look _ k _ (λ n. refl)
      (λ i. subst (λ z. Keeps heap (with_stage z look) k) calm
      (looks_at_monitor heap k e (id.Recursions m) o m refl x.takes.runs x.inflated (inl (sym x.mine)) x.check (inl (sym x.mine)))) (λ r i was.
      let l = known_hit heap.shape heap.start look r k in
      let raise = raise_count_plan e o m r in
      let inflated : SawInflated l o m = (x.inflated.0, saw_older heap look r k (id.Mark o) i refl refl ∙ x.inflated.1, x.inflated.2) in
      let own_then : SawOwn l l.thread m = saw_older heap look r k (id.Owner m) i refl refl ∙ own in
      let y : Entering l = record { takes = x.takes; enters = x.enters; mine = refl; check = refl; untold = x.untold; place = x.place; inflated = inflated } in
      hitting heap false raise _ l _ (λ n. refl)
      (λ j. raises_count_rule heap l e o m r (λ v. record {
        counts = record { runs = x.takes.runs; out = out l y v; holds = holds; inflated = inflated; owner = own_then; goes_on = inl refl };
        before = inl (refl, saw_newest heap look r k);
      }) (inl refl))
      (λ n j was.
      ahead_does (known_hit heap.shape heap.start raise n l)
      (record {
        takes = x.takes;
        enters = x.enters;
        mine = refl;
        check = refl;
        untold = x.untold;
        place = x.place;
        inflated = (inflated.0, saw_older heap raise n l (id.Mark o) j refl refl ∙ inflated.1, inflated.2);
      })
      refl holds (saw_older heap raise n l (id.Owner m) j refl refl ∙ own_then)))

  -- OWNED BY ITS RECORD: the thread itself becomes the owner
  own_does : (k : ThreadView) (n p : ℕ) → Entering k → k.stage ≡ Settled → 1 ≤ hold_count o k.holds → last_seen (id.Owner m) k.seen ≡ Some n
      → read_owner n ≡ Some (ByRecord k.thread p)
      → Does heap false (monitor_own_steps e (local_of k) o m) k (λ b r l. AtRest heap.shape l)
  own_does k n p x calm holds saw reads =
      let man = take_over_plan e k.thread o m in
      let raise = raise_count_plan e o m 0 in
      hitting heap false man _ k _ (λ n. refl) (λ i. mans_rule heap k e o m p (λ v. record {
        runs = x.takes.runs;
        calm = calm;
        out = out k x v;
        holds = holds;
        inflated = x.inflated;
        owner = (n, saw, reads);
        goes_on = inl (sym x.mine);
      }) (inl (sym x.mine))) (λ r i was.
      let l = known_hit heap.shape heap.start man r k in
      let inflated : SawInflated l o m = (x.inflated.0, saw_older heap man r k (id.Mark o) i refl refl ∙ x.inflated.1, x.inflated.2) in
      let own_then : SawOwn l l.thread m = saw_newest heap man r k in
      let y : Entering l = record { takes = x.takes; enters = x.enters; mine = refl; check = refl; untold = x.untold; place = x.place; inflated = inflated } in
      hitting heap false raise _ l _ (λ n. refl)
      (λ j. raises_count_rule heap l e o m 0 (λ v. record {
        counts = record { runs = x.takes.runs; out = out l y v; holds = holds; inflated = inflated; owner = own_then; goes_on = inl refl };
        before = inr (refl, refl);
      }) (inl refl))
      (λ z j was.
      ahead_does (known_hit heap.shape heap.start raise z l)
      (record {
        takes = x.takes;
        enters = x.enters;
        mine = refl;
        check = refl;
        untold = x.untold;
        place = x.place;
        inflated = (inflated.0, saw_older heap raise z l (id.Mark o) j refl refl ∙ inflated.1, inflated.2);
      })
      refl holds (saw_older heap raise z l (id.Owner m) j refl refl ∙ own_then)))

  -- OWNED BY ANOTHER: the waiting word says for what the thread stands
  owned_does : (k : ThreadView) (n : ℕ) → Entering k → k.stage ≡ Settled → (SoundWorldWith heap k → o < 2 ^ 15)
      → Does heap false (owned_steps e (local_of k) o n) k (λ b r l. AtRest heap.shape l)
  owned_does k n x calm few =
      hitting heap false _ _ k _ (λ n. refl) (λ i. stands_rule heap k e o m (λ v. record {
        runs = x.takes.runs;
        calm = calm;
        out = out k x v;
        object = record { within = x.takes.object; known = x.takes.known };
        enters = x.enters;
        goes_on = sym x.mine;
        inflated = x.inflated;
      }) (inl (sym x.mine)))
      (λ r i was.
      let says : cond (k.thread == k.thread) (wait_of (wait.Entering o)) k.wait ≡ wait_of (wait.Entering o) =
      ap (λ (b : Bool). cond b (wait_of (wait.Entering o)) k.wait) (eq-eqb k.thread k.thread refl) in
      answers heap false _ _ _ (rests heap.shape _ refl x.takes.unasks x.takes.unchecks
      (live_carries k.log _ k.holds e.unfinished x.takes.still x.takes.live (λ i h. x.place) (undumped_enter e o (inr x.enters))
      (λ i. ap (λ z. says_notified z i) says ∙ ap (λ f. notified_form f i) (read_wait-wait_of (wait.Entering o) (few was.stands))))))

  -- what the owner word tells that was found
  module _ (k : ThreadView) (n : ℕ) (v : SoundWorldWith heap k) (runs : k.running ≡ true)
      (calm : k.stage ≡ Settled) (saw : SawInflated k o m) (found : v.world.words (id.Owner m) ≡ n) where
    names_there : monitor_in (marks v.world o) ≡ Some m
    names_there = names_still v.world v.objects k.thread o m (fits_here heap k v runs)
        (away heap k v (λ s y. y.running ≡ true) runs) (away heap k v (λ s y. SawInflated y o m) saw)

    held_by_thread : read_owner n ≡ Some (ByThread k.thread) → 1 ≤ hold_count o k.holds
    held_by_thread reads = home heap k v (λ s y. 1 ≤ hold_count o y.holds)
        (thread_owned_held v.world v.objects k.thread o m (fits_here heap k v runs)
        (away heap k v (λ s y. y.stage ≡ Settled) calm) names_there (ap read_owner found ∙ reads))

    held_by_record : (p : ℕ) → read_owner n ≡ Some (ByRecord k.thread p) → 1 ≤ hold_count o k.holds
    held_by_record p reads = home heap k v (λ s y. 1 ≤ hold_count o y.holds)
        (own_record_held v.world v.objects k.thread o m (fits_here heap k v runs)
        (away heap k v (λ s y. y.stage ≡ Settled) calm) names_there p (ap read_owner found ∙ reads))

    pub owner_form : IsOwner heap.shape (read_owner n)
    owner_form = subst (λ z. IsOwner heap.shape (read_owner z)) found
        (subst (λ (z : Heap). IsOwner z.shape (read_owner (owner_words v.world m))) v.is_of ((fits_here heap k v runs).forms.owners m))

  few_objects : (k : ThreadView) → Entering k → SoundWorldWith heap k → o < 2 ^ 15
  few_objects k x v = let few = limits_here heap k v x.takes.runs in let objects = few.objects in let object = x.takes.object in omega (arith, objects, object)

  -- where the exchange missed
  missed_does : (f : Option OwnerForm) (k : ThreadView) (n : ℕ) → Entering k → k.stage ≡ Settled → last_seen (id.Owner m) k.seen ≡ Some n → read_owner n ≡ f
      → IsOwner heap.shape f → (read_owner n ≡ Some Free → ⊥)
      → (read_owner n ≡ Some (ByThread k.thread) → 1 ≤ hold_count o k.holds) → ((p : ℕ) → read_owner n ≡ Some (ByRecord k.thread p) → 1 ≤ hold_count o k.holds)
      → Does heap false (monitor_enter_at f e (local_of k) o m n) k (λ b r l. AtRest heap.shape l)
  missed_does None k n x calm saw reads form taken by_thread by_record = absurd form
  missed_does (Some Free) k n x calm saw reads form taken by_thread by_record = absurd (taken reads)
  missed_does (Some (ByThread u)) k n x calm saw reads form taken by_thread by_record =
      chooses heap false (u == k.thread) _ _ k _
      (λ mine. let same : read_owner n ≡ Some (ByThread k.thread) = reads ∙ ap (λ z. Some (ByThread z)) (eqb-true u k.thread mine) in
      again_does k x calm (by_thread same) (saw ∙ ap Some (read_owner-spells n (ByThread k.thread) same).1))
      (λ other. owned_does k n x calm (few_objects k x))
  missed_does (Some (ByRecord u p)) k n x calm saw reads form taken by_thread by_record =
      chooses heap false (u == k.thread) _ _ k _
      (λ mine. let same : read_owner n ≡ Some (ByRecord k.thread p) = reads ∙ ap (λ z. Some (ByRecord z p)) (eqb-true u k.thread mine) in
      own_does k n p x calm (by_record p same) saw same)
      (λ other. owned_does k n x calm (few_objects k x))

  pub monitor_enter_does : (k : ThreadView) → Entering k → k.stage ≡ Settled → ((r : ℕ) → last_seen (id.Recursions m) k.seen ≡ Some r → r ≡ 0)
      → Does heap false (monitor_enter_steps e (local_of k) o m) k (λ b r l. AtRest heap.shape l)
  monitor_enter_does k x calm none =
      let grab = grab_plan e k.thread o m in
      exchanging heap false grab (owner_of Free) (owner_of (ByThread k.thread)) (λ n. monitor_enter_at (read_owner n) e (local_of k) o m n) k _ refl
      (λ i. grabs_rule heap k e o m (λ v. record {
        runs = x.takes.runs;
        calm = calm;
        out = out k x v;
        inflated = x.inflated;
        unseen = none;
        goes_on = inl (sym x.mine);
      }) (inl (sym x.mine)))
      (λ n i was h.
      let l = known_hit heap.shape heap.start grab n k in
      subst (λ f. Does heap false (monitor_enter_at f e (local_of k) o m n) l (λ b r l. AtRest heap.shape l))
      (sym (ap read_owner h ∙ read_owner-owner_of Free tt))
      (record_does l (MonitorAcquired o) MonitorFirst x.takes refl x.untold x.place refl (λ i p h. cc h) (λ r j.
      (inr (inr (inl (refl, saw_newest heap (displace_plan e (MonitorAcquired o) k.thread (free_place k.holds) 3) r l))), refl))))
      (λ n i was h.
      let l = known_miss heap.shape heap.start grab n k in
      missed_does (read_owner n) l n
      (record {
        takes = x.takes;
        enters = x.enters;
        mine = x.mine;
        check = x.check;
        untold = x.untold;
        place = x.place;
        inflated = (x.inflated.0, missed_any heap grab n k (id.Mark o) i ∙ x.inflated.1, x.inflated.2);
      })
      calm (missed_newest heap grab n k ∙ ap (λ (b : Bool). Some (cond b (owner_of (ByThread k.thread)) n)) h) refl
      (owner_form k n was.stands x.takes.runs calm x.inflated was.found)
      (λ free. let same = (read_owner-spells n Free free).1 in absurd (cc (eq-eqb n (owner_of Free) same, h)))
      (held_by_thread k n was.stands x.takes.runs calm x.inflated was.found) (held_by_record k n was.stands x.takes.runs calm x.inflated was.found))
