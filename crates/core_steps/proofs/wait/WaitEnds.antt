-- The end of a wait that has let go: its thread looks whether it was notified, and takes the monitor again.
use Rattle.std.proofs.Common.{◌≡◌, ◌⊎◌, ℕ, ◌==◌, eq-eqb, eqb-true, Bool, true, false, cond}
use Rattle.std.proofs.Common.{Option, Some, None, refl, sym, ap, ◌∙◌, subst, inl, inr}
use Rattle.mark_word.specs.declared.owner.OwnerForm.{OwnerForm}
use Rattle.mark_word.specs.declared.owner.OwnerForm.TheVariants.{Free, ByThread, ByRecord}
use Rattle.mark_word.specs.declared.wait.WaitForm.{WaitForm}
use Rattle.mark_word.specs.declared.wait.WaitForm.TheVariants as wait
use Rattle.mark_word.specs.Mark.{read_mark}
use Rattle.mark_word.specs.Owner.{owner_of, read_owner}
use Rattle.mark_word.specs.Wait.{read_wait}
use Rattle.mark_word.proofs.ReadingOwners.{read_owner-owner_of, read_owner-spells}
use Rattle.core_world.specs.declared.word_id.WordId.TheVariants as id
use Rattle.core_world.specs.declared.stage.Stage.TheVariants.{Settled, Resumes}
use Rattle.core_world.specs.declared.heap_call.Operation.TheVariants as op
use Rattle.core_world.specs.Threads.AtRest.{AtRest}
use Rattle.core_world.specs.Words.Forms.{waits_on, waits_form, says_notified, notified_form}
use Rattle.core_world.specs.Threads.ThreadView.{ThreadView, last_seen}
use Rattle.core_world.specs.Trees.Plans.{CallContext, load}
use Rattle.core_world.specs.Clauses.Safepoints.{IsUnfinished}
use Rattle.core_world.specs.Steps.{is_idle, known_hit, known_miss}
use Rattle.core_world.specs.Trees.WaitSteps.{resumed_steps, resume_owner_at, resume_owner_steps, resume_mark_at, resume_at}
use Rattle.core_world.specs.Trees.WaitSteps.{monitor_resume_steps, restore_plan, regain_plan, log_resume_plan}
use Rattle.core_world.specs.Clauses.WordForms.{IsOwner}
use Rattle.core_world.specs.Trees.LockSteps.{store_ready_plan}
use Rattle.core_world.specs.Threads.References.{making_in}
use Rattle.core_world.proofs.Readings.{no_told}
use Rattle.core_world.proofs.enter_exit.OwnersShown.{inflated_form}
use Rattle.core_locks.specs.Knowing.{SawInflated, SawOwn}
use Rattle.core_locks.proofs.wait.TellLists.{waits_untold}
use Rattle.core_law.specs.Logic.{Heap, Does}
use Rattle.core_steps.proofs.WorksOn.{WorksOn}
use Rattle.core_steps.proofs.Looks.{looks_running}
use Rattle.core_steps.proofs.monitor.Inflations.{SawNone}
use Rattle.core_steps.proofs.LawRules.{readies}
use Rattle.core_steps.proofs.monitor.MonitorEnters.{owner_form}
use Rattle.core_steps.proofs.monitor.MonitorFacts.{IsOwned}
use Rattle.core_steps.proofs.monitor.MonitorRules.{regains_rule, restores_rule}
use Rattle.core_steps.proofs.Resting.{rests, live_carries, logged_carries}
use Rattle.core_steps.proofs.SeenSteps.{saw_newest, saw_older}
use Rattle.core_steps.proofs.Tests.{is_of_kind}
use Rattle.core_steps.proofs.Trees.{answers, chooses, exchanging, hitting}
use Rattle.core_steps.proofs.wait.WaitFacts.{says_here, inflated_here, unowned_here}
use Rattle.core_steps.proofs.wait.WaitRules.{logs_resume}

module _ (heap : Heap) (e : CallContext) (o : ℕ) where
  -- what a thread counts on whose wait on o has let go
  pub record LetGo (k : ThreadView) : Type 0 where
    pub works : WorksOn heap k.running k.requesting k.moving k.log e o
    pub open works use *
    pub mine : k.unfinished ≡ e.unfinished
    pub check : e.check ≡ k.checking
    pub waits : IsUnfinished e.unfinished op.Wait o

  -- where it goes on in another call
  let_go_rests : (k : ThreadView) → LetGo k → k.stage ≡ Settled → waits_on k.wait o ≡ true → AtRest heap.shape k
  let_go_rests k x calm waits = rests heap.shape k calm x.unasks (sym x.check ∙ x.unchecks) (live_carries k.log k.wait k.holds k.unfinished x.still x.live
      (λ i h. let a = ap (is_of_kind op.Wait) (sym x.waits ∙ sym x.mine ∙ h) in
      absurd (cc a)) (λ h. let a = ap (is_of_kind op.Wait) (sym x.waits ∙ sym x.mine ∙ h) in cc a)
      (λ i. waits_untold (read_wait k.wait) o i waits))

  -- THE MONITOR IS ITS OWN AGAIN
  resumed_does : (k : ThreadView) (m : ℕ) → LetGo k → k.stage ≡ Resumes o → SawInflated k o m → SawOwn k k.thread m
      → Does heap false (resumed_steps e k.thread k.saved o m) k (λ b r l. AtRest heap.shape l)
  resumed_does k m x at inflated own =
      let restore = restore_plan e o m k.saved in
      let ready = store_ready_plan e (Resumes o) k.thread in
      let is_ready : cond (k.thread == k.thread) 0 k.wait ≡ 0 = ap (λ (b : Bool). cond b 0 k.wait) (eq-eqb k.thread k.thread refl) in
      hitting heap false restore _ k _ (λ n. refl)
      (λ i. restores_rule heap k e o m k.saved (λ v. record { runs = x.runs; stage = at; inflated = inflated; owner = own; goes_on = inl (sym x.mine) })
      (inl (sym x.mine))) (λ n0 i0 was0.
      let k1 = known_hit heap.shape heap.start restore n0 k in
      hitting heap false ready _ k1 _ (λ n. refl) (λ i. readies heap k1 e (λ v. record { runs = x.runs; goes_on = inl refl; before = inr (o, refl) })
      (inl refl)) (λ n1 i1 was1.
      let k2 = known_hit heap.shape heap.start ready n1 k1 in
      hitting heap false (log_resume_plan e o) _ k2 _ (λ n. refl) (λ i. logs_resume heap k2 e o m (λ v. record {
        runs = x.runs;
        stage = refl;
        ready = is_ready;
        object = record { within = x.object; known = x.known };
        inflated = (
          inflated.0,
          saw_older heap ready n1 k1 (id.Mark o) i1 refl refl ∙ saw_older heap restore n0 k (id.Mark o) i0 refl refl ∙ inflated.1,
          inflated.2,
        );
        owner = saw_older heap ready n1 k1 (id.Owner m) i1 refl refl ∙ saw_older heap restore n0 k (id.Owner m) i0 refl refl ∙ own;
        recursions = saw_older heap ready n1 k1 (id.Recursions m) i1 refl refl ∙ saw_newest heap restore n0 k;
        room = x.room;
      }) (ap making_in x.waits)) (λ n2 i2 was2.
      answers heap false _ _ _ (rests heap.shape _ refl x.unasks x.unchecks
      (logged_carries k.log _ _ k.holds x.still x.live refl (λ i. ap (λ z. says_notified z i) is_ready ∙ no_told i))))))

  -- IT IS ANOTHER'S
  missed_does : (f : Option OwnerForm) (k : ThreadView) (m n : ℕ) → LetGo k → k.stage ≡ Settled → waits_on k.wait o ≡ true → read_owner n ≡ f
      → IsOwner heap.shape f → (read_owner n ≡ Some Free → ⊥) → (IsOwned k.thread f → ⊥)
      → Does heap false (resume_owner_at f e k.thread k.saved o m n) k (λ b r l. AtRest heap.shape l)
  missed_does None k m n x calm waits reads form taken other = absurd form
  missed_does (Some Free) k m n x calm waits reads form taken other = absurd (taken reads)
  missed_does (Some (ByThread u)) k m n x calm waits reads form taken other =
      chooses heap false (u == k.thread) _ _ k _ (λ mine. absurd (other (eqb-true u k.thread mine)))
      (λ no. answers heap false _ k _ (let_go_rests k x calm waits))
  missed_does (Some (ByRecord u p)) k m n x calm waits reads form taken other =
      chooses heap false (u == k.thread) _ _ k _ (λ mine. absurd (other (eqb-true u k.thread mine)))
      (λ no. answers heap false _ k _ (let_go_rests k x calm waits))

  -- the exchange of the owner word, once it was notified
  owner_does : (k : ThreadView) (m word : ℕ) → LetGo k → k.stage ≡ Settled → waits_on k.wait o ≡ true → SawInflated k o m
      → last_seen (id.Waiting k.thread) k.seen ≡ Some word → says_notified word o ≡ true → SawNone heap e o k
      → Does heap false (resume_owner_steps e k.thread k.saved o m) k (λ b r l. AtRest heap.shape l)
  owner_does k m word x calm waits inflated saw told none =
      let regain = regain_plan e k.thread o m in
      exchanging heap false regain (owner_of Free) (owner_of (ByThread k.thread)) (λ n. resume_owner_at (read_owner n) e k.thread k.saved o m n) k _ refl
      (λ i. regains_rule heap k e o m (λ v. record {
        runs = x.runs;
        calm = calm;
        inflated = inflated;
        told = (word, saw, told);
        unseen = none m;
        goes_on = inl (sym x.mine);
      }) (inl (sym x.mine)))
      (λ n i was h.
      let l = known_hit heap.shape heap.start regain n k in
      subst (λ f. Does heap false (resume_owner_at f e k.thread k.saved o m n) l (λ b r l. AtRest heap.shape l))
      (sym (ap read_owner h ∙ read_owner-owner_of Free tt))
      (resumed_does l m
      (record {
        works = x.works;
        mine = refl;
        check = refl;
        waits = x.waits;
      }) refl
      (inflated.0, saw_older heap regain n k (id.Mark o) i refl refl ∙ inflated.1, inflated.2)
      (saw_newest heap regain n k ∙ ap (λ (b : Bool). Some (cond b (owner_of (ByThread k.thread)) n)) (eq-eqb n (owner_of Free) h))))
      (λ n i was h.
      missed_does (read_owner n) (known_miss heap.shape heap.start regain n k) m n
      (record {
        works = x.works;
        mine = x.mine;
        check = x.check;
        waits = x.waits;
      }) calm waits refl
      (owner_form heap e o m k n was.stands x.runs calm inflated was.found)
      (λ free. let same = (read_owner-spells n Free free).1 in absurd (cc (eq-eqb n (owner_of Free) same, h)))
      (unowned_here heap k was.stands x.runs o word saw told m n calm inflated was.found))

  -- BY THE FORM of the waiting word
  at_does : (f : Option WaitForm) (k : ThreadView) (word : ℕ) → LetGo k → k.stage ≡ Settled → waits_on k.wait o ≡ true
      → last_seen (id.Waiting k.thread) k.seen ≡ Some word → SawNone heap e o k
      → read_wait word ≡ f → (waits_form f o ≡ true) ⊎ (notified_form f o ≡ true)
      → Does heap false (resume_at f e k.thread k.saved o word) k (λ b r l. AtRest heap.shape l)
  at_does (Some (wait.Waiting i stamp)) k word x calm waits saw none reads says = answers heap false _ k _ (let_go_rests k x calm waits)
  at_does (Some (wait.Notified i)) k word x calm waits saw none reads (inr says) =
      let look = load e (id.Mark o) in
      let told : says_notified word o ≡ true = ap (λ f. notified_form f o) reads ∙ says in
      hitting heap false look _ k _ (λ n. refl) (λ i. looks_running heap k e Settled (id.Mark o) refl x.runs (sym calm) x.check (inl (sym x.mine))
      (λ v. x.object) (inl (sym x.mine)) (λ free. x.known)) (λ mark j was.
      let l = known_hit heap.shape heap.start look mark k in
      let is = inflated_here heap k was.stands x.runs o word saw told mark was.found in
      subst (λ f. Does heap false (resume_mark_at f e k.thread k.saved o) l (λ b r l. AtRest heap.shape l)) (sym (inflated_form (read_mark mark) is.0 is.1))
      (owner_does l is.0 word
      (record {
        works = x.works;
        mine = refl;
        check = refl;
        waits = x.waits;
      }) refl waits
      (mark, saw_newest heap look mark k, is.1) (saw_older heap look mark k (id.Waiting k.thread) j refl refl ∙ saw) told
      (λ a r sees. none a r (sym (saw_older heap look mark k (id.Recursions a) j refl refl) ∙ sees))))
  at_does _ k word x calm waits saw none reads (inl says) = absurd (cc says)
  at_does _ k word x calm waits saw none reads (inr says) = absurd (cc says)

  -- the look at its own waiting word, in the same call or as the first step of a later one
  pub monitor_resume_does : (fresh : Bool) (k : ThreadView) → LetGo k → k.stage ≡ Settled → waits_on k.wait o ≡ true
      → ((n : ℕ) → is_idle heap.shape k ≡ fresh → SawNone heap e o (known_hit heap.shape heap.start (load e (id.Waiting k.thread)) n k))
      → Does heap fresh (monitor_resume_steps e k.thread k.saved o) k (λ b r l. AtRest heap.shape l)
  monitor_resume_does fresh k x calm waits none =
      let look = load e (id.Waiting k.thread) in
      hitting heap fresh look _ k _ (λ n. refl)
      (λ i. looks_running heap k e Settled (id.Waiting k.thread) refl x.runs (sym calm) x.check (inl (sym x.mine)) (λ v. v.within)
      (inl (sym x.mine)) tt)
      (λ word i was.
      at_does (read_wait word) (known_hit heap.shape heap.start look word k) word
      (record {
        works = x.works;
        mine = refl;
        check = refl;
        waits = x.waits;
      }) refl waits
      (saw_newest heap look word k) (none word i) refl (says_here heap k was.stands x.runs o word waits was.found))
