-- The steps by which a wait lets go of the monitor.
use Rattle.std.proofs.Common.{◌≡◌, ℕ, ◌+◌, ◌<◌, ◌≤◌, ◌^◌, ◌==◌, eq-eqb, max, Bool, true, false, cond, List, [], ◌∷◌}
use Rattle.std.proofs.Common.{◌++◌, length, length-append, Option, Some, None, refl, sym, ap, ◌∙◌, subst, arith, inl}
use Rattle.std.proofs.lemmas.Option.{same_Some}
use Rattle.mark_word.specs.declared.owner.OwnerForm.{OwnerForm}
use Rattle.mark_word.specs.declared.owner.OwnerForm.TheVariants.{Free, ByThread, ByRecord}
use Rattle.mark_word.specs.declared.wait.WaitForm.TheVariants as wait
use Rattle.mark_word.specs.Owner.{owner_of, read_owner}
use Rattle.mark_word.specs.Wait.{wait_of}
use Rattle.mark_word.proofs.ReadingOwners.{read_owner-spells}
use Rattle.mark_word.proofs.ReadingWaits.{read_wait-wait_of}
use Rattle.plain_monitor.specs.declared.entry.Logged.{Logged}
use Rattle.plain_monitor.specs.History.{last_stamp}
use Rattle.core_world.specs.declared.act.Act.{Act}
use Rattle.core_world.specs.declared.act.Act.TheVariants.{Load, Store}
use Rattle.core_world.specs.declared.word_id.WordId.TheVariants as id
use Rattle.core_world.specs.declared.plan.LocalEffect.{LocalEffect}
use Rattle.core_world.specs.declared.plan.LocalEffect.TheVariants as own
use Rattle.core_world.specs.declared.plan.StepPlan.{StepPlan}
use Rattle.core_world.specs.declared.stage.Stage.{Stage}
use Rattle.core_world.specs.declared.stage.Stage.TheVariants.{Settled, OwnerConverted}
use Rattle.core_world.specs.declared.heap_call.Operation.TheVariants as op
use Rattle.core_world.specs.Words.Acts.{word_after}
use Rattle.core_world.specs.Words.Forms.{waits_on, waits_form}
use Rattle.core_world.specs.Threads.ThreadView.{ThreadView, Local, Still, local_of, last_seen}
use Rattle.core_world.specs.Clauses.Lengths.{log_limit}
use Rattle.core_world.specs.Locks.{hold_count}
use Rattle.core_world.specs.Trees.MonitorSteps.{own_steps, take_over_plan, reset_count_plan}
use Rattle.core_world.specs.Trees.Plans.{CallContext, quiet_plan, with_stage, with_own, load, next_stamp}
use Rattle.core_world.specs.Clauses.Safepoints.{IsUnfinished}
use Rattle.core_world.specs.Steps.{is_idle, known_hit, moving_after}
use Rattle.core_world.specs.Threads.References.{numbering}
use Rattle.core_world.specs.Trees.StepTree.{StepTree, done, ask, ◌>>=◌}
use Rattle.core_world.specs.Trees.WaitSteps.{log_wait_steps, monitor_wait_steps, save_count_plan, drop_plan, quit_plan, log_wait_plan}
use Rattle.core_world.specs.Trees.LockSteps.{raise_stamp_plan}
use Rattle.core_locks.specs.Knowing.{SawInflated, SawOwn}
use Rattle.core_locks.specs.MonitorLaws.{MayCount}
use Rattle.core_locks.proofs.wait.LeavesStamps.{next_fits}
use Rattle.core_locks.proofs.WaitOut.{ready_is_out}
use Rattle.core_law.specs.Logic.{Heap, SoundWorldWith, Keeps, Does}
use Rattle.core_steps.proofs.WorksOn.{WorksOn}
use Rattle.core_steps.proofs.Facts.{limits_here}
use Rattle.core_law.proofs.Standing.{fits_here, home}
use Rattle.core_steps.proofs.monitor.Inflations.{SawNone}
use Rattle.core_steps.proofs.LawRules.{raises}
use Rattle.core_steps.proofs.monitor.MonitorFacts.{IsOwned, owned_here}
use Rattle.core_steps.proofs.monitor.MonitorRules.{looks_at_monitor, saves_rule, mans_rule, resets_count_rule, drops_rule, quits_rule}
use Rattle.core_steps.proofs.Resting.{live_after}
use Rattle.core_steps.proofs.SeenSteps.{saw_newest, saw_older, saw_any}
use Rattle.core_steps.proofs.Trees.{answers, binds, follows, hitting}
use Rattle.core_steps.proofs.wait.WaitEnds.{LetGo}
use Rattle.core_steps.proofs.wait.WaitRules.{logs_wait}
use Rattle.core_locks.proofs.KnownMore.{knows_more}

module _ (heap : Heap) (e : CallContext) (o m : ℕ) where
  -- what a thread counts on that is about to wait on o, whose monitor is m
  pub record Letting (k : ThreadView) : Type 0 where
    pub works : WorksOn heap k.running k.requesting k.moving k.log e o
    pub open works use *
    pub two : length k.log + 2 ≤ log_limit
    pub holds : 1 ≤ hold_count o k.holds
    pub mine : k.unfinished ≡ e.unfinished
    pub check : e.check ≡ k.checking
    pub ready : k.wait ≡ 0
    pub waits : IsUnfinished e.unfinished op.Wait o
    pub inflated : SawInflated k o m
    -- of the recursions of other monitors it saw nothing, or that they are 0
    pub none : (a r : ℕ) → (a == m) ≡ false → last_seen (id.Recursions a) k.seen ≡ Some r → r ≡ 0

  -- a step on the owner word, and one on the recursions, leave all that
  module _ (k : ThreadView) (x : Letting k) (i : is_idle heap.shape k ≡ false) (act : Act) (n : ℕ) where
    after_owner : (stage : Stage) → Letting (known_hit heap.shape heap.start (with_stage stage (quiet_plan e (id.Owner m) act)) n k)
    after_owner stage =
        let older = saw_older heap (with_stage stage (quiet_plan e (id.Owner m) act)) n k in
        record {
          works = x.works;
          two = x.two;
          holds = x.holds;
          mine = refl;
          check = refl;
          ready = x.ready;
          waits = x.waits;
          inflated = (x.inflated.0, older (id.Mark o) i refl refl ∙ x.inflated.1, x.inflated.2);
          none = λ a r d saw. x.none a r d (sym (older (id.Recursions a) i refl refl) ∙ saw);
        }

    after_recursions : (keep : LocalEffect) → moving_after keep n k.moving ≡ Still
        → Letting (known_hit heap.shape heap.start (with_own keep (quiet_plan e (id.Recursions m) act)) n k)
    after_recursions keep still =
        let p = with_own keep (quiet_plan e (id.Recursions m) act) in
        record {
          works = record { may = x.may; runs = x.runs; unasks = x.unasks; still = still };
          two = x.two;
          holds = x.holds;
          mine = refl;
          check = refl;
          ready = x.ready;
          waits = x.waits;
          inflated = (x.inflated.0, saw_older heap p n k (id.Mark o) i refl refl ∙ x.inflated.1, x.inflated.2);
          none = λ a r d saw. x.none a r d (sym (saw_any heap p n k (id.Recursions a) i refl
              ∙ ap (λ (b : Bool). cond b (Some (word_after act n)) (last_seen (id.Recursions a) k.seen)) d) ∙ saw);
        }

  may_count : (k : ThreadView) → Letting k → SawOwn k k.thread m → MayCount k e o m
  may_count k x own = record { runs = x.runs; out = ready_is_out k x.ready; holds = x.holds; inflated = x.inflated; owner = own; goes_on = inl (sym x.mine) }

  -- FIRST the thread itself becomes the owner, where one of its records is
  own_does : (f : Option OwnerForm) (k : ThreadView) (owner : ℕ) (Q : Bool → Unit {0} → ThreadView → Type 0) → Letting k → k.stage ≡ Settled
      → last_seen (id.Owner m) k.seen ≡ Some owner → read_owner owner ≡ f → IsOwned k.thread f
      → ((l : ThreadView) → local_of l ≡ local_of k → l.stage ≡ Settled → Letting l → SawOwn l l.thread m → Q false tt l)
      → Does heap false (own_steps f e (local_of k) o m) k Q
  own_does None k owner Q x calm saw reads mine then_so = absurd mine
  own_does (Some Free) k owner Q x calm saw reads mine then_so = absurd mine
  own_does (Some (ByThread u)) k owner Q x calm saw reads mine then_so =
      answers heap false tt k Q (then_so k refl calm x (saw ∙ ap Some ((read_owner-spells owner (ByThread u) reads).1 ∙ ap (λ z. owner_of (ByThread z)) mine)))
  own_does (Some (ByRecord u p)) k owner Q x calm saw reads mine then_so =
      let man = take_over_plan e k.thread o m in
      let reset = reset_count_plan e m in
      hitting heap false man _ k _ (λ n. refl) (λ i. mans_rule heap k e o m p (λ v. record {
        runs = x.runs;
        calm = calm;
        out = ready_is_out k x.ready;
        holds = x.holds;
        inflated = x.inflated;
        owner = (owner, saw, reads ∙ ap (λ z. Some (ByRecord z p)) mine);
        goes_on = inl (sym x.mine);
      }) (inl (sym x.mine))) (λ n i was.
      let l = known_hit heap.shape heap.start man n k in
      let y = after_owner k x i (Store (owner_of (ByThread k.thread))) n (OwnerConverted o) in
      let owns : SawOwn l l.thread m = saw_newest heap man n k in
      hitting heap false reset _ l _ (λ n. refl) (λ j. resets_count_rule heap l e o m (λ v. record { counts = may_count l y owns; takes_over = refl })
      (inl refl)) (λ r j was.
      answers heap false tt _ Q (then_so (known_hit heap.shape heap.start reset r l) refl refl
      (after_recursions l y j (Store 0) r own.Unchanged y.still) (saw_older heap reset r l (id.Owner m) j refl refl ∙ owns))))

  -- what it leaves: the wait has let go
  pub record HasLetGo (k : ThreadView) (saved : ℕ) (l : ThreadView) : Type 0 where
    pub thread : l.thread ≡ k.thread
    pub kept : l.saved ≡ saved
    pub let_go : LetGo heap e o l
    pub calm : l.stage ≡ Settled
    pub waits : waits_on l.wait o ≡ true
    pub none : SawNone heap e o l

  abbrev saved_steps : Local → StepTree ℕ
  saved_steps z = do
    recursions ← ask (save_count_plan e m)
    _ ← ask (raise_stamp_plan e o (next_stamp z))
    _ ← log_wait_steps e z o
    _ ← ask (drop_plan e o m)
    _ ← ask (quit_plan e m)
    done recursions

  -- the word that it stores says that it waits
  word_waits : (k : ThreadView) → Letting k → SoundWorldWith heap k
      → waits_on (cond (k.thread == k.thread) (wait_of (wait.Waiting o (next_stamp (local_of k)))) k.wait) o ≡ true
  word_waits k x v =
      let word = wait_of (wait.Waiting o (next_stamp (local_of k))) in
      let stamp : last_stamp k.log + 1 < 2 ^ 46 =
      home heap k v (λ s y. last_stamp y.log + 1 < 2 ^ 46) (next_fits v.world v.objects k.thread (fits_here heap k v x.runs)) in
      let small : o < 2 ^ 15 = let few = limits_here heap k v x.runs in let objects = few.objects in let object = x.object in omega (arith, objects, object) in
      ap (λ (b : Bool). waits_on (cond b word k.wait) o) (eq-eqb k.thread k.thread refl)
      ∙ ap (λ f. waits_form f o) (read_wait-wait_of (wait.Waiting o (next_stamp (local_of k))) (small, stamp)) ∙ eq-eqb o o refl

  saved_does : (k : ThreadView) → Letting k → k.stage ≡ Settled → SawOwn k k.thread m
      → Does heap false (saved_steps (local_of k)) k (λ b saved l. HasLetGo k saved l)
  saved_does k x calm owns =
      let stamp = next_stamp (local_of k) in
      let save = save_count_plan e m in
      let raise = raise_stamp_plan e o stamp in
      let wait : StepPlan = log_wait_plan e k.thread o stamp in
      let drop = drop_plan e o m in
      let quit = quit_plan e m in
      let room = x.two in
      hitting heap false save _ k _ (λ n. refl) (λ i. saves_rule heap k e o m (λ v. (may_count k x owns, calm)) (inl (sym x.mine))) (λ n0 i0 was0.
      let k1 = known_hit heap.shape heap.start save n0 k in
      let x1 = after_recursions k x i0 Load n0 own.SaveRecursions x.still in
      let owns1 : SawOwn k1 k1.thread m = saw_older heap save n0 k (id.Owner m) i0 refl refl ∙ owns in
      hitting heap false raise _ k1 _ (λ n. refl)
      (λ i. raises heap k1 e o x.object (λ v. record {
        runs = x.runs;
        calm = refl;
        out = ready_is_out k1 x.ready;
        holds = x.holds;
        goes_on = inl refl;
        letting = inl x.waits;
      }) (inl refl)) (λ n1 i1 was1.
      let k2 = known_hit heap.shape heap.start raise n1 k1 in
      let owns2 : SawOwn k2 k2.thread m = saw_older heap raise n1 k1 (id.Owner m) i1 refl refl ∙ owns1 in
      let inflated2 : SawInflated k2 o m = (x1.inflated.0, saw_older heap raise n1 k1 (id.Mark o) i1 refl refl ∙ x1.inflated.1, x1.inflated.2) in
      hitting heap false wait _ k2 _ (λ n. refl) (λ i. logs_wait heap k2 e o m (max n1 stamp) (λ v. record {
        runs = x.runs;
        calm = refl;
        ready = x.ready;
        holds = x.holds;
        object = record { within = x.object; known = x.known };
        waits = x.waits;
        goes_on = refl;
        inflated = inflated2;
        owner = owns2;
        recursions = saw_older heap raise n1 k1 (id.Recursions m) i1 refl refl ∙ saw_newest heap save n0 k;
        stamped = saw_newest heap raise n1 k1;
        high = omega arith;
        room = omega (arith, room);
      }) (inl refl)) (λ n2 i2 was2.
      let k3 = known_hit heap.shape heap.start wait n2 k2 in
      let owns3 : SawOwn k3 k3.thread m = saw_older heap wait n2 k2 (id.Owner m) i2 refl refl ∙ owns2 in
      let inflated3 : SawInflated k3 o m = (inflated2.0, saw_older heap wait n2 k2 (id.Mark o) i2 refl refl ∙ inflated2.1, inflated2.2) in
      hitting heap false drop _ k3 _ (λ n. refl)
      (λ i. drops_rule heap k3 e o m (λ v. record { runs = x.runs; stage = refl; inflated = inflated3; owner = owns3; goes_on = inl refl })
      (inl refl)) (λ n3 i3 was3.
      let k4 = known_hit heap.shape heap.start drop n3 k3 in
      let owns4 : SawOwn k4 k4.thread m = saw_older heap drop n3 k3 (id.Owner m) i3 refl refl ∙ owns3 in
      let inflated4 : SawInflated k4 o m = (inflated3.0, saw_older heap drop n3 k3 (id.Mark o) i3 refl refl ∙ inflated3.1, inflated3.2) in
      hitting heap false quit _ k4 _ (λ n. refl) (λ i. quits_rule heap k4 e o m (λ v. record {
        drops = record { runs = x.runs; stage = refl; inflated = inflated4; owner = owns4; goes_on = inl refl };
        recursions = saw_newest heap drop n3 k3;
      }) (inl refl)) (λ n4 i4 was4.
      answers heap false n0 (known_hit heap.shape heap.start quit n4 k4) _ (record {
        thread = refl;
        kept = refl;
        let_go = record {
          works = record {
            may = record {
              unchecks = x.unchecks;
              live = live_after k.log _ x.live refl;
              room = fits_one k.log _ x.two;
              object = x.object;
              known = knows_more (numbering heap.shape) k.log _ o x.known;
            };
            runs = x.runs;
            unasks = x.unasks;
            still = x.still;
          };
          mine = refl;
          check = refl;
          waits = x.waits;
        };
        calm = refl;
        waits = word_waits k x was0.stands;
        none = λ a r saw. zero a r (a == m) refl _
            (sym (saw_any heap drop n3 k3 (id.Recursions a) i3 refl) ∙ sym (saw_older heap quit n4 k4 (id.Recursions a) i4 refl refl) ∙ saw)
            (λ d later. x1.none a r d
            (sym (saw_older heap wait n2 k2 (id.Recursions a) i2 refl refl ∙ saw_older heap raise n1 k1 (id.Recursions a) i1 refl refl) ∙ later));
      }))))))
    where
      fits_one : (log : List Logged) (l : Logged) → length log + 2 ≤ log_limit → length (log ++ l ∷ []) < log_limit
      fits_one log l room = let sum = length-append log (l ∷ []) in omega (arith, room, sum)

      zero : (a r : ℕ) (b : Bool) → (a == m) ≡ b → (later : Option ℕ) → cond b (Some 0) later ≡ Some r → ((a == m) ≡ false → later ≡ Some r → r ≡ 0) → r ≡ 0
      zero a r true e later saw none = sym (same_Some _ _ saw)
      zero a r false e later saw none = none e saw

  pub monitor_wait_does : (k : ThreadView) → Letting k → k.stage ≡ Settled
      → Does heap false (monitor_wait_steps e (local_of k) o m) k (λ b saved l. HasLetGo k saved l)
  monitor_wait_does k x calm =
      let look = load e (id.Owner m) in
      hitting heap false look _ k _ (λ n. refl)
      (λ i. subst (λ z. Keeps heap (with_stage z look) k) calm (looks_at_monitor heap k e (id.Owner m) o m refl x.runs x.inflated (inl (sym x.mine)) x.check
      (inl (sym x.mine)))) (λ owner i was.
      let l = known_hit heap.shape heap.start look owner k in
      binds heap false (own_steps (read_owner owner) e (local_of k) o m) (λ u. saved_steps (local_of k)) l _ (
      own_does (read_owner owner) l owner _ (after_owner k x i Load owner Settled) refl (saw_newest heap look owner k) refl
      (owned_here heap k was.stands x.runs o m owner x.inflated calm (ready_is_out k x.ready) x.holds was.found)
      (λ y same calm_y z owns.
      subst (λ w. Does heap false (saved_steps w) y (λ b saved l. HasLetGo k saved l)) same
      (follows_from y (ap (λ (w : Local). w.thread) same) (saved_does y z calm_y owns)))))
    where
      follows_from : (y : ThreadView) → y.thread ≡ k.thread → Does heap false (saved_steps (local_of y)) y (λ b saved l. HasLetGo y saved l)
          → Does heap false (saved_steps (local_of y)) y (λ b saved l. HasLetGo k saved l)
      follows_from y same h = follows heap false _ y _ _ h (λ b saved l g. record {
        thread = g.thread ∙ same;
        kept = g.kept;
        let_go = g.let_go;
        calm = g.calm;
        waits = g.waits;
        none = g.none;
      })
