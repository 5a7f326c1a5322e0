-- An enter as far as biases go: under a bias of its own, or of one that it takes, or up to a mark without the bias pattern.
use Rattle.std.proofs.Common.{◌≡◌, ◌⊎◌, ℕ, ◌-◌, ◌<◌, ◌≤◌, ◌==◌, eq-eqb, eqb-true, Bool, true, false, cond}
use Rattle.std.proofs.Common.{Option, Some, None, refl, sym, ap, ◌∙◌, subst, inl, inr, arith}
use Rattle.mark_word.specs.declared.mark.MarkForm.{MarkForm}
use Rattle.mark_word.specs.declared.mark.MarkForm.TheVariants.{Inflating, Neutral, Anonymous, Biased, Locked, Inflated, Marked}
use Rattle.mark_word.specs.Mark.{mark_of, read_mark}
use Rattle.plain_monitor.specs.Limits.{most_holds}
use Rattle.plain_monitor.specs.declared.entry.Path.{Path}
use Rattle.plain_monitor.specs.declared.entry.Path.TheVariants.{BiasOwn, BiasTaken}
use Rattle.core_world.specs.declared.answer.BiasTry.{BiasTry}
use Rattle.core_world.specs.declared.answer.BiasTry.TheVariants.{Took, Unbiased, Valid, Raced}
use Rattle.core_world.specs.declared.word_id.WordId.TheVariants as id
use Rattle.core_world.specs.declared.plan.StepPlan.{StepPlan}
use Rattle.core_world.specs.declared.stage.Stage.TheVariants.{Settled, BiasAcquired}
use Rattle.core_world.specs.declared.heap_call.Operation.TheVariants as op
use Rattle.core_world.specs.Threads.AtRest.{AtRest, SawClass, SawNoOther}
use Rattle.core_world.specs.Trees.BiasSteps.{unbias_plan, rebias_plan, took_steps, rebias_steps, bias_enter_at, bias_enter_by}
use Rattle.core_world.specs.Trees.BiasSteps.{bias_enter_steps, bias_after_at, bias_after_steps, stage_after}
use Rattle.core_world.specs.Words.Forms.{is_biased, is_biased_form, epoch_in, epoch_form, says_notified}
use Rattle.core_world.specs.Threads.ThreadView.{ThreadView, Local, Still, local_of, last_seen}
use Rattle.core_world.specs.Locks.{hold_count, is_valid_bias}
use Rattle.core_world.specs.Trees.LockSteps.{hold_steps}
use Rattle.core_world.specs.Trees.Plans.{CallContext, with_stage, load, free_place}
use Rattle.core_world.specs.Clauses.Safepoints.{IsUnfinished}
use Rattle.core_world.specs.Words.Shape.{class_in_shape}
use Rattle.core_world.specs.Threads.Stages.{Revocation}
use Rattle.core_world.specs.Steps.{known_hit, known_miss}
use Rattle.core_world.specs.Trees.StepTree.{done, ask, ◌>>=◌}
use Rattle.core_world.specs.Clauses.WordForms.{IsMark}
use Rattle.core_world.proofs.enter_exit.OwnersShown.{lock_by_form}
use Rattle.core_locks.specs.Knowing.{GoesOn, IsBiasTo, SawOwnBias}
use Rattle.core_locks.proofs.enter_exit.MarkHolds.{standing_names}
use Rattle.core_locks.proofs.monitor.OwnerTurns.{rest_hold}
use Rattle.core_bias.specs.Biasing.{IsUnownedBias}
use Rattle.bias_law.specs.Steps.{WentBefore}
use Rattle.core_law.specs.Logic.{Heap, SoundWorldWith, Keeps, Does}
use Rattle.core_steps.proofs.WorksOn.{MayWorkOn}
use Rattle.core_steps.proofs.Looks.{looks_running}
use Rattle.core_steps.proofs.bias.BiasFacts.{SawHeaders, SawMarkAlone, headers_first, headers_more, mark_alone, class_more, class_some}
use Rattle.core_steps.proofs.bias.BiasFacts.{saw_two, unreached_here, bias_stays, biasing_here}
use Rattle.core_steps.proofs.bias.BiasFacts.{IsPrototype, IsPrototypeForm, prototype_here, prototype_form, prototype_neutral}
use Rattle.core_steps.proofs.bias.BiasFacts.{own_bias, neutral_reads_so, loose_unepoched, stale_epoch, own_epoch, free_bias}
use Rattle.core_steps.proofs.bias.BiasRules.{rebiases_rule, unbiases_rule}
use Rattle.core_steps.proofs.Facts.{Untold, Knows}
use Rattle.core_law.proofs.Standing.{fits_here, home, away}
use Rattle.core_steps.proofs.monitor.Inflations.{form_found}
use Rattle.core_steps.proofs.ClassSteps.{class_from, class_declared, class_made, class_found, made_there, class_does}
use Rattle.core_law.proofs.SafepointSights.{found_formed}
use Rattle.core_world.proofs.There.{class_there}
use Rattle.core_steps.proofs.LawRules.{limits}
use Rattle.core_steps.proofs.Resting.{rests, live_carries}
use Rattle.core_steps.proofs.SeenSteps.{saw_newest, saw_older}
use Rattle.core_steps.proofs.enter_exit.StackEnters.{Taking, undumped_enter, hold_does, taking_begins}
use Rattle.core_steps.proofs.bias.RevocationEnds.{Released}
use Rattle.core_steps.proofs.enter_exit.StackExits.{unbiased_here}
use Rattle.core_steps.proofs.Tests.{is_of_kind}
use Rattle.core_steps.proofs.Trees.{answers, binds, chooses, follows, hitting, swapping}

module _ (heap : Heap) (o : ℕ) (e : CallContext) (enters : IsUnfinished e.unfinished op.Enter o) where
  -- what the thread counts on all the way
  pub record Enters (k : ThreadView) : Type 0 where
    pub takes : Taking heap k.running k.requesting k.moving k.log e o
    pub mine : k.unfinished ≡ e.unfinished
    pub check : e.check ≡ k.checking
    pub calm : k.stage ≡ Settled
    pub untold : Untold k
    pub place : free_place k.holds < most_holds

  pub enters_rests : (k : ThreadView) → Enters k → AtRest heap.shape k
  enters_rests k x = rests heap.shape k x.calm x.takes.unasks (sym x.check ∙ x.takes.unchecks) (live_carries k.log k.wait k.holds
      k.unfinished x.takes.still x.takes.live (λ i h. x.place) (λ dumps. undumped_enter e o (inr enters) (sym x.mine ∙ dumps)) x.untold)

  -- a mark without the bias pattern was found, and no word that a lock's own steps see: the enter goes on by that mark
  pub record FoundMark (here : Local) (kept : Option ℕ) (mark : ℕ) (l : ThreadView) : Type 0 where
    pub going : Enters l
    pub local : local_of l ≡ here
    pub kept_is : l.kept ≡ kept
    pub headers : SawHeaders l
    pub saw : last_seen (id.Mark o) l.seen ≡ Some mark
    pub form : IsMark heap.shape (read_mark mark)
    pub unbiased : is_biased mark ≡ false
    pub holds : (p : ℕ) → read_mark mark ≡ Some (Locked l.thread p) → 1 ≤ hold_count o l.holds

  -- another's valid bias was found
  pub record FoundBias (here : Local) (kept : Option ℕ) (mark : ℕ) (l : ThreadView) : Type 0 where
    pub going : Enters l
    pub local : local_of l ≡ here
    pub kept_is : l.kept ≡ kept
    pub unreached : l.reached ≡ false
    pub saw : last_seen (id.Mark o) l.seen ≡ Some mark
    pub prototype : (p c : ℕ) × SawClass heap.shape l.seen o c × (last_seen (id.Prototype c) l.seen ≡ Some p) × (is_valid_bias (read_mark mark) p ≡ true)
    pub alone : SawNoOther heap.shape l o

  -- what follows the answers with which no bias is left to revoke, and each answer
  pub record EnterOutcomes (here : Local) (kept : Option ℕ) (Q : Bool → BiasTry → ThreadView → Type 0) : Type 0 where
    pub took : (f : Bool) (l : ThreadView) (path : Path) → AtRest heap.shape l → Q f (Took path) l
    pub unbiased : (l : ThreadView) (mark : ℕ) → FoundMark here kept mark l → Q false (Unbiased mark) l

  pub record Tries (here : Local) (kept : Option ℕ) (Q : Bool → BiasTry → ThreadView → Type 0) : Type 0 where
    pub outcomes : EnterOutcomes here kept Q
    pub valid : (l : ThreadView) (mark : ℕ) → FoundBias here kept mark l → Q false (Valid mark) l
    pub raced : (l : ThreadView) (mark found : ℕ) → AtRest heap.shape l → Q false (Raced mark found) l

  -- a mark that names a record of the thread: it holds the object
  holds_by : (k : ThreadView) (mark p : ℕ) (v : SoundWorldWith heap k) → k.running ≡ true → k.stage ≡ Settled → v.world.words (id.Mark o) ≡ mark
      → read_mark mark ≡ Some (Locked k.thread p) → 1 ≤ hold_count o k.holds
  holds_by k mark p v runs calm found reads =
      let fits = fits_here heap k v runs in
      let rests_there = lock_by_form v.world o (Locked k.thread p) (ap read_mark found ∙ reads) in
      home heap k v (λ s y. 1 ≤ hold_count o y.holds)
      (standing_names v.world v.objects fits k.thread p o 1 (omega arith)
      (rest_hold v.world v.objects k.thread o p fits rests_there (away heap k v (λ s y. y.stage ≡ Settled) calm)))

  module _ (here : Local) (kept : Option ℕ) (Q : Bool → BiasTry → ThreadView → Type 0) where
    -- THE HOLD under a bias to the thread
    took_does : EnterOutcomes here kept Q → (k : ThreadView) (path : Path) → Taking heap k.running k.requesting k.moving k.log e o → k.unfinished ≡ e.unfinished
        → Untold k → free_place k.holds < most_holds → (k.stage ≡ BiasAcquired o) ⊎ (k.stage ≡ Settled)
        → SawOwnBias heap.shape k o → WentBefore heap.biasing heap.shape k o (free_place k.holds) path → Does heap false (took_steps e (local_of k) o path) k Q
    took_does outs k path a mine untold place stage saw went =
        binds heap false (hold_steps e (local_of k) o path) (λ p. done (Took p)) k Q (
        follows heap false _ k _ _ (hold_does heap k e o path a mine untold place (inr (inr (inr (inr (stage, saw)))), went))
        (λ f p l x. answers heap f (Took p) l Q (outs.took f l p x)))

    -- after the loads of the mark and the prototype
    module _ (outs : Tries here kept Q) (k : ThreadView) (mark prototype class : ℕ) (x : Enters k)
        (local : local_of k ≡ here) (same : k.kept ≡ kept) (headers : SawHeaders k) (unreached : k.reached ≡ false)
        (saw_mark : last_seen (id.Mark o) k.seen ≡ Some mark) (saw_class : SawClass heap.shape k.seen o class)
        (saw_prototype : last_seen (id.Prototype class) k.seen ≡ Some prototype) (alone : SawNoOther heap.shape k o) where
      -- an exchange that misses
      races : (n : ℕ) (l : ThreadView) → Enters l → Q false (Raced mark n) l
      races n l y = outs.raced l mark n (enters_rests l y)

      -- anonymous or stale: the mark becomes a bias to the thread
      rebias_does : (epoch : ℕ) → epoch_in prototype ≡ Some epoch → IsUnownedBias (read_mark mark) (epoch_in prototype)
          → Does heap false (rebias_steps e (local_of k) o mark epoch) k Q
      rebias_does epoch is loose =
          let own = mark_of (Biased k.thread epoch 0) in
          let exchange = rebias_plan e k.thread o mark epoch in
          swapping heap false exchange mark own (λ n. took_steps e (local_of k) o BiasTaken) (λ n. done (Raced mark n)) k Q refl
          (λ i. rebiases_rule heap k e o mark prototype epoch (record { within = x.takes.object; known = x.takes.known }) (λ v. (
            record {
              prototype = prototype;
              exchange = record {
                runs = x.takes.runs;
                calm = x.calm;
                class = class;
                saw_class = saw_class;
                saw = saw_prototype;
                loose = loose;
                goes_on = sym x.mine;
              };
              valid = is;
            },
            record {
              runs = x.takes.runs;
              calm = x.calm;
              goes_on = inl (sym x.mine);
              saw = free_bias heap.shape k o class mark prototype saw_class saw_prototype loose;
              valid = is;
            },
          )) (inl (sym x.mine)))
          (λ n i was h.
          let l = known_hit heap.shape heap.start exchange n k in
          took_does outs.outcomes l BiasTaken x.takes refl x.untold x.place (inl refl) (
            own,
            prototype,
            class,
            saw_newest heap exchange n k ∙ ap (λ (z : Bool). Some (cond z own n)) (eq-eqb n mark h),
            class_from heap.shape k.seen l.seen o class (saw_older heap exchange n k (id.Class o) i refl refl) saw_class,
            saw_older heap exchange n k (id.Prototype class) i refl refl ∙ saw_prototype,
            own_bias heap k was.stands prototype epoch is,
          ) refl)
          (λ n i was h. answers heap false (Raced mark n) _ Q (races n (known_miss heap.shape heap.start exchange n k)
          (record { takes = x.takes; mine = x.mine; check = x.check; calm = x.calm; untold = x.untold; place = x.place })))

      -- by the form of the mark, where the prototype has an epoch
      at_does : (epoch : ℕ) (f : Option MarkForm) → epoch_in prototype ≡ Some epoch → read_mark mark ≡ f → is_biased_form f ≡ true
          → Does heap false (bias_enter_at f epoch e (local_of k) o mark) k Q
      at_does epoch (Some (Anonymous old age)) is reads biased = rebias_does epoch is (subst (λ f. IsUnownedBias f (epoch_in prototype)) (sym reads) tt)
      at_does epoch (Some (Biased u old age)) is reads biased =
          chooses heap false (old == epoch) _ _ k Q
          (λ now.
          let valid = own_epoch old epoch (epoch_in prototype) is now in
          chooses heap false (u == k.thread) _ _ k Q
          (λ mine.
          let saw : SawOwnBias heap.shape k o = (
            mark,
            prototype,
            class,
            saw_mark,
            saw_class,
            saw_prototype,
            subst (λ f. IsBiasTo k.thread f (epoch_in prototype)) (sym reads) (eqb-true u k.thread mine, valid),
          ) in
          took_does outs.outcomes k BiasOwn x.takes x.mine x.untold x.place (inr x.calm) saw (x.calm, saw))
          (λ other. answers heap false (Valid mark) k Q (outs.valid k mark (record {
            going = x;
            local = local;
            kept_is = same;
            unreached = unreached;
            saw = saw_mark;
            prototype = (prototype, class, saw_class, saw_prototype, ap (λ f. is_valid_bias f prototype) reads ∙ valid);
            alone = alone;
          }))))
          (λ stale. rebias_does epoch is (subst (λ f. IsUnownedBias f (epoch_in prototype)) (sym reads) (stale_epoch old epoch (epoch_in prototype) is stale)))
      at_does epoch _ is reads biased = absurd (cc biased)

      -- and by that of the prototype: where it is neutral, so the mark becomes
      by_does : (f : Option MarkForm) → read_mark prototype ≡ f → IsPrototypeForm f → is_biased mark ≡ true → IsPrototype prototype
          → Does heap false (bias_enter_by f e (local_of k) o mark prototype) k Q
      by_does None reads form biased is = absurd form
      by_does (Some Inflating) reads form biased is = absurd form
      by_does (Some (Biased u epoch age)) reads form biased is = absurd form
      by_does (Some (Locked u p)) reads form biased is = absurd form
      by_does (Some (Inflated m)) reads form biased is = absurd form
      by_does (Some Marked) reads form biased is = absurd form
      by_does (Some (Anonymous epoch age)) reads form biased is = at_does epoch (read_mark mark) (ap epoch_form reads) refl biased
      by_does (Some (Neutral hash age)) reads_so form biased is =
          let none : epoch_in prototype ≡ None = ap epoch_form reads_so in
          let exchange = unbias_plan e o mark prototype in
          let loose = loose_unepoched (read_mark mark) (epoch_in prototype) biased none in
          let reads : read_mark prototype ≡ Some (Neutral 0 0) = ap read_mark (prototype_neutral prototype is none) ∙ neutral_reads_so in
          swapping heap false exchange mark prototype (λ n. done (Unbiased prototype)) (λ n. done (Raced mark n)) k Q refl
          (λ i. unbiases_rule heap k e o mark prototype prototype (record { within = x.takes.object; known = x.takes.known }) (λ v. (
            record {
              prototype = prototype;
              exchange = record {
                runs = x.takes.runs;
                calm = x.calm;
                class = class;
                saw_class = saw_class;
                saw = saw_prototype;
                loose = loose;
                goes_on = sym x.mine;
              };
              to = inr (refl, none);
            },
            record {
              runs = x.takes.runs;
              calm = x.calm;
              goes_on = inl (sym x.mine);
              saw = free_bias heap.shape k o class mark prototype saw_class saw_prototype loose;
              unbiased = ap is_biased_form reads;
              why = inl none;
            },
          )) (inl (sym x.mine)))
          (λ n i was h.
          let l = known_hit heap.shape heap.start exchange n k in
          answers heap false (Unbiased prototype) l Q (outs.outcomes.unbiased l prototype (record {
            going = record { takes = x.takes; mine = refl; check = refl; calm = refl; untold = x.untold; place = x.place };
            local = local;
            kept_is = same;
            headers = headers_more heap exchange n k refl i refl headers;
            saw = saw_newest heap exchange n k ∙ ap (λ (z : Bool). Some (cond z prototype n)) (eq-eqb n mark h);
            form = subst (IsMark heap.shape) (sym reads) refl;
            unbiased = ap is_biased_form reads;
            holds = λ p locked. absurd (cc (reads, locked));
          })))
          (λ n i was h. answers heap false (Raced mark n) _ Q (races n (known_miss heap.shape heap.start exchange n k)
          (record { takes = x.takes; mine = x.mine; check = x.check; calm = x.calm; untold = x.untold; place = x.place })))

    -- after the loads of the mark, which has the bias pattern, and of the class
    prototype_does : Tries here kept Q → (k : ThreadView) (mark class : ℕ) → Enters k → local_of k ≡ here → k.kept ≡ kept → SawHeaders k → k.reached ≡ false
        → last_seen (id.Mark o) k.seen ≡ Some mark → SawClass heap.shape k.seen o class → SawMarkAlone heap.shape o k → class < heap.shape.classes
        → is_biased mark ≡ true → heap.biasing ≡ true
        → Does heap false (ask (load e (id.Prototype class)) >>= (λ prototype. bias_enter_by (read_mark prototype) e (local_of k) o mark prototype)) k Q
    prototype_does outs k mark class x local same headers unreached saw_mark saw_class alone there biased biasing =
        let look = load e (id.Prototype class) in
        hitting heap false look _ k Q (λ n. refl)
        (λ j. looks_running heap k e Settled (id.Prototype class) refl x.takes.runs (sym x.calm) x.check (inl (sym x.mine)) (λ v. there)
        (inl (sym x.mine)) tt) (λ prototype j was.
        let m = known_hit heap.shape heap.start look prototype k in
        let is : IsPrototype prototype = prototype_here heap k was.stands x.takes.runs class prototype biasing was.found in
        by_does outs m mark prototype class (record { takes = x.takes; mine = refl; check = refl; calm = refl; untold = x.untold; place = x.place }) local same
        (headers_more heap look prototype k refl j refl headers) unreached
        (saw_older heap look prototype k (id.Mark o) j refl refl ∙ saw_mark)
        (class_from heap.shape k.seen m.seen o class (saw_older heap look prototype k (id.Class o) j refl refl) saw_class)
        (saw_newest heap look prototype k) (saw_two heap e o class prototype k saw_class j alone)
        (read_mark prototype) refl (prototype_form prototype is) biased is)

    -- THE WHOLE, which a call begins with
    pub bias_enter_does : Tries here kept Q → (k : ThreadView) → Taking heap k.running k.requesting k.moving k.log e o → k.stage ≡ Settled → GoesOn k e
        → e.check ≡ k.checking → Untold k → free_place k.holds < most_holds → local_of k ≡ here → k.kept ≡ kept
        → Does heap true (bias_enter_steps heap.shape e (local_of k) o) k Q
    bias_enter_does outs k a calm goes check untold place local same =
        let look = load e (id.Mark o) in
        let ask_class = load e (id.Class o) in
        hitting heap true look _ k Q (λ n. refl) (λ i. looks_running heap k e Settled (id.Mark o) refl a.runs (sym calm) check goes (λ v. a.object)
        (taking_begins heap k e o a goes) (λ free. a.known)) (λ mark i was.
        let l = known_hit heap.shape heap.start look mark k in
        let headers : SawHeaders l = headers_first heap look mark k refl i a.unasks refl in
        chooses heap false (is_biased mark) _ _ l Q
        (λ yes.
        let biasing = biasing_here heap k was.stands a.runs o (ap is_biased was.found ∙ yes) in
        let unreached = unreached_here heap k was.stands a.runs in
        let all = limits heap k was.stands in
        let alone = mark_alone heap e o mark k i a.unasks in
        class_does heap e Settled o (λ class. ask (load e (id.Prototype class)) >>= (λ prototype. bias_enter_by (read_mark prototype) e
        (local_of k) o mark prototype)) l Q
        (λ declared. prototype_does outs l mark (class_in_shape heap.shape o)
        (record { takes = a; mine = refl; check = refl; calm = refl; untold = untold; place = place }) local same headers unreached
        (saw_newest heap look mark k) (class_declared heap.shape l.seen o declared) alone (class_there heap.shape o all a.object) yes biasing)
        (λ made j. looks_running heap l e Settled (id.Class o) refl a.runs refl refl (inl refl) (λ v. made_there heap.shape o a.object made) (inl refl) tt)
        (λ made word j was1.
        let m = known_hit heap.shape heap.start ask_class word l in
        let some = class_some heap l was1.stands a.runs o mark word made (saw_newest heap look mark k) yes was1.found in
        prototype_does outs m mark (word - 1) (record { takes = a; mine = refl; check = refl; calm = refl; untold = untold; place = place }) local same
        (headers_more heap ask_class word l refl j refl headers) unreached
        (saw_older heap ask_class word l (id.Mark o) j refl refl ∙ saw_newest heap look mark k)
        (class_made heap.shape m.seen o (word - 1) made (saw_newest heap ask_class word l ∙ ap Some some))
        (class_more heap e o word l made j alone) (class_found heap.shape o word all a.object (found_formed heap l (id.Class o) word refl was1)) yes biasing))
        (λ no. answers heap false (Unbiased mark) l Q (outs.outcomes.unbiased l mark (record {
          going = record { takes = a; mine = refl; check = refl; calm = refl; untold = untold; place = place };
          local = local;
          kept_is = same;
          headers = headers;
          saw = saw_newest heap look mark k;
          form = form_found heap e o k mark was.stands a.runs was.found;
          unbiased = no;
          holds = λ p reads. holds_by k mark p was.stands a.runs calm was.found reads;
        }))))

-- what an enter takes of its thread's knowledge when its call begins, and keeps
pub record Wants (heap : Heap) (o : ℕ) (e : CallContext) (here : Local) : Type 0 where
  pub may : MayWorkOn heap here.log e o
  pub open may use *
  pub untold : (i : ℕ) → says_notified here.wait i ≡ false
  pub place : free_place here.holds < most_holds

unwaiting_enter : (e : CallContext) (o : ℕ) → IsUnfinished e.unfinished op.Enter o → (i : ℕ) → IsUnfinished e.unfinished op.Wait i → ⊥
unwaiting_enter e o enters i h = let a = ap (is_of_kind op.Enter) (sym enters ∙ h) in cc a

pub taking : (heap : Heap) (o : ℕ) (e : CallContext) (here : Local) (k : ThreadView) → IsUnfinished e.unfinished op.Enter o → Wants heap o e here
    → local_of k ≡ here → k.running ≡ true → k.requesting ≡ false → k.moving ≡ Still
    → Taking heap k.running k.requesting k.moving k.log e o
taking heap o e here k enters x local runs unasks still = record {
  works = record { may = subst (λ z. MayWorkOn heap z.log e o) (sym local) x.may; runs = runs; unasks = unasks; still = still };
  unwaiting = unwaiting_enter e o enters;
  enters = inr enters;
}

-- AFTER A REVOCATION the mark is loaded again: it is a bias to the thread where it gave itself one, and else has not the bias pattern.
module _ (heap : Heap) (e : CallContext) (b : Revocation) (enters : IsUnfinished e.unfinished op.Enter b.object)
    (here : Local) (kept : Option ℕ) (wants : Wants heap b.object e here)
    (Q : Bool → BiasTry → ThreadView → Type 0) (outs : EnterOutcomes heap b.object e enters here kept Q)
    (me : ℕ) (k0 k : ThreadView) (local : local_of k ≡ here) (same : k.kept ≡ kept) where
  abbrev o : ℕ
  o = b.object

  abbrev look : Bool → StepPlan
  look took = with_stage (stage_after took o) (load e (id.Mark o))

  abbrev then_known : Bool → ℕ → ThreadView
  then_known took mark = known_hit heap.shape heap.start (look took) mark k

  untold_here : (i : ℕ) → says_notified k.wait i ≡ false
  untold_here i = ap (λ z. says_notified z.wait i) local ∙ wants.untold i

  known_here : Knows heap k.log o
  known_here = subst (λ z. Knows heap z.log o) (sym local) wants.known

  place_here : free_place k.holds < most_holds
  place_here = subst (λ z. free_place z.holds < most_holds) (sym local) wants.place

  looks_again : (took : Bool) → Released heap e b k0 took k → Keeps heap (look took) k
  looks_again took x = looks_running heap k e (stage_after took o) (id.Mark o) refl x.runs (sym x.stage) (wants.unchecks ∙ sym x.unchecks) (inl x.mine)
      (λ v. wants.object) (inl x.mine) (λ free. known_here)

  -- by the form of a mark that is biased to the thread
  own_does : (f : Option MarkForm) (mark p : ℕ) → Released heap e b k0 true k → IsBiasTo k.thread f (epoch_in p)
      → SawOwnBias heap.shape (then_known true mark) o
      → Does heap false (cond (is_biased_form f) (bias_after_at f e (local_of k) o) (done (Unbiased mark))) (then_known true mark) Q
  own_does (Some (Biased u epoch age)) mark p x bias saw =
      chooses heap false (u == k.thread) _ _ (then_known true mark) Q
      (λ mine. took_does heap o e enters here kept Q outs (then_known true mark) BiasTaken
      (taking heap o e here k enters wants local x.runs x.unasks x.still) refl untold_here place_here (inl refl) saw refl)
      (λ no. absurd (cc (eq-eqb u k.thread bias.0, no)))
  own_does _ mark p x bias saw = absurd bias

  pub bias_after_does : (took : Bool) → Released heap e b k0 took k → Does heap false (bias_after_steps e (local_of k) o took) k Q
  bias_after_does true x =
      hitting heap false (look true) _ k Q (λ n. refl) (λ i. looks_again true x) (λ mark i was.
      let v = x.mark.0 in
      let p = x.mark.1 in
      let class = x.mark.2 in
      let bias : IsBiasTo k.thread (read_mark v) (epoch_in p) = x.mark.6 in
      let mark_is : mark ≡ v = sym was.found ∙ bias_stays heap k was.stands x.runs o class v p x.mark.3 x.mark.4 x.mark.5 bias in
      let bias_now : IsBiasTo k.thread (read_mark mark) (epoch_in p) = subst (λ z. IsBiasTo k.thread (read_mark z) (epoch_in p)) (sym mark_is) bias in
      own_does (read_mark mark) mark p x bias_now (
        mark,
        p,
        class,
        saw_newest heap (look true) mark k,
        class_from heap.shape k.seen (then_known true mark).seen o class
            (saw_older heap (look true) mark k (id.Class o) i refl refl) x.mark.4,
        saw_older heap (look true) mark k (id.Prototype class) i refl refl
            ∙ x.mark.5,
        bias_now,
      ))
  bias_after_does false x =
      hitting heap false (look false) _ k Q (λ n. refl) (λ i. looks_again false x) (λ mark i was.
      let l = then_known false mark in
      let unbiased : is_biased mark ≡ false = ap is_biased (sym was.found)
      ∙ unbiased_here heap false k o was.stands x.runs (inr (refl, (x.mark.0, x.mark.3, x.mark.6))) in
      chooses heap false (is_biased mark) _ _ l Q (λ yes. absurd (cc (yes, unbiased))) (λ no.
      answers heap false (Unbiased mark) l Q (outs.unbiased l mark (record {
        going = record {
          takes = taking heap o e here k enters wants local x.runs x.unasks x.still;
          mine = refl;
          check = refl;
          calm = refl;
          untold = untold_here;
          place = place_here;
        };
        local = local;
        kept_is = same;
        headers = headers_more heap (look false) mark k refl i refl x.unseen;
        saw = saw_newest heap (look false) mark k;
        form = form_found heap e o k mark was.stands x.runs was.found;
        unbiased = no;
        holds = λ p reads. holds_by heap o e enters k mark p was.stands x.runs x.stage was.found reads;
      }))))
