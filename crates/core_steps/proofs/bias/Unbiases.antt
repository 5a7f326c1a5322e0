-- The end of an object's bias, with which waiting, notifying and hashing begin: a look that finds none, an exchange, or a revocation.
use Rattle.std.proofs.Common.{◌≡◌, ◌⊎◌, ℕ, ◌-◌, ◌<◌, ◌≤◌, ◌==◌, ◌&&◌, not, eq-eqb, Bool, true, false, cond}
use Rattle.std.proofs.Common.{[], length, Option, Some, None, refl, sym, ap, ◌∙◌, subst, inl, inr}
use Rattle.mark_word.specs.declared.mark.MarkForm.{MarkForm}
use Rattle.mark_word.specs.declared.mark.MarkForm.TheVariants.{Neutral, Anonymous, Biased}
use Rattle.mark_word.specs.Mark.{mark_of, read_mark}
use Rattle.core_world.specs.declared.answer.BiasTry.{BiasTry}
use Rattle.core_world.specs.declared.answer.BiasTry.TheVariants.{Unbiased, Valid, Raced}
use Rattle.core_world.specs.declared.answer.Progress.{Progress}
use Rattle.core_world.specs.declared.answer.Progress.TheVariants.{Done, Pending}
use Rattle.core_world.specs.declared.answer.PendingCause.{PendingCause}
use Rattle.core_world.specs.declared.answer.PendingCause.TheVariants as why
use Rattle.core_world.specs.declared.word_id.WordId.TheVariants as id
use Rattle.core_world.specs.declared.stage.Stage.TheVariants.{Settled}
use Rattle.core_world.specs.declared.heap_call.Operation.{Operation}
use Rattle.core_world.specs.declared.heap_call.Operation.TheVariants as op
use Rattle.core_world.specs.Threads.AtRest.{AtRest, MayAsk, MayRevoke, SawClass, SawNoOther}
use Rattle.core_world.specs.Trees.BiasSteps.{unbias_plan, bias_drop_at, bias_drop_by, bias_drop_steps}
use Rattle.core_world.specs.Trees.BiasSteps as bias_steps
use Rattle.core_world.specs.Words.Forms.{is_biased, is_biased_form, epoch_in, waits_on}
use Rattle.core_world.specs.Threads.ThreadView.{ThreadView, Still, last_seen, start_of}
use Rattle.core_world.specs.Locks.{is_valid_bias, hold_count}
use Rattle.core_world.specs.Trees.Operations.{and_then, goes_on_with, revocation_steps, revoked_steps, unbias_tried, unbias_steps}
use Rattle.core_world.specs.Trees.Plans.{CallContext, load, done_with}
use Rattle.core_world.specs.Clauses.Safepoints.{IsUnfinished, ends}
use Rattle.core_world.specs.Words.Shape.{class_in_shape}
use Rattle.core_world.specs.Threads.Stages.{Revocation}
use Rattle.core_world.specs.Steps.{known_hit, known_miss, seen_before}
use Rattle.core_world.specs.Trees.StepTree.{StepTree, done, ask, ◌>>=◌}
use Rattle.core_world.specs.Valid.{RevokesWithin}
use Rattle.core_world.specs.Threads.References.{has_object}
use Rattle.core_bias.specs.Biasing.{IsUnownedBias}
use Rattle.bias_law.specs.Steps.{SawUnbiased}
use Rattle.core_locks.specs.Knowing.{GoesOn, HasHold}
use Rattle.core_law.specs.Logic.{Heap, Does}
use Rattle.core_steps.proofs.Looks.{looks_running}
use Rattle.core_steps.proofs.FairSteps.{none_made, begins_its}
use Rattle.core_steps.proofs.bias.AskedRevocations.{BeginsRevocation, NoOtherIn, ValidBiasIn, revocation_does}
use Rattle.core_steps.proofs.bias.BiasFacts.{SawHeaders, SawMarkAlone, headers_first, headers_more, mark_alone, class_more, class_some}
use Rattle.core_steps.proofs.bias.BiasFacts.{saw_two, unreached_here, biasing_here, IsPrototype, prototype_here}
use Rattle.core_steps.proofs.bias.BiasFacts.{prototype_neutral, neutral_reads_so, loose_unepoched, stale_epoch, own_epoch, free_bias}
use Rattle.core_steps.proofs.bias.BiasRules.{unbiases_rule}
use Rattle.core_steps.proofs.ClassSteps.{class_from, class_declared, class_made, class_found, made_there, class_does}
use Rattle.core_steps.proofs.Facts.{Knows}
use Rattle.core_law.proofs.SafepointSights.{found_formed}
use Rattle.core_world.proofs.There.{class_there}
use Rattle.core_steps.proofs.LawRules.{limits}
use Rattle.core_steps.proofs.safepoint.Requests.{BeginsSafepoint, asking_saw}
use Rattle.core_steps.proofs.OwnParts.{KeepsOwn, keeps_own_all, still_carries, own_of, same_own}
use Rattle.core_steps.proofs.Resting.{Carries, rests, live_carries}
use Rattle.core_steps.proofs.bias.RevocationEnds.{Released, Revoked}
use Rattle.core_steps.proofs.SeenSteps.{saw_newest, saw_older}
use Rattle.core_steps.proofs.Tests.{Operates, asking_goes, free_runs, going_is, goes_on_or_begins}
use Rattle.core_steps.proofs.Trees.{answers, binds, chooses, follows, hitting, swapping, once_idle}

module _ (heap : Heap) (e : CallContext) (b : Revocation) where
  -- a running thread in the middle of nothing, whose call has looked at marks, class words and prototypes alone since it began with this knowledge
  pub record HasLooked (k l : ThreadView) : Type 0 where
    pub own : KeepsOwn (own_of k) (own_of l)
    pub open own use *
    pub runs : l.running ≡ true
    pub unasks : l.requesting ≡ false
    pub still : l.moving ≡ Still
    pub calm : l.stage ≡ Settled
    pub check : e.check ≡ l.checking
    pub mine : l.unfinished ≡ e.unfinished
    pub headers : SawHeaders l

  -- what follows: the mark was seen without the bias pattern, or the operation goes on in another call
  pub record Unbiases (k : ThreadView) (Q : Bool → Progress (Unit {0}) → ThreadView → Type 0) : Type 0 where
    pub unbiased : (l : ThreadView) → HasLooked k l → SawUnbiased l b.object → Q false (Done tt) l
    pub pends : (f : Bool) (l : ThreadView) (w : PendingCause) → AtRest heap.shape l → Q f (Pending w) l

  -- what a thread has to know that begins such an operation, or goes on with it
  pub record BeginsUnbias (operation : Operation) (k : ThreadView) : Type 0 where
    pub begins : BeginsSafepoint heap e k.thread k
    pub check : e.check ≡ k.checking
    pub asked : k.requesting ≡ true → MayRevoke heap.shape k b.object
    pub known : Knows heap k.log b.object
    pub on_object : has_object operation ≡ true
    pub unwaiting : operation ≡ op.Wait → waits_on k.wait b.object ≡ false
    -- it wants the object's hash, or holds the object
    pub why : IsUnfinished e.unfinished op.Hash b.object ⊎ HasHold k b.object

  module _ (operation : Operation) (unfinished : e.unfinished ≡ Some (record { op = operation; object = b.object }))
      (allowed : RevokesWithin operation b.rebias) (none : b.rebias ≡ false)
      (object : b.object < length heap.shape.objects) (unchecks : e.check ≡ false) (k : ThreadView)
      (may : BeginsUnbias operation k) (Q : Bool → Progress (Unit {0}) → ThreadView → Type 0) (outs : Unbiases k Q) where
    abbrev o : ℕ
    o = b.object

    looked_carries : (l : ThreadView) → HasLooked k l → Carries l.moving l.log l.wait l.holds l.shots e.unfinished
    looked_carries l x =
        let carries = may.begins.carries in still_carries k l x.own (carries.still ∙ sym x.still) carries

    looked_rests : (l : ThreadView) → HasLooked k l → AtRest heap.shape l
    looked_rests l x = rests heap.shape l x.calm x.unasks (sym x.check ∙ unchecks)
        (subst (Carries l.moving l.log l.wait l.holds l.shots) (sym x.mine) (looked_carries l x))

    -- A REVOCATION
    abbrev after : Progress Bool → StepTree (Progress (Unit {0}))
    after progress = and_then progress (λ took. done_with tt)

    after_does : (k0 : ThreadView) → KeepsOwn (own_of k) (own_of k0) → (f : Bool) (progress : Progress Bool) (l : ThreadView)
        → (f ≡ false) × Revoked heap e b k0 progress l → Does heap f (after progress) l Q
    after_does k0 own f (Done took) l x =
        let released : Released heap e b k0 false l = subst (λ z. Released heap e b k0 z l) (x.1.untaken none) x.1 in
        subst (λ z. Does heap z (done_with tt) l Q) (sym x.0) (answers heap false (Done tt) l Q (outs.unbiased l (record {
          own = keeps_own_all (own_of k) (own_of k0) (own_of l) own released.own;
          runs = released.runs;
          unasks = released.unasks;
          still = released.still;
          calm = released.stage;
          check = unchecks ∙ sym released.unchecks;
          mine = sym released.mine;
          headers = released.unseen;
        }) (released.mark.0, released.mark.3, released.mark.6)))
    after_does k0 own f (Pending w) l x = answers heap f (Pending w) l Q (outs.pends f l w x.1)

    revoked_does : (fresh : Bool) (k0 : ThreadView) → BeginsRevocation heap e b operation k0
        → KeepsOwn (own_of k) (own_of k0) → Does heap fresh (revoked_steps heap.shape k.thread k0.requesting e b) k0 Q
    revoked_does fresh k0 begins own =
        subst (λ z. Does heap fresh (revocation_steps heap.shape z k0.requesting e b >>= after) k0 Q) (ap (λ z. z.thread) own.local)
        (binds heap fresh (revocation_steps heap.shape k0.thread k0.requesting e b) after k0 Q (
        follows heap fresh _ k0 _ _ (revocation_does heap e b operation unfinished allowed object unchecks fresh k0 begins)
        (λ f progress l x. after_does k0 own f progress l x)))

    -- WITHOUT A SAFEPOINT
    abbrev R : Bool → BiasTry → ThreadView → Type 0
    R f tried l = Does heap f (unbias_tried tried heap.shape e (start_of heap.start k) b) l Q

    abbrev dropping : ℕ → ℕ → StepTree BiasTry
    dropping mark neutral = bias_steps.unbias_swap_steps e o mark neutral

    module _ (l : ThreadView) (c mark prototype : ℕ) (x : HasLooked k l) (unreached : l.reached ≡ false)
        (saw_mark : last_seen (id.Mark o) l.seen ≡ Some mark) (saw_class : SawClass heap.shape l.seen o c)
        (saw_prototype : last_seen (id.Prototype c) l.seen ≡ Some prototype) (alone : SawNoOther heap.shape l o) where
      -- an anonymous or stale mark becomes neutral
      drop_does : (neutral : ℕ) → IsUnownedBias (read_mark mark) (epoch_in prototype)
          → (neutral ≡ mark_of (Neutral 0 0)) ⊎ ((neutral ≡ prototype) × (epoch_in prototype ≡ None)) → is_biased neutral ≡ false
          → Does heap false (dropping mark neutral) l R
      drop_does neutral loose to plain =
          let exchange = unbias_plan e o mark neutral in
          swapping heap false exchange mark neutral (λ n. done (Unbiased neutral)) (λ n. done (Raced mark n)) l R refl
          (λ i. unbiases_rule heap l e o mark prototype neutral
          (record { within = object; known = subst (λ z. Knows heap z.log o) (sym x.local) may.known }) (λ v. (
            record {
              prototype = prototype;
              exchange = record { runs = x.runs; calm = x.calm; class = c; saw_class = saw_class; saw = saw_prototype; loose = loose; goes_on = sym x.mine };
              to = to;
            },
            record {
              runs = x.runs;
              calm = x.calm;
              goes_on = inl (sym x.mine);
              saw = free_bias heap.shape l o c mark prototype saw_class saw_prototype loose;
              unbiased = plain;
              why = inr (elim may.why [ inl hash ↦ inl hash | inr held ↦ inr (subst (λ z. 1 ≤ hold_count o z.holds) (sym x.local) held) ]);
            },
          )) (inl (sym x.mine)))
          (λ n i was h.
          let m = known_hit heap.shape heap.start exchange n l in
          answers heap false (Unbiased neutral) m R (answers heap false (Done tt) m Q (outs.unbiased m (record {
            own = x.own;
            runs = x.runs;
            unasks = x.unasks;
            still = x.still;
            calm = refl;
            check = refl;
            mine = refl;
            headers = headers_more heap exchange n l refl i refl x.headers;
          }) (neutral, saw_newest heap exchange n l ∙ ap (λ (z : Bool). Some (cond z neutral n)) (eq-eqb n mark h), plain))))
          (λ n i was h.
          let m = known_miss heap.shape heap.start exchange n l in
          answers heap false (Raced mark n) m R (answers heap false (Pending (why.Raced mark n)) m Q (outs.pends false m (why.Raced mark n)
          (rests heap.shape m x.calm x.unasks (sym x.check ∙ unchecks)
          (subst (Carries l.moving l.log l.wait l.holds l.shots) (sym x.mine) (looked_carries l x))))))

      -- another's valid bias, or the thread's own
      valid_does : is_valid_bias (read_mark mark) prototype ≡ true → Does heap false (revoked_steps heap.shape k.thread false e b) l Q
      valid_does valid =
          once_idle heap false _ _ l Q (λ i.
          let before : seen_before heap.shape l ≡ l.seen = ap (λ (z : Bool). cond (z && not l.requesting) [] l.seen) i in
          subst (λ (z : Bool). Does heap false (revoked_steps heap.shape k.thread z e b) l Q) x.unasks
          (revoked_does false l (record {
            begins = record {
              number = refl;
              rest = looked_rests l x;
              live = ap (λ z. ends z.log) x.local ∙ may.begins.live;
              carries = looked_carries l x;
              asking = λ asks. let unasks = x.unasks in absurd (cc (asks, unasks));
              running = λ free. (x.runs, inl (sym x.mine));
              begins = inl (sym x.mine);
            };
            saw = subst (ValidBiasIn heap e b) (sym before) (mark, prototype, c, saw_mark, saw_class, saw_prototype, valid);
            alone = subst (NoOtherIn heap e b) (sym before) alone;
            unreached = unreached;
            known = subst (λ z. Knows heap z.log o) (sym x.local) may.known;
            on_object = may.on_object;
            unwaiting = λ waits. ap (λ z. waits_on z.wait o) x.local ∙ may.unwaiting waits;
          }) x.own))

      neutral_plain : is_biased (mark_of (Neutral 0 0)) ≡ false
      neutral_plain = ap is_biased_form neutral_reads_so

      at_does : (epoch : ℕ) (f : Option MarkForm) → epoch_in prototype ≡ Some epoch → read_mark mark ≡ f
          → is_biased_form f ≡ true → Does heap false (bias_drop_at f epoch e o mark) l R
      at_does epoch (Some (Anonymous old age)) is reads biased =
          drop_does (mark_of (Neutral 0 0)) (subst (λ f. IsUnownedBias f (epoch_in prototype)) (sym reads) tt) (inl refl) neutral_plain
      at_does epoch (Some (Biased u old age)) is reads biased =
          chooses heap false (old == epoch) _ _ l R
          (λ now. answers heap false (Valid mark) l R
          (valid_does (ap (λ f. is_valid_bias f prototype) reads ∙ own_epoch old epoch (epoch_in prototype) is now)))
          (λ stale. drop_does (mark_of (Neutral 0 0)) (subst (λ f. IsUnownedBias f (epoch_in prototype))
          (sym reads) (stale_epoch old epoch (epoch_in prototype) is stale)) (inl refl) neutral_plain)
      at_does epoch _ is reads biased = absurd (cc biased)

      by_does : (epoch : Option ℕ) → epoch_in prototype ≡ epoch → is_biased mark ≡ true
          → IsPrototype prototype → Does heap false (bias_drop_by epoch e o mark prototype) l R
      by_does (Some epoch) is biased form = at_does epoch (read_mark mark) is refl biased
      by_does None is biased form =
          drop_does prototype (loose_unepoched (read_mark mark) (epoch_in prototype) biased is)
          (inr (refl, is)) (ap is_biased (prototype_neutral prototype form is) ∙ neutral_plain)

    -- after the loads of the mark, which has the bias pattern, and of the class
    prototype_does : (l : ThreadView) (mark c : ℕ) → HasLooked k l → l.reached ≡ false → last_seen (id.Mark o) l.seen ≡ Some mark
        → SawClass heap.shape l.seen o c → SawMarkAlone heap.shape o l
        → c < heap.shape.classes → is_biased mark ≡ true → heap.biasing ≡ true
        → Does heap false (ask (load e (id.Prototype c)) >>= (λ prototype. bias_drop_by (epoch_in prototype) e o mark prototype)) l R
    prototype_does l mark c x unreached saw_mark saw_class alone there biased biasing =
        let look = load e (id.Prototype c) in
        hitting heap false look _ l R (λ n. refl) (λ j. looks_running heap l e Settled (id.Prototype c) refl x.runs (sym x.calm) x.check (inl (sym x.mine))
        (λ v. there) (inl (sym x.mine)) tt)
        (λ prototype j was.
        let m = known_hit heap.shape heap.start look prototype l in
        by_does m c mark prototype (record {
          own = x.own;
          runs = x.runs;
          unasks = x.unasks;
          still = x.still;
          calm = refl;
          check = refl;
          mine = refl;
          headers = headers_more heap look prototype l refl j refl x.headers;
        }) unreached
        (saw_older heap look prototype l (id.Mark o) j refl refl ∙ saw_mark)
        (class_from heap.shape l.seen m.seen o c (saw_older heap look prototype l (id.Class o) j refl refl) saw_class)
        (saw_newest heap look prototype l) (saw_two heap e o c prototype l saw_class j alone)
        (epoch_in prototype) refl biased (prototype_here heap l was.stands x.runs c prototype biasing was.found))

    dropped_does : k.requesting ≡ false → Does heap true (bias_drop_steps heap.shape e o) k R
    dropped_does free =
        let begins = may.begins.running free in
        let runs = begins.0 in
        let look = load e (id.Mark o) in
        let ask_class = load e (id.Class o) in
        hitting heap true look _ k R (λ n. refl) (λ i. looks_running heap k e Settled (id.Mark o) refl runs (sym may.begins.rest.calm) may.check begins.1
        (λ v. object) may.begins.begins (λ free. may.known)) (λ mark i was.
        let l = known_hit heap.shape heap.start look mark k in
        let headers : SawHeaders l = headers_first heap look mark k refl i free refl in
        let looked : HasLooked k l = record {
          own = same_own _;
          runs = runs;
          unasks = free;
          still = may.begins.carries.still;
          calm = refl;
          check = refl;
          mine = refl;
          headers = headers;
        } in
        chooses heap false (is_biased mark) _ _ l R
        (λ yes.
        let biasing = biasing_here heap k was.stands runs o (ap is_biased was.found ∙ yes) in
        let unreached = unreached_here heap k was.stands runs in
        let all = limits heap k was.stands in
        let alone = mark_alone heap e o mark k i free in
        class_does heap e Settled o (λ c. ask (load e (id.Prototype c)) >>= (λ prototype. bias_drop_by (epoch_in prototype) e o mark prototype)) l R
        (λ declared. prototype_does l mark (class_in_shape heap.shape o) looked unreached (saw_newest heap look mark k)
        (class_declared heap.shape l.seen o declared) alone (class_there heap.shape o all object) yes biasing)
        (λ made j. looks_running heap l e Settled (id.Class o) refl runs refl refl (inl refl) (λ v. made_there heap.shape o object made) (inl refl) tt)
        (λ made word j was1.
        let m = known_hit heap.shape heap.start ask_class word l in
        let some = class_some heap l was1.stands runs o mark word made (saw_newest heap look mark k) yes was1.found in
        prototype_does m mark (word - 1) (record {
          own = same_own _;
          runs = runs;
          unasks = free;
          still = may.begins.carries.still;
          calm = refl;
          check = refl;
          mine = refl;
          headers = headers_more heap ask_class word l refl j refl headers;
        }) unreached
        (saw_older heap ask_class word l (id.Mark o) j refl refl ∙ saw_newest heap look mark k)
        (class_made heap.shape m.seen o (word - 1) made (saw_newest heap ask_class word l ∙ ap Some some))
        (class_more heap e o word l made j alone) (class_found heap.shape o word all object (found_formed heap l (id.Class o) word refl was1)) yes biasing))
        (λ no. answers heap false (Unbiased mark) l R (answers heap false (Done tt) l Q (outs.unbiased l looked (mark, saw_newest heap look mark k, no)))))

    pub unbias_does : Does heap true (unbias_steps heap.shape e (start_of heap.start k) b) k Q
    unbias_does =
        chooses heap true k.requesting _ _ k Q
        (λ asks.
        let asked = may.asked asks in
        let before = asking_saw heap e k.thread k asks in
        subst (λ (z : Bool). Does heap true (revoked_steps heap.shape k.thread z e b) k Q) asks
        (revoked_does true k (record {
          begins = may.begins;
          saw = subst (ValidBiasIn heap e b) (sym before) asked.0;
          alone = subst (NoOtherIn heap e b) (sym before) asked.2;
          unreached = asked.1;
          known = may.known;
          on_object = may.on_object;
          unwaiting = may.unwaiting;
        }) (same_own _)))
        (λ free. binds heap true (bias_drop_steps heap.shape e o) (λ tried. unbias_tried tried heap.shape e (start_of heap.start k) b) k Q (dropped_does free))

-- a call of such an operation, by its own conditions
pub starts_unbias : (heap : Heap) (e : CallContext) (b : Revocation) (a : Operation) (k : ThreadView)
    → e.unfinished ≡ Some (record { op = a; object = b.object }) → e.check ≡ false → AtRest heap.shape k
    → Operates k (goes_on_with a b.object k.unfinished) → Knows heap k.log b.object → has_object a ≡ true
    → ((i : ℕ) → IsUnfinished e.unfinished op.Enter i → ⊥) → (IsUnfinished e.unfinished op.Dump 0 → ⊥)
    → (MayAsk heap.shape k (Some (record { op = a; object = b.object })) → MayRevoke heap.shape k b.object) → (a ≡ op.Wait → waits_on k.wait b.object ≡ false)
    → IsUnfinished e.unfinished op.Hash b.object ⊎ HasHold k b.object → BeginsUnbias heap e b a k
starts_unbias heap e b a k unfinished unchecks rest may known on_object unentering undumped revokes unwaiting why = record {
  begins = record {
    number = refl;
    rest = rest;
    live = may.live;
    carries = live_carries k.log k.wait k.holds e.unfinished rest.still may.live (λ i h. absurd (unentering i h)) undumped rest.untold;
    asking = λ asks. (unchecks ∙ sym may.unchecking, unfinished ∙ sym (goes asks));
    running = λ free. (free_runs k.running k.requesting (goes_on_with a b.object k.unfinished) may.runs free, goes_or_begins);
    begins = begins_its heap.shape k e.unfinished a b.object unfinished (none_made a b.object on_object) known goes_or_begins;
  };
  check = unchecks ∙ sym may.unchecking;
  asked = λ asks. revokes (subst (MayAsk heap.shape k) (goes asks) (rest.asks asks may.unchecking));
  known = known;
  on_object = on_object;
  unwaiting = unwaiting;
  why = why;
}
  where
    goes_or_begins : GoesOn k e
    goes_or_begins = elim (goes_on_or_begins a b.object k.unfinished may.free) [ inl g ↦ inl (unfinished ∙ g) | inr g ↦ inr g ]

    goes : k.requesting ≡ true → IsUnfinished k.unfinished a b.object
    goes asks = going_is a b.object k.unfinished (asking_goes k.running k.requesting (goes_on_with a b.object k.unfinished) may.runs (rest.stopped asks))
