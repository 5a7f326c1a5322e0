-- How a revocation begins at its reached safepoint: what its calls saw before is so still, the words by which the policy decides are loaded, and the first
-- store is made.
use Rattle.std.proofs.Common.{◌≡◌, ◌≢◌, ◌⊎◌, ℕ, ◌+◌, ◌-◌, ◌<◌, ◌≤◌, nat_lt, ◌++◌, Bool, true, false}
use Rattle.std.proofs.Common.{cond, List, [], ◌∷◌, length, Some, None, refl, sym, ap, ◌∙◌, subst, arith, inl, inr}
use Rattle.mark_word.specs.Mark.{read_mark}
use Rattle.lock_policy.specs.declared.policy.Verdict.{Verdict}
use Rattle.lock_policy.specs.Policy.{decided, is_reset}
use Rattle.core_world.specs.declared.word_id.WordId.{WordId}
use Rattle.core_world.specs.declared.word_id.WordId.TheVariants as id
use Rattle.core_world.specs.declared.plan.LocalEffect.TheVariants as own
use Rattle.core_world.specs.declared.plan.StepPlan.{StepPlan}
use Rattle.core_world.specs.declared.stage.Stage.TheVariants.{Settled}
use Rattle.core_world.specs.declared.heap_call.Operation.{Operation}
use Rattle.core_world.specs.Threads.AtRest.{SawClass, SawValidBias, SawNoOther}
use Rattle.core_world.specs.Words.Forms.{epoch_in}
use Rattle.core_world.specs.Threads.ThreadView.{ThreadView, StepMade, last_seen}
use Rattle.core_world.specs.Locks.{is_valid_bias, prototype_of}
use Rattle.core_world.specs.Words.Names.{same_name, class_by}
use Rattle.core_world.specs.Trees.Plans.{load, class_steps}
use Rattle.core_world.specs.Clauses.SeenWords.{IsValidBias}
use Rattle.core_world.specs.RevocationRules.{writes_in}
use Rattle.core_world.specs.Trees.RevocationSteps.{revoke_plan, verdict_steps, decided_steps, RevocationOutcome, revoke_at_safepoint_steps}
use Rattle.core_world.specs.Words.Shape.{class_in_shape}
use Rattle.core_world.proofs.There.{class_seen, class_in_heap}
use Rattle.core_world.specs.Threads.Stages.{revocation_in}
use Rattle.core_world.specs.Steps.{is_idle, known_hit, seen_before}
use Rattle.core_world.specs.Trees.StepTree.{StepTree, done, unreachable, step, ◌>>=◌}
use Rattle.core_world.specs.Valid.{RevokesWithin}
use Rattle.core_world.proofs.Naming.{same_as_itself}
use Rattle.core_bias.specs.Revoking.{IsNextStore, Leads, is_kept_on_request}
use Rattle.core_bias.proofs.RevocationRuns.{steps_next}
use Rattle.core_law.specs.Logic.{SoundWorldWith, Was, Does}
use Rattle.core_steps.proofs.bias.SeenAtSafepoint.{SeenSince, since_more, SeenBut, but_more, but_less, goes_on_seeing}
use Rattle.core_steps.proofs.bias.RevocationMiddle.{OneRevocation, Leaves, leaves_all, look_adds, MadeAll, middle_does}
use Rattle.core_steps.proofs.OwnParts.{same_own}
use Rattle.core_steps.proofs.bias.BiasFacts.{valid_is}
use Rattle.core_steps.proofs.bias.BiasRules.{begins_revoking_rule}
use Rattle.core_steps.proofs.ClassSteps.{class_from, class_once, class_declared, class_made, declared_class, made_class, made_there, class_does}
use Rattle.core_steps.proofs.Facts.{Knows}
use Rattle.core_steps.proofs.LawRules.{limits}
use Rattle.core_law.proofs.Standing.{home, away}
use Rattle.core_steps.proofs.bias.RevocationTrees.{middle_binds, middle_verdict}
use Rattle.core_steps.proofs.safepoint.SafepointLooks.{Reaches, keeps_look, going, reaches_on}
use Rattle.core_law.proofs.SafepointSights.{forms_fit, fits_reached}
use Rattle.core_steps.proofs.Trees.{hitting}

module _ (this : OneRevocation) where
  open this use {heap, call as e, revocation as b, thread as me}

  abbrev T : StepTree RevocationOutcome
  T = revoke_at_safepoint_steps heap.shape me e b

  abbrev then_known : StepPlan → ℕ → ThreadView → ThreadView
  then_known p n k = known_hit heap.shape heap.start p n k

  -- a class word that was seen in the calls of the request
  class_stays : (k : ThreadView) (v : SoundWorldWith heap k) (m : ℕ) → k.reached ≡ true
      → k.stage ≡ Settled → last_seen (id.Class b.object) k.seen ≡ Some m → m ≢ 0
      → v.world.words (id.Class b.object) ≡ m
  class_stays k v m reached calm saw some =
      let fits = fits_reached heap k v reached calm in
      let asks = (fits.safe.safepoint k.thread (away heap k v (λ s y. y.reached ≡ true) reached)).0 in
      let none_revokes = away heap k v (λ s y. revocation_in y.stage ≡ None) (ap revocation_in calm) in
      fits.seen.stays k.thread (id.Class b.object) m (away heap k v (λ s y. last_seen (id.Class b.object) y.seen ≡ Some m) saw)
      (inr (asks, none_revokes, some))

  -- a prototype that was seen in the calls of the request
  still_prototype : (c : ℕ) (k : ThreadView) (v : SoundWorldWith heap k) (p : ℕ)
      → k.reached ≡ true → k.stage ≡ Settled → last_seen (id.Prototype c) k.seen ≡ Some p
      → v.world.words (id.Prototype c) ≡ p
  still_prototype c k v p reached calm saw =
      let fits = fits_reached heap k v reached calm in
      let asks = (fits.safe.safepoint k.thread (away heap k v (λ s y. y.reached ≡ true) reached)).0 in
      let none_revokes = away heap k v (λ s y. revocation_in y.stage ≡ None) (ap revocation_in calm) in
      fits.seen.stays k.thread (id.Prototype c) p (away heap k v (λ s y. last_seen (id.Prototype c) y.seen ≡ Some p) saw) (inr (asks, none_revokes, tt))

  -- what the call that made the request saw of the object's mark is still there
  still_valid : (k0 : ThreadView) (r : Reaches me k0 e) (v : SoundWorldWith heap k0) (saw : SawValidBias heap.shape k0 b.object)
      → v.world.words (id.Mark b.object) ≡ saw.0
  still_valid k0 r v saw =
      let fits = fits_reached heap k0 v r.reached r.calm in
      let asks = (fits.safe.safepoint k0.thread (away heap k0 v (λ s y. y.reached ≡ true) r.reached)).0 in
      let none_revokes = away heap k0 v (λ s y. revocation_in y.stage ≡ None) (ap revocation_in r.calm) in
      let its : class_by v.world.shape v.world.words b.object ≡ saw.2 =
      class_seen v.world.shape v.world.words k0.seen b.object saw.2 (λ m e d. class_stays k0 v m r.reached r.calm e d)
      (away heap k0 v (λ s y. SawClass s k0.seen b.object saw.2) saw.4) in
      let prototype : prototype_of v.world b.object ≡ saw.1 =
      ap (λ z. v.world.words (id.Prototype z)) its
      ∙ fits.seen.stays k0.thread (id.Prototype saw.2) saw.1
      (away heap k0 v (λ s y. last_seen (id.Prototype saw.2) y.seen ≡ Some saw.1) saw.5) (inr (asks, none_revokes, tt)) in
      let valid : IsValidBias (read_mark saw.0) (prototype_of v.world b.object) =
      subst (IsValidBias (read_mark saw.0)) (sym prototype) (valid_is (read_mark saw.0) saw.1 saw.6) in
      fits.seen.stays k0.thread (id.Mark b.object) saw.0
      (away heap k0 v (λ s y. last_seen (id.Mark b.object) y.seen ≡ Some saw.0) saw.3) (inr (asks, none_revokes, valid))

  -- the words that the calls of the request may have seen, where c is the class
  abbrev NotLooked : ℕ → WordId → Type 0
  NotLooked c n = (n ≡ id.Mark b.object) ⊎ ((n ≡ id.Class b.object) × (nat_lt b.object heap.shape.declared ≡ false)) ⊎ (n ≡ id.Prototype c)

  not_itself : (n at : WordId) → n ≡ at → same_name n at ≡ false → ⊥
  not_itself n at is other = let same = ap (λ z. same_name z at) is ∙ same_as_itself at in cc (other, same)

  -- THE STEPS of a revocation for this operation, by a thread that saw a valid bias when it asked
  module _ (operation : Operation) (unfinished : e.unfinished ≡ Some (record { op = operation; object = b.object }))
      (allowed : RevokesWithin operation b.rebias) (object : b.object < length heap.shape.objects) where
    -- what the calls of the request saw of these words they saw of the object's mark, class word and prototype alone
    saw_before : (k0 : ThreadView) (saw : SawValidBias heap.shape k0 b.object) → SawNoOther heap.shape k0 b.object
        → SeenBut (NotLooked saw.2) k0.seen k0.seen_at_safepoint
    saw_before k0 saw alone n v kept h = elim (alone n v h) [
      | inl is ↦ let no = ap is_kept_on_request is in absurd (cc (no, kept))
      | inr (inl is) ↦ inr (inl is)
      | inr (inr (inl is)) ↦ inr (inr (inl is))
      | inr (inr (inr is)) ↦ inr (inr (inr (is.2 ∙ ap id.Prototype (class_once heap.shape k0.seen b.object is.0 saw.2 is.1 saw.4))))
    ]

    -- which are loaded again at the safepoint
    but_looked : (But : WordId → Type 0) (at : WordId) (n : ℕ) (k : ThreadView) → is_idle heap.shape k ≡ false → SeenBut But k.seen k.seen_at_safepoint
        → SeenBut (λ m. But m × (same_name m at ≡ false)) (record { plan = load e at; found = n } ∷ seen_before heap.shape k)
        (record { plan = load e at; found = n } ∷ k.seen_at_safepoint)
    but_looked But at n k going f =
        subst (λ z. SeenBut (λ m. But m × (same_name m at ≡ false)) (record { plan = load e at; found = n } ∷ z)
        (record { plan = load e at; found = n } ∷ k.seen_at_safepoint)) (sym (goes_on_seeing heap.shape k going))
        (but_more But (record { plan = load e at; found = n }) k.seen k.seen_at_safepoint f)

    -- after the loads of the mark and, where it tells the class, of the class word: the steps ms since have led to the load of the prototype
    abbrev after_last : ℕ → ℕ → ℕ → ℕ → ℕ → StepTree RevocationOutcome
    after_last c m p a l = cond (is_valid_bias (read_mark m) p) (decided_steps heap.shape me c e b (epoch_in p) a l) unreachable

    abbrev after_class : ℕ → ℕ → StepTree RevocationOutcome
    after_class m c = step (load e (id.Prototype c)) (λ p. step (load e (id.Revocations c)) (λ a. step (load e (id.LastBulk c)) (after_last c m p a)))

    record HasClass (k0 : ThreadView) (c mark : ℕ) (ms : List StepMade) (k : ThreadView) : Type 0 where
      reaches : Reaches me k e
      leaves : Leaves e k0 k
      seen_at_safepoint : k.seen_at_safepoint ≡ ms ++ k0.seen_at_safepoint
      unwritten : writes_in k.seen_at_safepoint ≡ []
      path : Leads T ms (after_class mark c)
      saw_mark : last_seen (id.Mark b.object) k.seen_at_safepoint ≡ Some mark
      class : SawClass heap.shape k.seen_at_safepoint b.object c
      prototype : last_seen (id.Prototype c) k.seen ≡ last_seen (id.Prototype c) k0.seen
      but : SeenBut (λ n. n ≡ id.Prototype c) k.seen k.seen_at_safepoint
      known : Knows heap k.log b.object

    module _ (k0 : ThreadView) (r : Reaches me k0 e) (unwritten : writes_in k0.seen_at_safepoint ≡ []) (c mark : ℕ) (ms : List StepMade) (kc : ThreadView)
        (x : HasClass k0 c mark ms kc)
        (in_heap : c < heap.shape.classes) where
      -- after the loads of the words of the class, with which the policy decides
      module _ (prototype count last : ℕ) (valid : is_valid_bias (read_mark mark) prototype ≡ true) where
        abbrev three : List StepMade → List StepMade
        three before = record { plan = load e (id.LastBulk c); found = last } ∷ record { plan = load e (id.Revocations c); found = count }
            ∷ record { plan = load e (id.Prototype c); found = prototype } ∷ before

        abbrev looks_so_far : List StepMade
        looks_so_far = three ms

        abbrev k4 : ThreadView
        k4 = then_known (load e (id.LastBulk c)) last (then_known (load e (id.Revocations c)) count (then_known (load e (id.Prototype c)) prototype kc))

        abbrev verdict : Verdict
        verdict = (decided count last b.now).0

        abbrev word : ℕ
        word = (decided count last b.now).1

        abbrev first_store : StepPlan
        first_store = revoke_plan e b (own.CountVerdict c verdict (is_reset count last b.now)) (id.Revocations c) word

        abbrev rest_of : ℕ → StepTree RevocationOutcome
        rest_of n = verdict_steps heap.shape me c e b (epoch_in prototype) verdict >>= (λ took. done (record { verdict = verdict; took = took }))

        path : Leads T looks_so_far (step first_store rest_of)
        path = (
          after_last c mark prototype count,
          (
            λ a. step (load e (id.LastBulk c)) (after_last c mark prototype a),
            (λ p. step (load e (id.Revocations c)) (λ a. step (load e (id.LastBulk c)) (after_last c mark p a)), x.path, refl),
            refl,
          ),
          ap (λ (z : Bool). cond z (decided_steps heap.shape me c e b (epoch_in prototype) count last) unreachable) (sym valid),
        )

        stood : k4.seen_at_safepoint ≡ looks_so_far ++ k0.seen_at_safepoint
        stood = ap three x.seen_at_safepoint

        saw_prototype : last_seen (id.Prototype c) k4.seen_at_safepoint ≡ Some prototype
        saw_prototype = ap (λ (z : Bool). cond z (Some prototype) (last_seen (id.Prototype c) kc.seen_at_safepoint)) (same_as_itself (id.Prototype c))

        saw_count : last_seen (id.Revocations c) k4.seen_at_safepoint ≡ Some count
        saw_count = ap (λ (z : Bool). cond z (Some count) (last_seen (id.Revocations c) kc.seen_at_safepoint)) (same_as_itself (id.Revocations c))

        saw_last : last_seen (id.LastBulk c) k4.seen_at_safepoint ≡ Some last
        saw_last = ap (λ (z : Bool). cond z (Some last) (last_seen (id.LastBulk c) kc.seen_at_safepoint)) (same_as_itself (id.LastBulk c))

        saw_class : SawClass heap.shape k4.seen_at_safepoint b.object c
        saw_class = class_from heap.shape kc.seen_at_safepoint k4.seen_at_safepoint b.object c refl x.class

        decides : SeenSince k4.seen k4.seen_at_safepoint → Does heap false
            (decided_steps heap.shape me c e b (epoch_in prototype) count last) k4 (λ f a l. (f ≡ false) × MadeAll this k0 c a l)
        decides since =
            hitting heap false first_store rest_of k4 _ (λ n. refl)
            (λ i. begins_revoking_rule heap k4 e b c verdict (is_reset count last b.now) (id.Revocations c) word (λ v. in_heap) (λ v. record {
              reached = x.reaches.reached;
              calm = refl;
              operation = operation;
              unfinished = unfinished;
              allowed = allowed;
              object = record { within = object; known = x.known };
              unwritten = ap (λ z. ((z ++ []) ++ []) ++ []) x.unwritten;
              saw_class = saw_class;
              biased = (mark, prototype, x.saw_mark, saw_prototype, valid);
              decides = (count, last, saw_count, saw_last, refl, refl);
              store = record {
                next =
                    subst (λ t. IsNextStore heap.shape t b k4.seen_at_safepoint (id.Revocations c) word) (sym x.reaches.number)
                    (subst (λ z. IsNextStore heap.shape me b z (id.Revocations c) word) (sym stood)
                    (steps_next heap.shape me e b looks_so_far k0.seen_at_safepoint unwritten first_store rest_of word path refl));
                goes_on = refl;
                check = refl;
              };
            }))
            (λ n i was. middle_does this k0 r unwritten c (rest_of n) (then_known first_store n k4) (record { plan = first_store; found = n } ∷ looks_so_far)
            (middle_binds heap.shape e b (verdict_steps heap.shape me c e b (epoch_in prototype) verdict)
            (λ took. done (record { verdict = verdict; took = took }))
            (middle_verdict heap.shape e b object c in_heap me (epoch_in prototype) verdict) (λ took. tt))
            (record {
              leaves = leaves_all e k0 kc (then_known first_store n k4) x.leaves (record {
                own = same_own _;
                running = refl;
                reached = refl;
                moving = refl;
                mine = refl;
                check = refl;
              });
              stage = refl;
              seen_at_safepoint = ap (λ z. record { plan = first_store; found = n } ∷ z) stood;
              path = (rest_of, path, refl);
              mark = (mark, x.saw_mark);
              class = class_from heap.shape k4.seen_at_safepoint (then_known first_store n k4).seen_at_safepoint b.object c refl saw_class;
              prototype = (prototype, saw_prototype);
              since = subst (λ z. SeenSince (record { plan = first_store; found = n } ∷ z)
                  (record { plan = first_store; found = n } ∷ k4.seen_at_safepoint)) (sym (goes_on_seeing heap.shape k4 i))
                  (since_more (record { plan = first_store; found = n }) k4.seen k4.seen_at_safepoint since);
            }))

      -- where the object was validly biased in the calls of the request, it is so still
      class_decides : (saw : SawValidBias heap.shape k0 b.object) → saw.2 ≡ c → mark ≡ saw.0
          → Does heap false (after_class mark c) kc (λ f a l. (f ≡ false) × MadeAll this k0 c a l)
      class_decides saw its mark_is =
          let R : Bool → RevocationOutcome → ThreadView → Type 0 = λ f a l. (f ≡ false) × MadeAll this k0 c a l in
          let r1 = x.reaches in
          hitting heap false (load e (id.Prototype c)) _ kc R (λ n. refl)
          (λ i. keeps_look heap me e (id.Prototype c) kc r1 (λ v. in_heap)) (λ prototype i1 was1.
          let k2 = then_known (load e (id.Prototype c)) prototype kc in
          let r2 = reaches_on heap me e (id.Prototype c) prototype kc r1 in
          hitting heap false (load e (id.Revocations c)) _ k2 R (λ n. refl)
          (λ i. keeps_look heap me e (id.Revocations c) k2 r2 (λ v. in_heap)) (λ count i2 was2.
          let k3 = then_known (load e (id.Revocations c)) count k2 in
          let r3 = reaches_on heap me e (id.Revocations c) count k2 r2 in
          hitting heap false (load e (id.LastBulk c)) _ k3 R (λ n. refl) (λ i. keeps_look heap me e (id.LastBulk c) k3 r3 (λ v. in_heap)) (λ last i3 was3.
          let prototype_is : prototype ≡ saw.1 =
          sym was1.found ∙ still_prototype c kc was1.stands saw.1 r1.reached r1.calm
          (x.prototype ∙ ap (λ z. last_seen (id.Prototype z) k0.seen) (sym its) ∙ saw.5) in
          let valid : is_valid_bias (read_mark mark) prototype ≡ true = (λ j. is_valid_bias (read_mark (mark_is j)) (prototype_is j)) ∙ saw.6 in
          subst (λ (z : Bool). Does heap false (cond z (decided_steps heap.shape me c e b (epoch_in prototype) count last) unreachable)
          (then_known (load e (id.LastBulk c)) last k3) R) (sym valid)
          (decides prototype count last valid
          (all_looked (then_known (load e (id.LastBulk c)) last k3)
          (but_looked _ (id.LastBulk c) last k3 i3 (but_looked _ (id.Revocations c) count k2 i2 (but_looked _ (id.Prototype c) prototype kc i1 x.but))))))))
        where
          -- none is left
          all_looked : (k : ThreadView)
              → SeenBut (λ n. (((n ≡ id.Prototype c) × (same_name n (id.Prototype c) ≡ false)) × (same_name n
              (id.Revocations c) ≡ false)) × (same_name n (id.LastBulk c) ≡ false)) k.seen k.seen_at_safepoint
              → SeenSince k.seen k.seen_at_safepoint
          all_looked k f n v kept h = elim (f n v kept h) [
            | inl a ↦ a
            | inr a ↦ absurd (not_itself n (id.Prototype c) a.0.0.0 a.0.0.1)
          ]

    -- the class that was seen is one of the heap's
    class_in : (k0 : ThreadView) → SoundWorldWith heap k0 → Reaches me k0 e → (saw : SawValidBias heap.shape k0 b.object) → saw.2 < heap.shape.classes
    class_in k0 v r saw =
        let its = class_seen heap.shape v.world.words k0.seen b.object saw.2 (λ m e d. class_stays k0 v m r.reached r.calm e d) saw.4 in
        subst (λ z. z < heap.shape.classes) its
        (class_in_heap heap.shape v.world.words b.object (limits heap k0 v)
        (home heap k0 v (λ s y. v.world.words (id.Class b.object) ≤ s.classes) ((forms_fit heap k0 v).classes b.object)) object)

    -- AFTER THE LOAD of the mark
    module _ (k0 : ThreadView) (r : Reaches me k0 e) (unwritten : writes_in k0.seen_at_safepoint ≡ [])
        (saw : SawValidBias heap.shape k0 b.object) (alone : SawNoOther heap.shape k0 b.object) (known : Knows heap k0.log b.object)
        (mark : ℕ) (going_on : is_idle heap.shape k0 ≡ false) (mark_is : mark ≡ saw.0) (in_heap : saw.2 < heap.shape.classes) where
      abbrev R : Bool → RevocationOutcome → ThreadView → Type 0
      R f a l = (f ≡ false) × MadeAll this k0 saw.2 a l

      abbrev k1 : ThreadView
      k1 = then_known (load e (id.Mark b.object)) mark k0

      abbrev finding_class : ℕ → StepTree RevocationOutcome
      finding_class m = class_steps e Settled heap.shape b.object >>= after_class m

      abbrev by_test : Bool → StepTree RevocationOutcome
      by_test z = cond z (done (class_in_shape heap.shape b.object)) (step (load e (id.Class b.object)) (λ word. done (word - 1))) >>= after_class mark

      reaches : Reaches me k1 e
      reaches = reaches_on heap me e (id.Mark b.object) mark k0 r

      leaves : Leaves e k0 k1
      leaves = (look_adds this Settled (id.Mark b.object) tt mark k0).leaves

      saw_mark : last_seen (id.Mark b.object) k1.seen_at_safepoint ≡ Some mark
      saw_mark = ap (λ (z : Bool). cond z (Some mark) (last_seen (id.Mark b.object) k0.seen_at_safepoint)) (same_as_itself (id.Mark b.object))

      saw_before_that : (at : WordId) → same_name at (id.Mark b.object) ≡ false → last_seen at k1.seen ≡ last_seen at k0.seen
      saw_before_that at other = ap (λ (z : Bool). cond z (Some mark) (last_seen at (seen_before heap.shape k0))) other
          ∙ ap (last_seen at) (goes_on_seeing heap.shape k0 going_on)

      but : SeenBut (λ n. NotLooked saw.2 n × (same_name n (id.Mark b.object) ≡ false)) k1.seen k1.seen_at_safepoint
      but = but_looked (NotLooked saw.2) (id.Mark b.object) mark k0 going_on (saw_before k0 saw alone)

      -- a declared object has its class by the heap's shape,
      declared_does : nat_lt b.object heap.shape.declared ≡ true → Does heap false (after_class mark (class_in_shape heap.shape b.object)) k1 R
      declared_does declared =
          let same = declared_class heap.shape k0.seen b.object saw.2 declared saw.4 in
          subst (λ c. Does heap false (after_class mark c) k1 R) same
          (class_decides k0 r unwritten saw.2 mark (record { plan = load e (id.Mark b.object); found = mark } ∷ []) k1 (record {
            reaches = reaches;
            leaves = leaves;
            seen_at_safepoint = refl;
            unwritten = ap (λ z. z ++ []) unwritten;
            path = (finding_class, refl, ap (after_class mark) same ∙ sym (ap by_test declared));
            saw_mark = saw_mark;
            class = subst (SawClass heap.shape k1.seen_at_safepoint b.object) (sym same) (class_declared heap.shape k1.seen_at_safepoint b.object declared);
            prototype = saw_before_that (id.Prototype saw.2) refl;
            but = but_less _ (λ n. n ≡ id.Prototype saw.2) k1.seen k1.seen_at_safepoint (λ n h. elim h.0 [
              | inl is ↦ absurd (not_itself n (id.Mark b.object) is h.1)
              | inr (inl is) ↦ let made = is.1 in absurd (cc (declared, made))
              | inr (inr is) ↦ is
            ]) but;
            known = known;
          }) in_heap saw refl mark_is)

      -- and another's class word is what the thread saw before
      made_does : nat_lt b.object heap.shape.declared ≡ false → (n : ℕ) → is_idle heap.shape k1 ≡ false → Was heap (load e (id.Class b.object)) k1 n
          → Does heap false (after_class mark (n - 1)) (then_known (load e (id.Class b.object)) n k1) R
      made_does made n i was =
          let kc = then_known (load e (id.Class b.object)) n k1 in
          let word : n ≡ saw.2 + 1 = sym was.found ∙ class_stays k1 was.stands (saw.2 + 1) r.reached refl
          (saw_before_that (id.Class b.object) refl ∙ made_class heap.shape k0.seen b.object saw.2 made saw.4) (λ z. absurd (omega (arith, z))) in
          let same : saw.2 ≡ n - 1 = omega (arith, word) in
          subst (λ c. Does heap false (after_class mark c) kc R) same
          (class_decides k0 r unwritten saw.2 mark
          (record { plan = load e (id.Class b.object); found = n } ∷ record { plan = load e (id.Mark b.object); found = mark } ∷ []) kc (record {
            reaches = reaches_on heap me e (id.Class b.object) n k1 reaches;
            leaves = leaves_all e k0 k1 kc leaves (look_adds this Settled (id.Class b.object) tt n k1).leaves;
            seen_at_safepoint = refl;
            unwritten = ap (λ z. (z ++ []) ++ []) unwritten;
            path = (λ w. after_class mark (w - 1), (finding_class, refl, sym (ap by_test made)), ap (after_class mark) same);
            saw_mark = saw_mark;
            class = class_made heap.shape kc.seen_at_safepoint b.object saw.2 made
                (ap (λ (z : Bool). cond z (Some n) (last_seen (id.Class b.object) k1.seen_at_safepoint)) (same_as_itself (id.Class b.object))
                ∙ ap Some word);
            prototype = ap (last_seen (id.Prototype saw.2)) (goes_on_seeing heap.shape k1 i) ∙ saw_before_that (id.Prototype saw.2) refl;
            but = but_less _ (λ n. n ≡ id.Prototype saw.2) kc.seen kc.seen_at_safepoint (λ m h. elim h.0.0 [
              | inl is ↦ absurd (not_itself m (id.Mark b.object) is h.0.1)
              | inr (inl is) ↦ absurd (not_itself m (id.Class b.object) is.0 h.1)
              | inr (inr is) ↦ is
            ]) (but_looked _ (id.Class b.object) n k1 i but);
            known = known;
          }) in_heap saw refl mark_is)

    pub revoke_does : (k0 : ThreadView) (r : Reaches me k0 e) (unwritten : writes_in k0.seen_at_safepoint ≡ [])
        (saw : SawValidBias heap.shape k0 b.object) → SawNoOther heap.shape k0 b.object → Knows heap k0.log b.object
        → Does heap false T k0 (λ f a l. (f ≡ false) × MadeAll this k0 saw.2 a l)
    revoke_does k0 r unwritten saw alone known =
        let R : Bool → RevocationOutcome → ThreadView → Type 0 = λ f a l. (f ≡ false) × MadeAll this k0 saw.2 a l in
        hitting heap false (load e (id.Mark b.object)) _ k0 R (λ n. refl) (λ i. keeps_look heap me e (id.Mark b.object) k0 r (λ v. object)) (λ mark i was.
        let k1 = then_known (load e (id.Mark b.object)) mark k0 in
        let mark_is : mark ≡ saw.0 = sym was.found ∙ still_valid k0 r was.stands saw in
        let in_heap = class_in k0 was.stands r saw in
        class_does heap e Settled b.object (after_class mark) k1 R
        (declared_does k0 r unwritten saw alone known mark i mark_is in_heap)
        (λ made j. keeps_look heap me e (id.Class b.object) k1 (reaches k0 r unwritten saw alone known mark i mark_is in_heap)
        (λ v. made_there heap.shape b.object object made))
        (made_does k0 r unwritten saw alone known mark i mark_is in_heap))
