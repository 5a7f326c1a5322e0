-- The end of a revocation, after its last store: idle monitors are given back, the first look of which ends the revocation, and the safepoint is released.
use Rattle.std.proofs.Common.{◌≡◌, ◌⊎◌, ℕ, ◌<◌, ◌==◌, ◌&&◌, not, eq-eqb, Bool, true, false}
use Rattle.std.proofs.Common.{cond, List, [], length, Some, None, refl, sym, ap, ◌∙◌, subst, arith, inl, inr}
use Rattle.mark_word.specs.Mark.{read_mark}
use Rattle.core_world.specs.declared.plan.StepPlan.{StepPlan}
use Rattle.core_world.specs.declared.answer.Progress.{Progress}
use Rattle.core_world.specs.declared.answer.Progress.TheVariants.{Done, Pending}
use Rattle.core_world.specs.declared.word_id.WordId.{WordId}
use Rattle.core_world.specs.declared.word_id.WordId.TheVariants as id
use Rattle.core_world.specs.Threads.AtRest.{AtRest, SawClass}
use Rattle.core_world.specs.Trees.BiasSteps.{stage_after}
use Rattle.core_world.specs.Words.Forms.{asks_in, runs_in, epoch_in, is_biased}
use Rattle.core_world.specs.Threads.ThreadView.{ThreadView, Still, StepMade, last_seen}
use Rattle.core_world.specs.Words.Names.{same_name}
use Rattle.core_world.specs.Trees.Plans.{CallContext, done_with}
use Rattle.core_world.specs.Trees.SafepointSteps.{reached_word, released_word, release_plan, release_to}
use Rattle.core_world.specs.RevocationRules.{writes_in}
use Rattle.core_world.specs.Trees.RevocationSteps.{RevocationOutcome, revoke_at_safepoint_steps}
use Rattle.core_world.proofs.There.{class_seen}
use Rattle.core_world.specs.Trees.DeflateSteps.{deflate_steps}
use Rattle.core_world.specs.Threads.Stages.{Revocation, revocation_in}
use Rattle.core_world.specs.Steps.{known_hit, seen_before, only_headers}
use Rattle.core_world.specs.Trees.StepTree.{StepTree, done, unreachable, ◌>>=◌}
use Rattle.core_bias.specs.Revoking.{Leads, TellsBias}
use Rattle.core_locks.specs.Knowing.{IsBiasTo}
use Rattle.core_law.specs.Logic.{Heap, Keeps, Was, Does}
use Rattle.core_steps.specs.Deflated.{HasRevoked}
use Rattle.core_steps.proofs.bias.RevocationMiddle.{OneRevocation, number_of, MadeAll}
use Rattle.core_steps.proofs.OwnParts.{KeepsOwn, own_of}
use Rattle.core_steps.proofs.bias.BiasFacts.{is_any_header}
use Rattle.core_steps.proofs.bias.BiasRules.{bias_biased}
use Rattle.core_steps.proofs.bias.AfterRevocations.{unrevoking_after, after_tells, after_keeps}
use Rattle.core_steps.proofs.ClassSteps.{class_kept, class_from}
use Rattle.core_steps.proofs.deflation.DeflationLooks.{OneDeflation, Idles}
use Rattle.core_steps.proofs.deflation.Deflations.{deflate_ends}
use Rattle.core_steps.proofs.bias.KeptHeaders.{headers_stay, headers_alone}
use Rattle.core_steps.proofs.LawRules.{releases, releases_taking}
use Rattle.core_law.proofs.Standing.{few_threads}
use Rattle.core_steps.proofs.bias.RevocationTrees.{answers_left, revocation_untaken}
use Rattle.core_steps.proofs.safepoint.SafepointLooks.{Reaches, going}
use Rattle.core_law.proofs.SafepointSights.{is_as_seen}
use Rattle.core_world.specs.Threads.References.{is_on}
use Rattle.core_steps.proofs.safepoint.SafeWords.{reached_there, released_asks, released_runs}
use Rattle.core_steps.proofs.Trees.{answers, chooses_then, follows, finding}

-- What these words of mark and prototype tell of the bias, by whether the thread gave itself a new one.
abbrev pub Tells : ℕ → Bool → ℕ → ℕ → Type 0
Tells t true v p = IsBiasTo t (read_mark v) (epoch_in p)
Tells t false v p = is_biased v ≡ false

-- a mark that stays, or had no bias pattern and has none, tells the same
tells_on : (t : ℕ) (took : Bool) (v u p : ℕ) → Tells t took v p → (u ≡ v) ⊎ ((is_biased v ≡ false) × (is_biased u ≡ false)) → Tells t took u p
tells_on t true v u p h (inl same) = subst (λ z. IsBiasTo t (read_mark z) (epoch_in p)) (sym same) h
tells_on t true v u p h (inr none) = let yes = bias_biased t (read_mark v) (epoch_in p) h in let no = none.0 in absurd (cc (yes, no))
tells_on t false v u p h (inl same) = ap is_biased same ∙ h
tells_on t false v u p h (inr none) = none.1

module _ (heap : Heap) (e : CallContext) (b : Revocation) where
  -- after the release the thread runs, and counts on what it saw at its safepoint of the object's mark, its class word and its class's prototype, and of no
  -- words of other kinds
  pub record Released (k : ThreadView) (took : Bool) (l : ThreadView) : Type 0 where
    pub own : KeepsOwn (own_of k) (own_of l)
    pub open own use *
    pub runs : l.running ≡ true
    pub unasks : l.requesting ≡ false
    pub still : l.moving ≡ Still
    pub unchecks : l.checking ≡ false
    pub mine : e.unfinished ≡ l.unfinished
    pub stage : l.stage ≡ stage_after took b.object
    pub mark : (v p a : ℕ) × (last_seen (id.Mark b.object) l.seen ≡ Some v) × SawClass heap.shape l.seen b.object a
        × (last_seen (id.Prototype a) l.seen ≡ Some p) × Tells l.thread took v p
    pub unseen : (n : WordId) → is_any_header n ≡ false → same_name n id.Safepoint ≡ false → last_seen n l.seen ≡ None
    pub untaken : b.rebias ≡ false → took ≡ false

  -- what a revocation comes to
  abbrev pub Revoked : ThreadView → Progress Bool → ThreadView → Type 0
  Revoked k (Done took) l = Released k took l
  Revoked k (Pending why) l = AtRest heap.shape l

module _ (this : OneRevocation) where
  open this use {heap, call as e, revocation as b, thread as me}

  tells_of : (t : ℕ) (took : Bool) (f : WordId → ℕ) (v p c : ℕ) → f (id.Mark b.object) ≡ v → f (id.Prototype c) ≡ p → TellsBias t b.object c took f
      → Tells t took v p
  tells_of t true f v p c mark prototype h =
      subst (λ z. IsBiasTo t (read_mark z) (epoch_in p)) mark (subst (λ z. IsBiasTo t (read_mark (f (id.Mark b.object))) (epoch_in z)) prototype h)
  tells_of t false f v p c mark prototype h = subst (λ z. is_biased z ≡ false) mark h

  -- before it, all is known that a deflation asks for
  has_revoked : (k0 : ThreadView) (r : Reaches me k0 e) (unwritten : writes_in k0.seen_at_safepoint ≡ []) (c : ℕ)
      (k : ThreadView) (a : RevocationOutcome) → MadeAll this k0 c a k → HasRevoked heap.shape k e b a
  has_revoked k0 r unwritten c k a all =
      let x = all.1 in
      record {
        its_revocation = ap revocation_in x.stage;
        steps = (
          all.0,
          k0.seen_at_safepoint,
          x.seen_at_safepoint,
          unwritten,
          subst (λ t. Leads (revoke_at_safepoint_steps heap.shape t e b) all.0 (done a)) (sym (number_of this k0 k r x.leaves)) x.path,
        );
        since = x.since;
      }

  -- AFTER THE STORES idle monitors are given back, and the first look of that ends the revocation. Then the safepoint is released.
  abbrev pub release_steps : Bool → StepTree (Progress Bool)
  release_steps took = release_to (stage_after took b.object) e me >>= (λ u. done_with took)

  abbrev pub ending_steps : Bool → StepTree (Progress Bool)
  ending_steps took = deflate_steps heap.shape e (stage_after took b.object) >>= (λ u. release_steps took)

  abbrev deflation : ThreadView → Bool → OneDeflation
  deflation k took = record { heap = heap; call = e; before = k; stage = stage_after took b.object; plain = unrevoking_after took b.object }

  abbrev release : Bool → ThreadView → StepPlan
  release took k = release_plan (record e { check = false }) (stage_after took b.object) k.thread

  -- what is known between the two: the thread saw its object's mark, class and prototype, and what they tell
  record Deflated (k0 : ThreadView) (took : Bool) (k : ThreadView) : Type 0 where
    idles : Idles (deflation k0 took) k
    mark : (v p c : ℕ) × (last_seen (id.Mark b.object) k.seen_at_safepoint ≡ Some v) × SawClass heap.shape k.seen_at_safepoint b.object c
        × (last_seen (id.Prototype c) k.seen_at_safepoint ≡ Some p) × Tells k.thread took v p

  release_keeps : (took : Bool) (k : ThreadView) (a : CallContext) → k.reached ≡ true
      → k.stage ≡ stage_after took b.object → k.moving ≡ Still → a.unfinished ≡ k.unfinished
      → Keeps heap (release_plan a (stage_after took b.object) k.thread) k
  release_keeps true k a reached stands still goes_on =
      releases_taking heap k a b.object (record { reached = reached; takes = stands; still = still; goes_on = goes_on })
  release_keeps false k a reached stands still goes_on = releases heap k a (record { reached = reached; calm = stands; still = still; goes_on = goes_on })

  release_does : is_on e.unfinished b.object ≡ true → (k0 k : ThreadView) (took : Bool)
      → k0.thread ≡ me → (b.rebias ≡ false → took ≡ false) → Deflated k0 took k
      → Does heap false (release_steps took) k (λ f progress l. (f ≡ false) × Revoked heap e b k0 progress l)
  release_does own k0 k took number untaken d =
      let x = d.idles in
      let R : Bool → Progress Bool → ThreadView → Type 0 = λ f progress l. (f ≡ false) × Revoked heap e b k0 progress l in
      let finds : (n : ℕ) → Was heap (release took k) k n → (n == reached_word k.thread) ≡ true =
      λ n was. eq-eqb n (reached_word k.thread) (reached_there heap k n was.stands was.found x.reached) in
      subst (λ t. Does heap false (release_to (stage_after took b.object) e t >>= (λ u. done_with took)) k R) (ap (λ z. z.thread) x.local ∙ number) (
      finding heap false (release took k) _ k R finds
      (λ i. release_keeps took k (record e { check = false }) x.reached x.stands x.still x.mine)
      (λ n i was.
      let l = known_hit heap.shape heap.start (release took k) n k in
      let hit = finds n was in
      chooses_then heap false (n == reached_word k.thread) (done tt) unreachable (λ u. done_with took) l R
      (λ yes. answers heap false (Done took) l R (refl, released n was hit))
      (λ no. absurd (cc (hit, no)))))
    where
      released : (n : ℕ) → Was heap (release took k) k n → (n == reached_word k.thread) ≡ true
          → Released heap e b k0 took (known_hit heap.shape heap.start (release took k) n k)
      released n was hit =
          let x = d.idles in
          let few = few_threads heap k was.stands in
          let on : is_on k.unfinished b.object ≡ true = ap (λ u. is_on u b.object) (sym x.mine) ∙ own in
          let left : ℕ = cond (n == reached_word k.thread) (released_word k.thread) n in
          let unasks : asks_in left k.thread ≡ false =
          ap (λ (z : Bool). asks_in (cond z (released_word k.thread) n) k.thread) hit ∙ released_asks k.thread few in
          let call : List StepMade = cond k.running (seen_before heap.shape k) [] in
          let headers : List StepMade = only_headers k.unfinished k.seen_at_safepoint in
          let kept : cond (k.reached && not (asks_in left k.thread)) headers call ≡ headers =
          ap (λ (z : Bool). cond (z && not (asks_in left k.thread)) headers call) x.reached
          ∙ ap (λ (z : Bool). cond (not z) headers call) unasks in
          record {
            own = x.own;
            runs = ap (λ (z : Bool). runs_in (cond z (released_word k.thread) n) k.thread) hit ∙ released_runs k.thread few;
            unasks = unasks;
            still = x.still;
            unchecks = refl;
            mine = refl;
            stage = refl;
            mark = (
              d.mark.0,
              d.mark.1,
              d.mark.2,
              ap (last_seen (id.Mark b.object)) kept ∙ headers_stay k.unfinished (id.Mark b.object) on k.seen_at_safepoint ∙ d.mark.3,
              class_from heap.shape k.seen_at_safepoint (known_hit heap.shape heap.start (release took k) n k).seen b.object d.mark.2
                  (ap (last_seen (id.Class b.object)) kept ∙ headers_stay k.unfinished (id.Class b.object) on k.seen_at_safepoint) d.mark.4,
              ap (last_seen (id.Prototype d.mark.2)) kept ∙ headers_stay k.unfinished (id.Prototype d.mark.2) refl k.seen_at_safepoint ∙ d.mark.5,
              d.mark.6,
            );
            unseen = λ m hidden other. ap (λ (z : Bool). cond z (Some left) (last_seen m (cond (k.reached && not (asks_in left k.thread)) headers call))) other
                ∙ ap (last_seen m) kept ∙ headers_alone k.unfinished m hidden k.seen_at_safepoint;
            untaken = untaken;
          }

  -- where all its stores are made
  pub ending_does : is_on e.unfinished b.object ≡ true → b.object < length heap.shape.objects
      → (k0 : ThreadView) (r : Reaches me k0 e) (unwritten : writes_in k0.seen_at_safepoint ≡ []) (c : ℕ) (k : ThreadView) (a : RevocationOutcome)
      → MadeAll this k0 c a k → Does heap false (ending_steps a.took) k (λ f progress l. (f ≡ false) × Revoked heap e b k0 progress l)
  ending_does own object k0 r unwritten c k a all =
      let x = all.1 in
      let reached : k.reached ≡ true = x.leaves.reached ∙ r.reached in
      let number : k.thread ≡ me = number_of this k0 k r x.leaves in
      let stage = stage_after a.took b.object in
      going heap (deflate_steps heap.shape e stage) (λ u. release_steps a.took) k _ (
      follows heap false _ k _ _ (deflate_ends (deflation k0 a.took) k (omega (arith, object)) (record {
        keeps = after_keeps heap k e b a (has_revoked k0 r unwritten c k a all) reached
            (x.leaves.moving ∙ r.carries.still) x.leaves.check x.leaves.mine (id.Object 0) (λ there n. tt) (λ v. omega (arith, object));
        reached = reached;
        idles = λ n. record {
          reached = reached;
          stopped = x.leaves.running ∙ r.stopped;
          stands = refl;
          check = refl;
          mine = refl;
          still = x.leaves.moving ∙ r.carries.still;
          own = x.leaves.own;
        };
      })) (λ f u l y.
      let v = y.3 in
      let now = y.1.marks b.object x.mark.0 x.mark.1 in
      let class = class_seen heap.shape v.world.words k.seen_at_safepoint b.object c (λ m e d. is_as_seen heap k v reached (id.Class b.object) m e) x.class in
      let told = tells_of k.thread a.took v.world.words x.mark.0 x.prototype.0 c (is_as_seen heap k v reached (id.Mark b.object) x.mark.0 x.mark.1)
      (is_as_seen heap k v reached (id.Prototype c) x.prototype.0 x.prototype.1)
      (subst (λ z. TellsBias k.thread b.object z a.took v.world.words) class (after_tells heap k e b a (has_revoked k0 r unwritten c k a all) reached v)) in
      let same : k.thread ≡ l.thread = ap (λ z. z.thread) x.leaves.local ∙ ap (λ z. z.thread) (sym y.0.local) in
      release_does own k0 l a.took r.number (λ none. answers_left (λ (a : RevocationOutcome). a.took ≡ false) (revoke_at_safepoint_steps heap.shape me e b)
      (done a) all.0 x.path (revocation_untaken e b none heap.shape me)) (record {
        idles = y.0;
        mark = (
          now.0,
          x.prototype.0,
          c,
          now.1,
          class_kept heap.shape k.seen_at_safepoint l.seen_at_safepoint b.object c
              (y.1.classes b.object) x.class,
          y.1.prototypes c x.prototype.0 x.prototype.1,
          tells_on l.thread a.took x.mark.0 now.0 x.prototype.0
              (subst (λ t. Tells t a.took x.mark.0 x.prototype.0) same told) now.2,
        );
      })))
