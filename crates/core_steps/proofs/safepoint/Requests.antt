-- A safepoint that a call requests, or for which the request of an earlier call stands: up to where it is reached.
use Rattle.std.proofs.Common.{◌≡◌, ◌⊎◌, ℕ, ◌==◌, ◌||◌, ◌&&◌, not, eq-eqb, Bool, true, false, cond, List, [], ◌++◌, Some, refl, sym, ap, ◌∙◌, inl, inr}
use Rattle.mark_word.specs.Safe.{read_safe}
use Rattle.core_world.specs.declared.answer.Progress.{Progress}
use Rattle.core_world.specs.declared.answer.Progress.TheVariants.{Done, Pending}
use Rattle.core_world.specs.declared.answer.PendingCause.TheVariants as why
use Rattle.core_world.specs.declared.word_id.WordId.{WordId}
use Rattle.core_world.specs.declared.word_id.WordId.TheVariants as id
use Rattle.core_world.specs.declared.stage.Stage.TheVariants.{Settled}
use Rattle.core_world.specs.Threads.AtRest.{AtRest}
use Rattle.core_world.specs.Words.Forms.{asks_in, runs_in, is_still}
use Rattle.core_world.specs.Threads.ThreadView.{ThreadView, StepMade, last_seen}
use Rattle.core_world.specs.Trees.Plans.{CallContext, load, done_with, pending_for}
use Rattle.core_world.specs.Clauses.Safepoints.{ends}
use Rattle.core_world.specs.Trees.SafepointSteps.{has_requester, requested_by, request_plan, request_steps, reached_steps, then_reached, safepoint_steps}
use Rattle.core_world.specs.RevocationRules.{writes_in}
use Rattle.core_world.specs.Steps.{is_idle, known_hit, seen_before, only_headers}
use Rattle.core_locks.specs.Knowing.{GoesOn}
use Rattle.core_law.specs.Logic.{Heap, Does}
use Rattle.core_steps.proofs.Looks.{looks_safe}
use Rattle.core_steps.proofs.LawRules.{requests}
use Rattle.core_steps.proofs.OwnParts.{KeepsOwn, own_of, same_own}
use Rattle.core_steps.proofs.Resting.{Carries, unasking, unchecking, rests}
use Rattle.core_steps.proofs.FairSteps.{Begins}
use Rattle.core_steps.proofs.safepoint.SafepointLooks.{Reaches}
use Rattle.core_steps.proofs.safepoint.SafeWords.{requested_asks, requested_runs}
use Rattle.core_steps.proofs.SeenSteps.{newest_or}
use Rattle.core_steps.proofs.Tests.{unsome}
use Rattle.core_steps.proofs.Trees.{answers, chooses, follows, binds, hitting, swapping}

module _ (heap : Heap) (e : CallContext) (me : ℕ) where
  -- a thread whose request stands, in the middle of nothing, that works for this call
  pub record Asks (k : ThreadView) : Type 0 where
    pub number : k.thread ≡ me
    pub asks : k.requesting ≡ true
    pub stopped : k.running ≡ false
    pub calm : k.stage ≡ Settled
    pub check : e.check ≡ k.checking
    pub mine : e.unfinished ≡ k.unfinished
    pub live : ends k.log ≡ false
    pub carries : Carries k.moving k.log k.wait k.holds k.shots e.unfinished

  -- The parts that the steps up to there leave, and what the thread has seen of marks, prototypes and class words: what it had seen before, by what a step of
  -- the call keeps of that. They are on the safepoint word alone.
  pub record Since (k l : ThreadView) : Type 0 where
    pub own : KeepsOwn (own_of k) (own_of l)
    pub open own use *
    pub mark : (o : ℕ) → last_seen (id.Mark o) l.seen ≡ last_seen (id.Mark o) (seen_before heap.shape k)
    pub prototype : (c : ℕ) → last_seen (id.Prototype c) l.seen ≡ last_seen (id.Prototype c) (seen_before heap.shape k)
    pub class : (o : ℕ) → last_seen (id.Class o) l.seen ≡ last_seen (id.Class o) (seen_before heap.shape k)
    pub alone : (n : WordId) (v : ℕ) → last_seen n l.seen ≡ Some v → (n ≡ id.Safepoint) ⊎ (last_seen n (seen_before heap.shape k) ≡ Some v)

  -- what is known after the look whether the safepoint is reached, and after the request
  abbrev pub Stood : ThreadView → Progress (Unit {0}) → ThreadView → Type 0
  Stood k (Done x) l = Reaches me l e × Since k l × (k.reached ≡ false → writes_in l.seen_at_safepoint ≡ [])
  Stood k (Pending why) l = AtRest heap.shape l

  abbrev Requested : ThreadView → Progress (Unit {0}) → ThreadView → Type 0
  Requested k (Done x) l = Asks l × Since k l × (k.reached ≡ false → l.reached ≡ false)
  Requested k (Pending why) l = AtRest heap.shape l

  -- a thread at rest that begins such a call, or comes to it by steps that leave it at rest: its request stands, or it runs
  pub record BeginsSafepoint (k : ThreadView) : Type 0 where
    pub number : k.thread ≡ me
    pub rest : AtRest heap.shape k
    pub live : ends k.log ≡ false
    pub carries : Carries k.moving k.log k.wait k.holds k.shots e.unfinished
    pub asking : k.requesting ≡ true → (e.check ≡ k.checking) × (e.unfinished ≡ k.unfinished)
    pub running : k.requesting ≡ false → (k.running ≡ true) × GoesOn k e
    pub begins : Begins heap.shape k e.unfinished

  or_both : (a b c : Bool) → b ≡ true → c ≡ true → (a || (b && c)) ≡ true
  or_both true b c f g = refl
  or_both false b c f g = ap (λ (x : Bool). x && c) f ∙ g

  nor_both : (a b c : Bool) → a ≡ false → c ≡ false → (a || (b && c)) ≡ false
  nor_both true b c f g = absurd (cc f)
  nor_both false true c f g = g
  nor_both false false c f g = refl

  nor_first : (a b c : Bool) → a ≡ false → b ≡ false → (a || (b && c)) ≡ false
  nor_first true b c f g = absurd (cc f)
  nor_first false true c f g = absurd (cc g)
  nor_first false false c f g = refl

  -- a thread whose request stands counts on what it saw before
  pub asking_saw : (k : ThreadView) → k.requesting ≡ true → seen_before heap.shape k ≡ k.seen
  asking_saw k asks = by_flag (is_idle heap.shape k) ∙ refl
    where
      by_flag : (b : Bool) → cond (b && not k.requesting) [] k.seen ≡ k.seen
      by_flag true = ap (λ (z : Bool). cond (not z) [] k.seen) asks
      by_flag false = refl

  -- with a request that stands it is at rest, by what it knew when this part began
  module _ (k0 : ThreadView) (asked : (k : ThreadView) → Asks k → Since k0 k → (k0.reached ≡ false → k.reached ≡ false) → AtRest heap.shape k) where
    reached_does : (fresh : Bool) (k : ThreadView) → Asks k → Since k0 k → (k0.reached ≡ false → k.reached ≡ false)
        → Does heap fresh (reached_steps e) k (λ b r l. (b ≡ false) × Stood k0 r l)
    reached_does fresh k a since unreached =
        hitting heap fresh _ _ k _ (λ n. refl)
        (λ i. looks_safe heap k e a.calm a.check (inl a.mine) (inl a.mine)) (λ word i was.
        let l = known_hit heap.shape heap.start (load e id.Safepoint) word k in
        let now : Since k0 l = record {
          own = since.own;
          mark = λ o. ap (last_seen (id.Mark o)) (asking_saw k a.asks) ∙ since.mark o;
          prototype = λ c. ap (last_seen (id.Prototype c)) (asking_saw k a.asks) ∙ since.prototype c;
          class = λ o. ap (last_seen (id.Class o)) (asking_saw k a.asks) ∙ since.class o;
          alone = λ n v saw. elim (newest_or n id.Safepoint word v (last_seen n (seen_before heap.shape k)) saw) [
            | inl is ↦ inl is
            | inr g ↦ since.alone n v (ap (last_seen n) (sym (asking_saw k a.asks)) ∙ g)
          ];
        } in
        chooses heap false (is_still word) _ _ _ _
        (λ still. answers heap false _ _ _ (
          refl,
          (
            record {
              number = a.number;
              reached = or_both k.reached k.requesting (is_still word) a.asks still;
              stopped = a.stopped;
              calm = refl;
              check = refl;
              mine = refl;
              live = a.live;
              carries = a.carries;
            },
            now,
            λ first. ap (λ (b : Bool). writes_in (cond b k.seen_at_safepoint []) ++ []) (unreached first),
          ),
        ))
        (λ no. answers heap false _ _ _ (
          refl,
          asked l (record {
            number = a.number;
            asks = a.asks;
            stopped = a.stopped;
            calm = refl;
            check = refl;
            mine = refl;
            live = a.live;
            carries = a.carries;
          }) now
              (λ first. nor_both k.reached k.requesting (is_still word) (unreached first) no),
        )))

    request_does : (fresh : Bool) → BeginsSafepoint k0 → k0.running ≡ true → GoesOn k0 e
        → Does heap fresh (request_steps e k0.thread) k0 (λ b r l. (b ≡ false) × Requested k0 r l)
    request_does fresh may runs goes =
        let rest = may.rest in
        let k = k0 in
        let unasks = unasking heap.shape k rest runs in
        hitting heap fresh _ _ k _ (λ n. refl) (λ i. looks_safe heap k (record e { check = false }) rest.calm
        (sym (unchecking heap.shape k rest unasks)) goes may.begins) (λ word i was.
        let l = known_hit heap.shape heap.start (load (record e { check = false }) id.Safepoint) word k in
        let exchange = request_plan e k.thread word in
        chooses heap false (has_requester word) _ _ _ _ (λ h. answers heap false _ _ _ (refl, rests heap.shape _ refl unasks refl may.carries)) (λ free.
        swapping heap false exchange word _ (λ n. done_with tt)
        (λ n. cond (has_requester n) (pending_for (why.Requested n)) (pending_for (why.Raced word n))) l _ refl
        (λ i. requests heap _ e word (record {
          runs = runs;
          calm = refl;
          ended = λ h. let live = may.live in absurd (cc (h, live));
          unasked = unsome _ free;
          still = may.carries.still;
          goes_on = inl refl;
        }) (inl refl))
        (λ n i was h.
        let left = cond (n == word) (requested_by (read_safe word) k.thread) n in
        let asks : asks_in left k.thread ≡ true = ap (λ z. asks_in (cond z (requested_by (read_safe word) k.thread) n) k.thread) (eq-eqb n word h)
        ∙ requested_asks heap _ word was.stands (was.found ∙ h) runs in
        let headers : List StepMade = only_headers l.unfinished l.seen_at_safepoint in
        let kept : cond (l.reached && not (asks_in left k.thread)) headers (cond k.running (seen_before heap.shape l) []) ≡ l.seen =
        ap (λ (b : Bool). cond (l.reached && not b) headers (cond k.running (seen_before heap.shape l) [])) asks
        ∙ by_reached l.reached headers (cond k.running (seen_before heap.shape l) [])
        ∙ ap (λ (b : Bool). cond b (seen_before heap.shape l) []) runs ∙ ap (λ (b : Bool). cond (b && not l.requesting) [] l.seen) i in
        answers heap false _ _ _ (
          refl,
          (
            record {
              number = may.number;
              asks = asks;
              stopped = ap (λ z. runs_in (cond z (requested_by (read_safe word) k.thread) n) k.thread) (eq-eqb n word h)
                  ∙ requested_runs heap _ word was.stands (was.found ∙ h) runs;
              calm = refl;
              check = refl;
              mine = refl;
              live = may.live;
              carries = may.carries;
            },
            record {
              own = same_own _;
              mark = λ o. ap (last_seen (id.Mark o)) kept;
              prototype = λ c. ap (last_seen (id.Prototype c)) kept;
              class = λ o. ap (last_seen (id.Class o)) kept;
              alone = λ m v saw. elim (newest_or m id.Safepoint left v _ saw) [
                | inl is ↦ inl is
                | inr g ↦ newest_or m id.Safepoint word v (last_seen m (seen_before heap.shape k)) (ap (last_seen m) (sym kept) ∙ g)
              ];
            },
            λ first. ap (λ (b : Bool). b && asks_in left k.thread) (nor_first k.reached k.requesting (is_still word) first unasks),
          ),
        ))
        (λ n i was h. chooses heap false (has_requester n) _ _ _ _
        (λ h. answers heap false _ _ _ (refl, rests heap.shape _ refl unasks refl may.carries)) (λ h.
        answers heap false _ _ _ (refl, rests heap.shape _ refl unasks refl may.carries)))))
      where
        by_reached : (b : Bool) (x y : List StepMade) → cond (b && false) x y ≡ y
        by_reached true x y = refl
        by_reached false x y = refl

    then_reached_does : (b : Bool) (r : Progress (Unit {0})) (l : ThreadView) → b ≡ false → Requested k0 r l
        → Does heap b (then_reached e r) l (λ b r l. (b ≡ false) × Stood k0 r l)
    then_reached_does b (Done x) l fresh s = reached_does b l s.0 s.1 s.2
    then_reached_does b (Pending why) l fresh s = answers heap b _ l _ (fresh, s)

    pub safepoint_does : (fresh : Bool) → BeginsSafepoint k0
        → Does heap fresh (safepoint_steps e k0.thread k0.requesting) k0 (λ b r l. (b ≡ false) × Stood k0 r l)
    safepoint_does fresh may = chooses heap fresh k0.requesting _ _ k0 _
        (λ asks. let a = may.asking asks in
        let saw = asking_saw k0 asks in
        reached_does fresh k0
        (record {
          number = may.number;
          asks = asks;
          stopped = may.rest.stopped asks;
          calm = may.rest.calm;
          check = a.0;
          mine = a.1;
          live = may.live;
          carries = may.carries;
        })
        (record {
          own = same_own _;
          mark = λ o. ap (last_seen (id.Mark o)) (sym saw);
          prototype = λ c. ap (last_seen (id.Prototype c)) (sym saw);
          class = λ o. ap (last_seen (id.Class o)) (sym saw);
          alone = λ n v h. inr (ap (last_seen n) saw ∙ h);
        })
        (λ first. first))
        (λ free. let a = may.running free in
        binds heap fresh (request_steps e k0.thread) (then_reached e) k0 _ (
        follows heap fresh _ k0 _ _ (request_does fresh may a.0 a.1) (λ b r l x. then_reached_does b r l x.0 x.1)))
