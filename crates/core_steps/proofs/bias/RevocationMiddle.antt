-- The middle of a revocation: from its first store on, each load and each store keeps the world as revocations ask for.
use Rattle.std.proofs.Common.{◌≡◌, ℕ, ◌+◌, nat_lt, ◌++◌, Bool, true, false, cond, List, [], ◌∷◌, Some, refl, sym, ap, ◌∙◌, subst, inl, inr}
use Rattle.core_world.specs.declared.stage.Stage.{Stage}
use Rattle.core_world.specs.declared.word_id.WordId.{WordId}
use Rattle.core_world.specs.declared.word_id.WordId.TheVariants as id
use Rattle.core_world.specs.declared.plan.StepPlan.{StepPlan}
use Rattle.core_world.specs.Threads.AtRest.{SawClass, SawClassIf}
use Rattle.core_world.specs.Threads.ThreadView.{ThreadView, StepMade, last_seen}
use Rattle.core_world.specs.Words.Names.{same_name}
use Rattle.core_world.specs.Trees.Plans.{CallContext, with_stage, load_plan, store}
use Rattle.core_world.specs.RevocationRules.{writes_in}
use Rattle.core_world.specs.Trees.RevocationSteps.{revocation_stage, RevocationOutcome, revoke_at_safepoint_steps}
use Rattle.core_world.specs.There.{IsIn}
use Rattle.core_world.specs.Threads.Stages.{Revocation, revocation_in}
use Rattle.core_world.specs.Steps.{is_idle, known_hit, call_after, seen_before}
use Rattle.core_world.specs.Trees.StepTree.{StepTree, done, unreachable, step}
use Rattle.core_world.proofs.Naming.{same_named}
use Rattle.core_bias.specs.Revoking.{IsNextStore, Leads}
use Rattle.core_bias.proofs.RevocationRuns.{steps_next}
use Rattle.core_law.specs.Logic.{Heap, Was, Does}
use Rattle.core_steps.proofs.Looks.{looks_standing}
use Rattle.core_steps.proofs.bias.SeenAtSafepoint.{HasSeen, seen_more, SeenSince, since_more, goes_on_seeing}
use Rattle.core_steps.proofs.OwnParts.{KeepsOwn, keeps_own_all, own_of, same_own}
use Rattle.core_steps.proofs.bias.BiasRules.{goes_on_revoking_rule}
use Rattle.core_steps.proofs.ClassSteps.{class_from}
use Rattle.core_steps.proofs.bias.RevocationTrees.{IsLooked, IsStored, InMiddle}
use Rattle.core_steps.proofs.safepoint.SafepointLooks.{Reaches, going}
use Rattle.core_law.proofs.SafepointSights.{found_formed, is_as_seen}
use Rattle.core_world.proofs.There.{IsFormed}
use Rattle.core_steps.proofs.Trees.{answers, hitting}

-- no class word is stored
pub stored_apart : (o : ℕ) (at : WordId) → IsStored at → same_name (id.Class o) at ≡ false
stored_apart o (id.Prototype a) h = refl
stored_apart o (id.LastBulk a) h = refl
stored_apart o (id.Mark a) h = refl
stored_apart o (id.Displaced u p) h = refl
stored_apart o _ h = absurd h

-- the parts of what a thread knows that a revocation leaves
pub record Leaves (e : CallContext) (k l : ThreadView) : Type 0 where
  pub own : KeepsOwn (own_of k) (own_of l)
  pub open own use *
  pub running : l.running ≡ k.running
  pub reached : l.reached ≡ k.reached
  pub moving : l.moving ≡ k.moving
  pub mine : e.unfinished ≡ l.unfinished
  pub check : e.check ≡ l.checking

pub leaves_all : (e : CallContext) (k l m : ThreadView) → Leaves e k l → Leaves e l m → Leaves e k m
leaves_all e k l m x y = record {
  own = keeps_own_all (own_of k) (own_of l) (own_of m) x.own y.own;
  running = y.running ∙ x.running;
  reached = y.reached ∙ x.reached;
  moving = y.moving ∙ x.moving;
  mine = y.mine;
  check = y.check;
}

-- ONE REVOCATION, by this thread
pub record OneRevocation : Type 0 where
  pub heap : Heap
  pub call : CallContext
  pub revocation : Revocation
  pub thread : ℕ

module _ (this : OneRevocation) where
  open this use {heap, call as e, revocation as b, thread as me}

  abbrev T : StepTree RevocationOutcome
  T = revoke_at_safepoint_steps heap.shape me e b

  abbrev pub then_known : StepPlan → ℕ → ThreadView → ThreadView
  then_known p n k = known_hit heap.shape heap.start p n k

  abbrev looking : WordId → StepPlan
  looking at = load_plan e (revocation_stage b) at

  abbrev storing : WordId → ℕ → StepPlan
  storing at word = with_stage (revocation_stage b) (store e at word)

  -- a load or a store of a revocation leaves those parts, and is the newest of its steps at the safepoint
  pub record Adds (p : StepPlan) (n : ℕ) (k : ThreadView) : Type 0 where
    pub leaves : Leaves e k (then_known p n k)
    pub seen_at_safepoint : (then_known p n k).seen_at_safepoint ≡ record { plan = p; found = n } ∷ k.seen_at_safepoint
    pub seen : (then_known p n k).seen ≡ record { plan = p; found = n } ∷ seen_before heap.shape k

  -- what is known after them, where the word is none that its thread keeps an account of
  abbrev plainly_known : StepPlan → ℕ → ThreadView → ThreadView
  plainly_known p n k =
      let step : StepMade = record { plan = p; found = n } in
      record k {
        stage = p.stage;
        unfinished = e.unfinished;
        checking = e.check;
        seen = step ∷ seen_before heap.shape k;
        seen_at_safepoint = step ∷ k.seen_at_safepoint;
        steps = step ∷ k.steps;
        call = call_after heap.shape heap.start p n k;
      }

  plainly_adds : (p : StepPlan) (n : ℕ) (k : ThreadView) → then_known p n k ≡ plainly_known p n k → Adds p n k
  plainly_adds p n k same = record {
    leaves = subst (Leaves e k) (sym same) (record {
      own = same_own _;
      running = refl;
      reached = refl;
      moving = refl;
      mine = refl;
      check = refl;
    });
    seen_at_safepoint = ap (λ l. l.seen_at_safepoint) same;
    seen = ap (λ l. l.seen) same;
  }

  pub look_adds : (stage : Stage) (at : WordId) → IsLooked at → (n : ℕ) (k : ThreadView) → Adds (load_plan e stage at) n k
  look_adds stage (id.Prototype a) h n k = plainly_adds (load_plan e stage (id.Prototype a)) n k refl
  look_adds stage (id.Revocations a) h n k = plainly_adds (load_plan e stage (id.Revocations a)) n k refl
  look_adds stage (id.LastBulk a) h n k = plainly_adds (load_plan e stage (id.LastBulk a)) n k refl
  look_adds stage (id.Mark a) h n k = plainly_adds (load_plan e stage (id.Mark a)) n k refl
  look_adds stage (id.Hold u p) h n k = plainly_adds (load_plan e stage (id.Hold u p)) n k refl
  look_adds stage (id.Class a) h n k = plainly_adds (load_plan e stage (id.Class a)) n k refl
  look_adds stage _ h n k = absurd h

  store_adds : (at : WordId) (word : ℕ) → IsStored at → (n : ℕ) (k : ThreadView) → Adds (storing at word) n k
  store_adds (id.Prototype a) word h n k = plainly_adds (storing (id.Prototype a) word) n k refl
  store_adds (id.LastBulk a) word h n k = plainly_adds (storing (id.LastBulk a) word) n k refl
  store_adds (id.Mark a) word h n k = plainly_adds (storing (id.Mark a) word) n k refl
  store_adds (id.Displaced u p) word h n k = plainly_adds (storing (id.Displaced u p) word) n k refl
  store_adds _ word h n k = absurd h

  pub number_of : (k0 k : ThreadView) → Reaches me k0 e → Leaves e k0 k → k.thread ≡ me
  number_of k0 k r x = ap (λ z. z.thread) x.local ∙ r.number

  -- FROM A REACHED SAFEPOINT, where the thread knew k0 and came to see that c is its object's class
  module _ (k0 : ThreadView) (c : ℕ) where
    -- after the first store, with the steps ms since, and this tree left to do
    pub record Revokes (k : ThreadView) (ms : List StepMade) (d : StepTree RevocationOutcome) : Type 0 where
      pub leaves : Leaves e k0 k
      pub stage : k.stage ≡ revocation_stage b
      pub seen_at_safepoint : k.seen_at_safepoint ≡ ms ++ k0.seen_at_safepoint
      pub path : Leads T ms d
      pub mark : HasSeen (id.Mark b.object) k.seen_at_safepoint
      pub class : SawClass heap.shape k.seen_at_safepoint b.object c
      pub prototype : HasSeen (id.Prototype c) k.seen_at_safepoint
      pub since : SeenSince k.seen k.seen_at_safepoint

    -- all its stores are made, and it has come to this answer
    abbrev pub MadeAll : RevocationOutcome → ThreadView → Type 0
    MadeAll a l = (ms : List StepMade) × Revokes l ms (done a)

    then_revokes : (p : StepPlan) (n : ℕ) (f : ℕ → StepTree RevocationOutcome) (k : ThreadView) (ms : List StepMade)
        → is_idle heap.shape k ≡ false → Revokes k ms (step p f) → Adds p n k
        → p.stage ≡ revocation_stage b → SawClass heap.shape (record { plan = p; found = n } ∷ k.seen_at_safepoint) b.object c
        → Revokes (then_known p n k) (record { plan = p; found = n } ∷ ms) (f n)
    then_revokes p n f k ms going x a at class =
        let m : StepMade = record { plan = p; found = n } in
        record {
          leaves = leaves_all e k0 k (then_known p n k) x.leaves a.leaves;
          stage = at;
          seen_at_safepoint = a.seen_at_safepoint ∙ ap (λ z. m ∷ z) x.seen_at_safepoint;
          path = (f, x.path, refl);
          mark = subst (HasSeen (id.Mark b.object)) (sym a.seen_at_safepoint) (seen_more (id.Mark b.object) m k.seen_at_safepoint x.mark);
          class = subst (λ z. SawClass heap.shape z b.object c) (sym a.seen_at_safepoint) class;
          prototype = subst (HasSeen (id.Prototype c)) (sym a.seen_at_safepoint) (seen_more (id.Prototype c) m k.seen_at_safepoint x.prototype);
          since = subst (λ z. SeenSince (then_known p n k).seen z) (sym a.seen_at_safepoint)
              (subst (λ z. SeenSince z (m ∷ k.seen_at_safepoint)) (ap (λ z. m ∷ z) (sym (goes_on_seeing heap.shape k going)) ∙ sym a.seen)
              (since_more m k.seen k.seen_at_safepoint x.since));
        }

    -- a load finds the class word as the thread saw it before
    class_still : (at : WordId) (n : ℕ) (k : ThreadView) → k.reached ≡ true → Was heap (looking at) k n → SawClass heap.shape k.seen_at_safepoint b.object c
        → SawClass heap.shape (record { plan = looking at; found = n } ∷ k.seen_at_safepoint) b.object c
    class_still at n k reached was = by_test (nat_lt b.object heap.shape.declared)
      where
        by_name : (z : Bool) → same_name (id.Class b.object) at ≡ z → last_seen (id.Class b.object) k.seen_at_safepoint ≡ Some (c + 1)
            → cond z (Some n) (last_seen (id.Class b.object) k.seen_at_safepoint) ≡ Some (c + 1)
        by_name true same h = ap Some (sym was.found ∙ ap was.stands.world.words (sym (same_named (id.Class b.object) at same))
            ∙ is_as_seen heap k was.stands reached (id.Class b.object) (c + 1) h)
        by_name false other h = h

        by_test : (z : Bool) → SawClassIf z heap.shape k.seen_at_safepoint b.object c
            → SawClassIf z heap.shape (record { plan = looking at; found = n } ∷ k.seen_at_safepoint) b.object c
        by_test true h = h
        by_test false h = by_name (same_name (id.Class b.object) at) refl h

  -- where it has stored nothing yet
  module _ (k0 : ThreadView) (r : Reaches me k0 e) (unwritten : writes_in k0.seen_at_safepoint ≡ []) (c : ℕ) where
    abbrev Q : Bool → RevocationOutcome → ThreadView → Type 0
    Q f a l = (f ≡ false) × MadeAll k0 c a l

    by_look : (at : WordId) (f : ℕ → StepTree RevocationOutcome) (k : ThreadView) (ms : List StepMade) → IsLooked at → IsIn heap.shape at
        → Revokes k0 c k ms (step (looking at) f)
        → ((n : ℕ) (l : ThreadView) (ms : List StepMade) → IsFormed heap.shape at n → Revokes k0 c l ms (f n) → Does heap false (f n) l Q)
        → Does heap false (step (looking at) f) k Q
    by_look at f k ms h there x go =
        hitting heap false (looking at) f k Q (λ n. refl)
        (λ i. looks_standing heap k e (revocation_stage b) at (x.leaves.reached ∙ r.reached) (x.leaves.running ∙ r.stopped) (sym x.stage)
        x.leaves.check x.leaves.mine (λ v. there))
        (λ n i was. go n (then_known (looking at) n k) (record { plan = looking at; found = n } ∷ ms) (found_formed heap k at n refl was)
        (then_revokes k0 c (looking at) n f k ms i x (look_adds (revocation_stage b) at h n k) refl
        (class_still k0 c at n k (x.leaves.reached ∙ r.reached) was x.class)))

    by_store : (at : WordId) (word : ℕ) (f : ℕ → StepTree RevocationOutcome) (k : ThreadView) (ms : List StepMade) → IsStored at → IsIn heap.shape at
        → Revokes k0 c k ms (step (storing at word) f)
        → ((n : ℕ) (l : ThreadView) (ms : List StepMade) → IsFormed heap.shape at n → Revokes k0 c l ms (f n) → Does heap false (f n) l Q)
        → Does heap false (step (storing at word) f) k Q
    by_store at word f k ms h there x go =
        hitting heap false (storing at word) f k Q (λ n. refl)
        (λ i. goes_on_revoking_rule heap k e b at word (λ v. there) (λ v. record {
          reached = x.leaves.reached ∙ r.reached;
          its_revocation = ap revocation_in x.stage;
          store = record {
            next = subst (λ t. IsNextStore heap.shape t b k.seen_at_safepoint at word) (sym (number_of k0 k r x.leaves))
                (subst (λ z. IsNextStore heap.shape me b z at word) (sym x.seen_at_safepoint)
                (steps_next heap.shape me e b ms k0.seen_at_safepoint unwritten (storing at word) f word x.path refl));
            goes_on = x.leaves.mine;
            check = x.leaves.check;
          };
        }))
        (λ n i was. go n (then_known (storing at word) n k) (record { plan = storing at word; found = n } ∷ ms) (found_formed heap k at n refl was)
        (then_revokes k0 c (storing at word) n f k ms i x (store_adds at word h n k) refl
        (class_from heap.shape k.seen_at_safepoint (record { plan = storing at word; found = n } ∷ k.seen_at_safepoint) b.object c
        (ap (λ (z : Bool). cond z (Some word) (last_seen (id.Class b.object) k.seen_at_safepoint)) (stored_apart b.object at h)) x.class)))

    pub middle_does : (d : StepTree RevocationOutcome) (k : ThreadView) (ms : List StepMade) → InMiddle heap.shape e b d
        → Revokes k0 c k ms d → Does heap false d k Q
    middle_does (done a) k ms h x = answers heap false a k Q (refl, (ms, x))
    middle_does unreachable k ms h x = absurd h
    middle_does (step p f) k ms h x = elim h.0 [
      | inl a ↦
          subst (λ z. Does heap false (step z f) k Q) (sym a.3)
          (by_look a.0 f k ms a.1 a.2 (subst (λ z. Revokes k0 c k ms (step z f)) a.3 x)
          (λ n l ms formed y. middle_does (f n) l ms (h.1 n (subst (λ (z : StepPlan). IsFormed heap.shape z.at n) (sym a.3) formed)) y))
      | inr a ↦
          subst (λ z. Does heap false (step z f) k Q) (sym a.4)
          (by_store a.0 a.1 f k ms a.2 a.3 (subst (λ z. Revokes k0 c k ms (step z f)) a.4 x)
          (λ n l ms formed y. middle_does (f n) l ms (h.1 n (subst (λ (z : StepPlan). IsFormed heap.shape z.at n) (sym a.4) formed)) y))
    ]
