-- A deflation at a reached safepoint: what its thread carries and leaves at each of its looks, and what stays of all that it saw there before.
use Rattle.std.proofs.Common.{◌≡◌, ◌⊎◌, ℕ, ◌<◌, Bool, true, false, cond, length, Some, None, refl, sym, ap, ◌∙◌, inl, inr}
use Rattle.core_world.specs.declared.word_id.WordId.{WordId}
use Rattle.core_world.specs.declared.word_id.WordId.TheVariants as word_id
use Rattle.core_world.specs.declared.stage.Stage.{Stage}
use Rattle.core_world.specs.declared.act.Act.TheVariants.{Load}
use Rattle.core_world.specs.Words.Forms.{monitor_in, is_biased}
use Rattle.core_world.specs.Words.Shape.{Shape, monitor_count}
use Rattle.core_world.specs.Threads.ThreadView.{ThreadView, Still, last_seen}
use Rattle.core_world.specs.Steps.{known_hit, seen_at_safepoint_before}
use Rattle.core_world.specs.There.{IsIn}
use Rattle.core_world.specs.Trees.StepTree.{StepTree, ask, ◌>>=◌}
use Rattle.core_world.specs.Trees.Plans.{CallContext, load_plan}
use Rattle.core_world.specs.Threads.Stages.{revocation_in}
use Rattle.core_world.specs.Words.Names.{same_name}
use Rattle.core_world.proofs.ActsLook.{runs_load}
use Rattle.core_world.proofs.Naming.{same_named, same_as_itself}
use Rattle.core_locks.specs.SafepointLaws.{SeesEnded, SeesHeldUp}
use Rattle.core_locks.specs.DeflationLaws.{Saw}
use Rattle.core_law.specs.Logic.{Heap, SoundWorldWith, Keeps, Was, Does}
use Rattle.core_law.proofs.Wholes.{All}
use Rattle.core_law.proofs.SafepointSights.{Seeing, seeing_all, seeing_itself, is_as_seen}
use Rattle.core_steps.specs.Deflated.{GaveBack, SawInUse, is_taken_by}
use Rattle.core_steps.proofs.Looks.{looks_standing}
use Rattle.core_steps.proofs.deflation.Ringed.{IsOut, out_on}
use Rattle.core_steps.proofs.LawRules.{standing_in_all}
use Rattle.core_steps.proofs.safepoint.SafepointLooks.{stays_reached, stood_kept}
use Rattle.core_steps.proofs.Trees.{hitting}
use Rattle.core_steps.proofs.OwnParts.{KeepsOwn, own_of, keeps_own_all, load_keeps_own}

-- A LOOK forgets no word, and gives no monitor back.
pub record Looked (k l : ThreadView) : Type 0 where
  pub sights : Seeing k l
  pub back : (m : ℕ) → is_taken_by l.seen_at_safepoint m ≡ is_taken_by k.seen_at_safepoint m

pub looked_all : (k l m : ThreadView) → Looked k l → Looked l m → Looked k m
looked_all k l m a b = record { sights = seeing_all k l m a.sights b.sights; back = λ i. b.back i ∙ a.back i }

pub looked_itself : (k : ThreadView) → Looked k k
looked_itself k = record { sights = seeing_itself k; back = λ i. refl }

abbrev pub Held : ThreadView → ℕ → Type 0
Held k u = SeesEnded k u ⊎ SeesHeldUp k u

module _ (shape : Shape) where
  -- it stands in the ring, and its words are 0
  pub record Clears (k : ThreadView) (m : ℕ) : Type 0 where
    pub out : IsOut shape k m
    pub owner : Saw k (word_id.Owner m) 0
    pub recursions : Saw k (word_id.Recursions m) 0
    pub header : Saw k (word_id.Header m) 0
    pub object : Saw k (word_id.Object m) 0

  pub clears_on : (k l : ThreadView) (m : ℕ) → Seeing k l → Clears k m → Clears l m
  clears_on k l m s x = record {
    out = out_on shape k l m s.saw x.out;
    owner = s.saw (word_id.Owner m) 0 x.owner;
    recursions = s.saw (word_id.Recursions m) 0 x.recursions;
    header = s.saw (word_id.Header m) 0 x.header;
    object = s.saw (word_id.Object m) 0 x.object;
  }

  -- The monitor m was given back, and stands in the ring; or the mark of the object in its object word doesn't name it, or it is in use.
  abbrev pub Settles : ThreadView → ℕ → Type 0
  Settles k m =
      (GaveBack k m × Clears k m)
      ⊎ ((o v : ℕ) × Saw k (word_id.Object m) o × Saw k (word_id.Mark o) v × (monitor_in v ≡ Some m → SawInUse shape k o m))

  -- of the monitors that a heap has, where anything was looked at
  abbrev pub AllSettled : ThreadView → Type 0
  AllSettled l = 0 < length shape.objects → (m : ℕ) → m < monitor_count shape → Settles l m

  -- WHAT STAYS of what was seen: whoever had ended or was held up is so still, each prototype and each class word is what it was, and
  -- so is each mark, but for such as had no bias pattern and have none; and no monitor that wasn't idle is so now
  pub record Holding (k l : ThreadView) : Type 0 where
    pub held : (u : ℕ) → u < shape.threads → Held k u → Held l u
    pub marks : (i v : ℕ) → last_seen (word_id.Mark i) k.seen_at_safepoint ≡ Some v
        → (u : ℕ) × (last_seen (word_id.Mark i) l.seen_at_safepoint ≡ Some u) × ((u ≡ v) ⊎ ((is_biased v ≡ false) × (is_biased u ≡ false)))
    pub prototypes : (i v : ℕ) → last_seen (word_id.Prototype i) k.seen_at_safepoint ≡ Some v → last_seen (word_id.Prototype i) l.seen_at_safepoint ≡ Some v
    pub classes : (i v : ℕ) → last_seen (word_id.Class i) k.seen_at_safepoint ≡ Some v → last_seen (word_id.Class i) l.seen_at_safepoint ≡ Some v
    pub settled : (m : ℕ) → Settles k m → Settles l m
    -- what was given back since is clear, and what was clear is
    pub fresh : (m : ℕ) → GaveBack l m → GaveBack k m ⊎ Clears l m
    pub clear : (m : ℕ) → Clears k m → Clears l m

  pub holding_all : (k l m : ThreadView) → Holding k l → Holding l m → Holding k m
  holding_all k l m a b = record {
    held = λ u h x. b.held u h (a.held u h x);
    marks = λ i v h.
        let x = a.marks i v h in
        let y = b.marks i x.0 x.1 in (
          y.0,
          y.1,
          elim x.2 [
            | inl p ↦ elim y.2 [
              | inl q ↦ inl (q ∙ p)
              | inr q ↦ inr (ap is_biased (sym p) ∙ q.0, q.1)
            ]
            | inr p ↦ inr (
              p.0,
              elim y.2 [
                | inl q ↦ ap is_biased q ∙ p.1
                | inr q ↦ q.1
              ],
            )
          ],
        );
    prototypes = λ i v h. b.prototypes i v (a.prototypes i v h);
    classes = λ i v h. b.classes i v (a.classes i v h);
    settled = λ i h. b.settled i (a.settled i h);
    fresh = λ i h. elim (b.fresh i h) [
      | inl x ↦ elim (a.fresh i x) [
        | inl y ↦ inl y
        | inr y ↦ inr (b.clear i y)
      ]
      | inr x ↦ inr x
    ];
    clear = λ i h. b.clear i (a.clear i h);
  }

  in_use_on : (k l : ThreadView) (o m : ℕ) → Seeing k l → SawInUse shape k o m → SawInUse shape l o m
  in_use_on k l o m s h = elim h [
    | inl a ↦ inl (a.0, s.saw (word_id.Owner m) a.0 a.1, a.2)
    | inr a ↦ inr (a.0, a.1, a.2, s.saw (word_id.Waiting a.0) a.1 a.3, a.4)
  ]

  pub looked_holds : (k l : ThreadView) → Looked k l → Holding k l
  looked_holds k l x = let s = x.sights in record {
    held = λ u h x. elim x [
      | inl a ↦ inl (a.0, s.saw (word_id.Waiting u) a.0 a.1, a.2)
      | inr a ↦ inr (
        a.0,
        a.1,
        s.saw (word_id.Waiting u) a.1 a.2,
        elim a.3 [
          | inl b ↦ inl b
          | inr b ↦ let c = b.1 in inr (b.0, (c.0, c.1, c.2, s.saw (word_id.Mark a.0) c.0 c.3, c.4, s.saw (word_id.Owner c.1) c.2 c.5, c.6))
        ],
      )
    ];
    marks = λ i v h. (v, s.saw (word_id.Mark i) v h, inl refl);
    prototypes = λ i v h. s.saw (word_id.Prototype i) v h;
    classes = λ i v h. s.saw (word_id.Class i) v h;
    settled = λ m h. elim h [
      | inl a ↦ inl (x.back m ∙ a.0, clears_on k l m s a.1)
      | inr a ↦ inr (a.0, a.1, s.saw (word_id.Object m) a.0 a.2, s.saw (word_id.Mark a.0) a.1 a.3, λ q. in_use_on k l a.0 m s (a.4 q))
    ];
    fresh = λ m h. inl (sym (x.back m) ∙ h);
    clear = λ m h. clears_on k l m s h;
  }

-- ONE DEFLATION, by a thread that knew this before. It stands at this stage, in which it revokes nothing: in the middle of nothing, or about to take a
-- bias that it gave itself.
pub record OneDeflation : Type 0 where
  pub heap : Heap
  pub call : CallContext
  pub before : ThreadView
  pub stage : Stage
  pub plain : revocation_in stage ≡ None

module _ (this : OneDeflation) where
  open this use {heap, call as e, before as k0, stage as st, plain}

  -- its safepoint is reached, it works for this call and has nothing in hand of the ring; and what its operation goes by is as it was
  pub record Idles (k : ThreadView) : Type 0 where
    pub reached : k.reached ≡ true
    pub stopped : k.running ≡ false
    pub stands : k.stage ≡ st
    pub check : e.check ≡ k.checking
    pub mine : e.unfinished ≡ k.unfinished
    pub still : k.moving ≡ Still
    pub own : KeepsOwn (own_of k0) (own_of k)
    pub open own use *

  -- and every clause holds there, and the law of biases
  pub all_at : (k : ThreadView) (v : SoundWorldWith heap k) → k.reached ≡ true → k.stage ≡ st → All v.world v.objects
  all_at k v reached at = standing_in_all heap k v reached (ap revocation_in at ∙ plain)

  keeps_look_at : (at : WordId) (k : ThreadView) → Idles k → (SoundWorldWith heap k → IsIn heap.shape at) → Keeps heap (load_plan e st at) k
  keeps_look_at at k r there = looks_standing heap k e st at r.reached r.stopped (sym r.stands) r.check r.mine there

  pub saw_at : (at : WordId) (k : ThreadView) (n : ℕ) → seen_at_safepoint_before at Load k ≡ k.seen_at_safepoint
      → last_seen at (known_hit heap.shape heap.start (load_plan e st at) n k).seen_at_safepoint ≡ Some n
  saw_at at k n kept = ap (λ (b : Bool). cond b (Some n) (last_seen at (seen_at_safepoint_before at Load k))) (same_as_itself at)

  still_seen_at : (at : WordId) (k : ThreadView) (n : ℕ) → k.reached ≡ true → seen_at_safepoint_before at Load k ≡ k.seen_at_safepoint
      → Was heap (load_plan e st at) k n
      → Seeing k (known_hit heap.shape heap.start (load_plan e st at) n k)
  still_seen_at at k n reached kept was = record { saw = λ m v saw. cases m v saw (same_name m at) refl }
    where
      cases : (m : WordId) (v : ℕ) → last_seen m k.seen_at_safepoint ≡ Some v → (b : Bool) → same_name m at ≡ b
          → cond b (Some n) (last_seen m (seen_at_safepoint_before at Load k)) ≡ Some v
      cases m v saw true same =
          let is : m ≡ at = same_named m at same in
          ap Some (sym was.found ∙ ap was.stands.world.words (sym is) ∙ is_as_seen heap k was.stands reached m v saw)
      cases m v saw false other = ap (last_seen m) kept ∙ saw

  pub still_looked_at : (at : WordId) (k : ThreadView) (n : ℕ) → k.reached ≡ true → seen_at_safepoint_before at Load k ≡ k.seen_at_safepoint
      → Was heap (load_plan e st at) k n
      → Looked k (known_hit heap.shape heap.start (load_plan e st at) n k)
  still_looked_at at k n reached kept was = record { sights = still_seen_at at k n reached kept was; back = λ m. ap (λ z. is_taken_by z m) kept }

  pub idles_on : (at : WordId) (n : ℕ) (k : ThreadView) → Idles k → Idles (known_hit heap.shape heap.start (load_plan e st at) n k)
  idles_on at n k x = record {
    reached = stays_reached at n k x.reached;
    stopped = runs_load at n k ∙ x.stopped;
    stands = refl;
    check = refl;
    mine = refl;
    still = x.still;
    own = keeps_own_all (own_of k0) (own_of k) _ x.own (load_keeps_own heap e st at n k);
  }

  -- a look, and what follows by the word that it finds
  pub look : {A : Type 0} (at : WordId) (f : ℕ → StepTree A) (k : ThreadView) (Q : Bool → A → ThreadView → Type 0)
      → Idles k → (SoundWorldWith heap k → IsIn heap.shape at)
      → ((n : ℕ) (l : ThreadView) → Idles l → Looked k l → last_seen at l.seen_at_safepoint ≡ Some n
      → Was heap (load_plan e st at) k n → Does heap false (f n) l Q)
      → Does heap false (ask (load_plan e st at) >>= f) k Q
  look at f k Q x there then_so =
      let kept = stood_kept at k x.reached in
      hitting heap false (load_plan e st at) f k Q (λ n. refl) (λ i. keeps_look_at at k x there) (λ n i was.
      then_so n (known_hit heap.shape heap.start (load_plan e st at) n k) (idles_on at n k x)
      (still_looked_at at k n x.reached kept was) (saw_at at k n kept) was)
