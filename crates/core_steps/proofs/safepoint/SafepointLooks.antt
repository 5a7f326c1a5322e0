-- A thread that looks at words of the heap at its reached safepoint; and a loop over threads.
use Rattle.std.proofs.Common.{◌≡◌, ℕ, zero, suc, ◌+◌, ◌||◌, ◌&&◌, ◌∙◌, Bool, true, false, cond, List, [], ◌∷◌, refl, sym, ap, ◌<◌, ◌≤◌, arith}
use Rattle.core_world.specs.declared.act.Act.TheVariants.{Load}
use Rattle.core_world.specs.declared.word_id.WordId.{WordId}
use Rattle.core_world.specs.declared.word_id.WordId.TheVariants as id
use Rattle.core_world.specs.declared.stage.Stage.TheVariants.{Settled}
use Rattle.core_world.specs.Threads.ThreadView.{ThreadView}
use Rattle.core_world.specs.Trees.Plans.{CallContext, load}
use Rattle.core_world.specs.Clauses.Safepoints.{ends}
use Rattle.core_world.specs.Trees.StepTree.{StepTree, done, unreachable, step, each_from, ◌>>=◌}
use Rattle.core_world.specs.Words.Forms.{is_still}
use Rattle.core_world.proofs.ActsLook.{runs_load}
use Rattle.core_steps.proofs.OwnParts.{still_carries, load_keeps_own}
use Rattle.core_steps.proofs.Looks.{looks_standing}
use Rattle.core_steps.proofs.Resting.{Carries}
use Rattle.core_world.specs.Steps.{known_hit, reached_after, seen_at_safepoint_before}
use Rattle.core_world.specs.There.{IsIn}
use Rattle.core_law.specs.Logic.{Heap, SoundWorldWith, Keeps, Does}
use Rattle.core_law.proofs.SafepointSights.{Seeing, seeing_all, seeing_itself}
use Rattle.core_steps.proofs.Trees.{answers, follows}

-- a thread whose safepoint is reached, in the middle of nothing, that works for this call
pub record Reaches (me : ℕ) (k : ThreadView) (e : CallContext) : Type 0 where
  pub number : k.thread ≡ me
  pub reached : k.reached ≡ true
  pub stopped : k.running ≡ false
  pub calm : k.stage ≡ Settled
  pub check : e.check ≡ k.checking
  pub mine : e.unfinished ≡ k.unfinished
  pub live : ends k.log ≡ false
  pub carries : Carries k.moving k.log k.wait k.holds k.shots e.unfinished

-- a load there leaves the safepoint reached,
pub stays_reached : (at : WordId) (word : ℕ) (k : ThreadView) → k.reached ≡ true → reached_after at Load word k ≡ true
stays_reached id.Safepoint word k reached = ap (λ b. b || (k.requesting && is_still word)) reached
stays_reached _ word k reached = reached

-- and forgets nothing
pub stood_kept : (at : WordId) (k : ThreadView) → k.reached ≡ true → seen_at_safepoint_before at Load k ≡ k.seen_at_safepoint
stood_kept id.Safepoint k reached = ap (λ (b : Bool). cond b k.seen_at_safepoint []) reached
stood_kept _ k reached = refl

module _ (heap : Heap) where
  -- it keeps the world so, and the thread stands there still
  pub keeps_look : (me : ℕ) (e : CallContext) (at : WordId) (k : ThreadView)
      → Reaches me k e → (SoundWorldWith heap k → IsIn heap.shape at) → Keeps heap (load e at) k
  keeps_look me e at k r there = looks_standing heap k e Settled at r.reached r.stopped (sym r.calm) r.check r.mine there

  pub reaches_on : (me : ℕ) (e : CallContext) (at : WordId) (n : ℕ) (k : ThreadView)
      → Reaches me k e → Reaches me (known_hit heap.shape heap.start (load e at) n k) e
  reaches_on me e at n k r = record {
    number = r.number;
    reached = stays_reached at n k r.reached;
    stopped = runs_load at n k ∙ r.stopped;
    calm = refl;
    check = refl;
    mine = refl;
    live = r.live;
    carries = still_carries k (known_hit heap.shape heap.start (load e at) n k) (load_keeps_own heap e Settled at n k) refl r.carries;
  }

  -- where the first is to go on with the same flag
  pub going : {A B : Type 0} (d : StepTree A) (g : A → StepTree B) (k : ThreadView) (R : Bool → B → ThreadView → Type 0)
      → Does heap false d k (λ b a l. Does heap false (g a) l R) → Does heap false (d >>= g) k R
  going (done a) g k R h = h.by
  going unreachable g k R h = absurd h.by
  going (step p f) g k R h = record { by = (h.by.0, λ n i was. (going (f n) g _ R (record { by = h.by.1 n i was })).by) }

  -- A loop: what one turn finds is a fact of its number and answer, which stays.
  module _ {A : Type 0} (f : ℕ → StepTree A) (Stays : ThreadView → Type 0) (Fact : ℕ → A → ThreadView → Type 0)
      (more : (i : ℕ) (a : A) (k l : ThreadView) → Seeing k l → Fact i a k → Fact i a l)
      (most : ℕ) (turn : (i : ℕ) (k : ThreadView) → i < most → Stays k → Does heap false (f i) k (λ b a l. Stays l × Seeing k l × Fact i a l)) where
    abbrev pub Facts : ℕ → ℕ → List A → ThreadView → Type 0
    Facts i zero [] l = Unit {0}
    Facts i zero (a ∷ xs) l = ⊥
    Facts i (suc n) [] l = ⊥
    Facts i (suc n) (a ∷ xs) l = Fact i a l × Facts (i + 1) n xs l

    pub each_does : (i n : ℕ) (k : ThreadView) → i + n ≤ most → Stays k → Does heap false (each_from i n f) k (λ b xs l. Stays l × Seeing k l × Facts i n xs l)
    each_does i zero k few stays = answers heap false _ k _ (stays, seeing_itself k, tt)
    each_does i (suc n) k few stays =
        going (f i) _ k _ (follows heap false _ k _ _ (turn i k (omega (arith, few)) stays) (λ b a l x.
        going (each_from (i + 1) n f) _ l _ (follows heap false _ l _ _ (each_does (i + 1) n l (omega (arith, few)) x.0) (λ c xs m y.
        answers heap false _ m _ (y.0, seeing_all k l m x.1 y.1, (more i a l m y.1 x.2, y.2))))))
