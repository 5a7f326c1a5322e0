-- What a deflation leaves, wherever it may begin: where its thread revokes nothing, and after the last store of a revocation.
use Rattle.std.proofs.Common.{◌≡◌, ℕ, ◌==◌, ◌<◌, eq-eqb, false, length, None, refl, sym, ap, ◌∙◌, subst, arith, inl, inr}
use Rattle.core_world.specs.declared.word_id.WordId.TheVariants as id
use Rattle.core_world.specs.declared.stage.Stage.{Stage}
use Rattle.core_world.specs.Threads.ThreadView.{ThreadView}
use Rattle.core_world.specs.Threads.Stages.{Revocation, revocation_in}
use Rattle.core_world.specs.Trees.BiasSteps.{stage_after}
use Rattle.core_world.specs.Trees.DeflateSteps.{deflate_steps}
use Rattle.core_world.specs.Trees.Plans.{CallContext}
use Rattle.core_world.specs.Trees.RevocationSteps.{RevocationOutcome}
use Rattle.core_world.specs.Words.Shape.{monitor_count}
use Rattle.core_world.proofs.KnowledgeParts.{by_equal}
use Rattle.core_law.specs.Logic.{Heap, Does}
use Rattle.core_steps.specs.Deflated.{HasRevoked, MayDeflate, IsSettled, NamedAreInUse, GivenBackAreClean}
use Rattle.core_steps.proofs.OwnParts.{same_own}
use Rattle.core_steps.proofs.bias.AfterRevocations.{unrevoking_after, after_keeps}
use Rattle.core_steps.proofs.deflation.DeflationLooks.{OneDeflation, Idles, Holding, AllSettled}
use Rattle.core_steps.proofs.deflation.Deflations.{settled_of, deflate_settles, deflate_leaves, deflate_cleans, deflate_ends}
use Rattle.core_steps.proofs.Trees.{answers, chooses, follows}

module _ (heap : Heap) (e : CallContext) (k : ThreadView) (stage : Stage) (may : MayDeflate heap.shape k e stage) where
  pub record Leaves (l : ThreadView) : Type 0 where
    pub in_use : NamedAreInUse heap l
    pub settled : 0 < length heap.shape.objects → (m : ℕ) → m < monitor_count heap.shape → IsSettled heap l m
    pub clean : GivenBackAreClean heap k l

  abbrev made_at : (st : Stage) → revocation_in st ≡ None → OneDeflation
  made_at st plain = record { heap = heap; call = e; before = k; stage = st; plain = plain }

  leaves_by : (st : Stage) (plain : revocation_in st ≡ None) (l : ThreadView) → Idles (made_at st plain) l
      → Holding heap.shape k l → AllSettled heap.shape l → Leaves l
  leaves_by st plain l x y z = record {
    in_use = deflate_leaves (made_at st plain) l x z;
    settled = λ some m h. settled_of (made_at st plain) l m x (z some m h);
    clean = deflate_cleans (made_at st plain) k l x y;
  }

  -- in a heap without objects it makes no step
  without_objects : (st : Stage) → length heap.shape.objects ≡ 0 → Does heap false (deflate_steps heap.shape e st) k (λ b a l. Leaves l)
  without_objects st none =
      chooses heap false (length heap.shape.objects == 0) _ _ k _ (λ yes. answers heap false _ k _ (record {
        in_use = λ v o m object named. absurd (omega (arith, none, object));
        settled = λ some. absurd (omega (arith, none, some));
        clean = λ m back unless. absurd (unless back);
      }))
      (λ no. let yes = eq-eqb (length heap.shape.objects) 0 none in absurd (cc (yes, no)))

  after_does : (b : Revocation) (a : RevocationOutcome) → HasRevoked heap.shape k e b a → 0 < length heap.shape.objects
      → Does heap false (deflate_steps heap.shape e (stage_after a.took b.object)) k (λ f u l. Leaves l)
  after_does b a x some =
      let st = stage_after a.took b.object in
      let plain = unrevoking_after a.took b.object in
      follows heap false _ k _ _ (deflate_ends (made_at st plain) k some (record {
        keeps = after_keeps heap k e b a x may.reached may.still may.check may.goes_on (id.Object 0) (λ there n. tt) (λ v. omega (arith, some));
        reached = may.reached;
        idles = λ n. record {
          reached = may.reached;
          stopped = may.stopped;
          stands = refl;
          check = refl;
          mine = refl;
          still = may.still;
          own = same_own _;
        };
      })) (λ f u l y. leaves_by st plain l y.0 y.1 y.2)

  pub deflation_leaves : Does heap false (deflate_steps heap.shape e stage) k (λ b a l. Leaves l)
  deflation_leaves = elim may.begins [
    | inl a ↦
        let plain : revocation_in stage ≡ None = ap revocation_in (sym a.1) ∙ a.0 in
        follows heap false _ k _ _ (deflate_settles (made_at stage plain) k (record {
          reached = may.reached;
          stopped = may.stopped;
          stands = a.1;
          check = may.check;
          mine = may.goes_on;
          still = may.still;
          own = same_own _;
        })) (λ f u l y. leaves_by stage plain l y.0 y.1 y.2)
    | inr a ↦ subst (λ st. Does heap false (deflate_steps heap.shape e st) k (λ f u l. Leaves l)) a.3
        (by_equal (length heap.shape.objects) 0 (λ none. without_objects (stage_after a.1.took a.0.object) none)
        (λ d. after_does a.0 a.1 a.2 (omega (arith, d))))
  ]
