-- After the last store of a revocation a look ends it: what the object's words tell then, and what the thread's steps have to be for that.
use Rattle.std.proofs.Common.{◌≡◌, ℕ, ◌++◌, Bool, true, false, None, Some, refl, sym, subst}
use Rattle.core_world.specs.declared.word_id.WordId.{WordId}
use Rattle.core_world.specs.Threads.ThreadView.{ThreadView, Still}
use Rattle.core_world.specs.Threads.Stages.{Revocation, revocation_in}
use Rattle.core_world.specs.Trees.BiasSteps.{stage_after}
use Rattle.core_world.specs.Trees.Plans.{CallContext, load_plan}
use Rattle.core_world.specs.Trees.RevocationSteps.{RevocationOutcome, revoke_at_safepoint_steps}
use Rattle.core_world.specs.Trees.StepTree.{done}
use Rattle.core_world.specs.There.{IsIn}
use Rattle.core_world.specs.Words.Names.{class_by}
use Rattle.core_bias.specs.Revoking.{AreAllStores, Leads, TellsBias}
use Rattle.core_bias.proofs.NewBias.{answer_tells}
use Rattle.core_bias.proofs.RevocationRuns.{steps_all}
use Rattle.core_law.specs.Logic.{Heap, SoundWorldWith, Keeps}
use Rattle.core_law.proofs.Standing.{home, away, valid_here}
use Rattle.core_made.specs.Steps.{SparesAbsent}
use Rattle.core_steps.specs.Deflated.{HasRevoked}
use Rattle.core_steps.proofs.bias.BiasRules.{later_looks_rule}

pub unrevoking_after : (took : Bool) (o : ℕ) → revocation_in (stage_after took o) ≡ None
unrevoking_after true o = refl
unrevoking_after false o = refl

module _ (heap : Heap) (k : ThreadView) (e : CallContext) (b : Revocation)
    (a : RevocationOutcome) (x : HasRevoked heap.shape k e b a) (reached : k.reached ≡ true) where
  -- what its steps answered is whether the object's words have the bias pattern
  pub after_tells : (v : SoundWorldWith heap k) → TellsBias k.thread b.object (class_by heap.shape v.world.words b.object) a.took v.world.words
  after_tells v =
      let steps = x.steps in
      home heap k v (λ s y. TellsBias k.thread b.object (class_by s v.world.words b.object) a.took v.world.words)
      (answer_tells v.world v.objects k.thread e b steps.0 steps.1 a (away heap k v (λ s y. y.reached ≡ true) reached)
      (away heap k v (λ s y. revocation_in y.stage ≡ Some b) x.its_revocation)
      (away heap k v (λ s y. y.seen_at_safepoint ≡ steps.0 ++ steps.1) steps.2) steps.3
      (away heap k v (λ s y. Leads (revoke_at_safepoint_steps s k.thread e b) steps.0 (done a)) steps.4) (valid_here heap k v))

  pub after_keeps : k.moving ≡ Still → e.check ≡ k.checking → e.unfinished ≡ k.unfinished → (at : WordId)
      → ((there : ℕ → Bool) (found : ℕ) → SparesAbsent there at found found) → (SoundWorldWith heap k → IsIn heap.shape at)
      → Keeps heap (load_plan e (stage_after a.took b.object) at) k
  after_keeps still check goes_on at spares there = later_looks_rule heap k e b a.took at spares there (λ v. record {
    ends = record {
      reached = reached;
      its_revocation = x.its_revocation;
      still = still;
      all = let steps = x.steps in subst (λ z. AreAllStores heap.shape k.thread b z)
          (sym steps.2) (steps_all heap.shape k.thread e b steps.0 steps.1 steps.3 a steps.4);
      goes_on = goes_on;
    };
    check = check;
    since = x.since;
  }) (λ v. after_tells v)
