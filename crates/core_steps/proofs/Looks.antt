-- Loads that are looks: of a thread that runs, at a word that is none of a monitor; of a thread whose safepoint is reached, at any word; and of any
-- thread in the middle of nothing, at the safepoint word.
use Rattle.std.proofs.Common.{◌≡◌, true, false, None, refl, sym, inl}
use Rattle.core_world.specs.Looking.{IsLook, MayLook}
use Rattle.core_world.specs.declared.stage.Stage.{Stage}
use Rattle.core_world.specs.declared.stage.Stage.TheVariants.{Settled}
use Rattle.core_world.specs.declared.word_id.WordId.{WordId}
use Rattle.core_world.specs.declared.word_id.WordId.TheVariants.{Safepoint}
use Rattle.core_world.specs.There.{IsIn}
use Rattle.core_world.specs.Threads.ThreadView.{ThreadView}
use Rattle.core_world.specs.Trees.Plans.{CallContext, load, load_plan}
use Rattle.core_world.specs.Words.Names.{its_monitor}
use Rattle.core_locks.specs.Knowing.{GoesOn}
use Rattle.core_locks.proofs.LookOn.{may_look, may_look_safe}
use Rattle.core_law.proofs.Standing.{away, inside}
use Rattle.core_law.specs.Logic.{Heap, SoundWorldWith, Keeps}
use Rattle.core_steps.proofs.FairLooks.{Sees, sees_reached, look_whole}
use Rattle.core_steps.proofs.FairSteps.{Begins}

module _ (heap : Heap) (k : ThreadView) (e : CallContext) (stage : Stage) (at : WordId) where
  pub looks_where : stage ≡ k.stage → e.check ≡ k.checking → GoesOn k e → MayLook k at → (SoundWorldWith heap k → IsIn heap.shape at)
      → Begins heap.shape k e.unfinished → Sees heap.shape k at → Keeps heap (load_plan e stage at) k
  looks_where stands check goes_on may there begins sees = record {
    there = λ v. (there v, tt);
    exact = λ v. tt;
    by = λ v. record {
      objects = v.objects;
      is =
          look_whole v.world v.objects k.thread (inside heap k v) (load_plan e stage at) (away heap k v (λ s y. IsLook y (load_plan e stage at)) look)
          (away heap k v (λ s y. Begins s y e.unfinished) begins) (away heap k v (λ s y. Sees s y at) sees) v.valid;
    };
  }
    where
      look : IsLook k (load_plan e stage at)
      look = record { act = refl; note = refl; own = refl; stage = stands; check = check; after = goes_on; may = may }

  pub looks_running : its_monitor at ≡ None → k.running ≡ true → stage ≡ k.stage → e.check ≡ k.checking → GoesOn k e
      → (SoundWorldWith heap k → IsIn heap.shape at) → Begins heap.shape k e.unfinished → Sees heap.shape k at → Keeps heap (load_plan e stage at) k
  looks_running none runs stands check goes_on there begins sees =
      looks_where stands check goes_on (may_look k at (inl runs) (λ m is. absurd (cc (none, is)))) there begins sees

  pub looks_standing : k.reached ≡ true → k.running ≡ false → stage ≡ k.stage → e.check ≡ k.checking → e.unfinished ≡ k.unfinished
      → (SoundWorldWith heap k → IsIn heap.shape at) → Keeps heap (load_plan e stage at) k
  looks_standing reached stopped stands check mine there = looks_where stands check (inl mine)
      (record { outside = λ runs free. absurd (cc (reached, free)); found = λ runs m is. absurd (cc (stopped, runs)) })
      there (inl mine) (sees_reached heap.shape k at reached)

pub looks_safe : (heap : Heap) (k : ThreadView) (e : CallContext) → k.stage ≡ Settled → e.check ≡ k.checking → GoesOn k e
    → Begins heap.shape k e.unfinished → Keeps heap (load e Safepoint) k
looks_safe heap k e calm check goes_on begins =
    looks_where heap k e Settled Safepoint (sym calm) check goes_on (may_look_safe k) (λ v. tt) begins tt
