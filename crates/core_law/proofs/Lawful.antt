-- What a sound world says of its calls, and what each call that begins well says of its steps.
use Rattle.std.proofs.Common.{◌≡◌, ℕ, ◌<◌, true, false, refl, sym, subst}
use Rattle.core_world.specs.declared.plan.StepPlan.{StepPlan}
use Rattle.core_world.specs.Threads.AtRest.{AtRest}
use Rattle.core_world.specs.Due.{IsNext}
use Rattle.core_world.specs.Threads.ThreadView.{ThreadView}
use Rattle.core_world.specs.Steps.{rest_of_call, is_idle, world_after}
use Rattle.core_world.specs.Trees.StepTree.{StepTree, done, unreachable, step}
use Rattle.core_world.specs.There.{IsThere}
use Rattle.core_world.specs.World.{World}
use Rattle.core_law.specs.Begins.{BeginsWell}
use Rattle.core_law.specs.Logic.{Heap, heap_of}
use Rattle.core_law.specs.Sound.{Finishes, Sound}
use Rattle.core_law.specs.Reached.{IsReachable, moves, is_reachable}
use Rattle.core_law.proofs.NextSteps.{stepping_sound, stepping_there, idle_rests}

-- OF A SOUND WORLD. Nothing of its calls says that no valid world comes there.
pub sound_comes : (w : World) (t : ℕ) → Sound w → t < w.shape.threads → is_reachable (rest_of_call w.shape (w.known t)) ≡ true
sound_comes w t sound within = cases (rest_of_call w.shape (w.known t)) (sound.goes_on t within)
  where
    cases : (d : StepTree (Unit {0})) → Finishes (heap_of w) false d (w.known t) → is_reachable d ≡ true
    cases (done a) f = refl
    cases unreachable f = absurd f.by
    cases (step p g) f = refl

-- a thread whose call is over is at rest
pub sound_rests : (w : World) (t : ℕ) → Sound w → t < w.shape.threads → is_idle w.shape (w.known t) ≡ true → AtRest w.shape (w.known t)
sound_rests w t sound within over = idle_rests (heap_of w) (w.known t) (sound.goes_on t within) over

-- A STEP, by what its thread knows, of a call that begins well
module _ (heap : Heap) (k : ThreadView) (p : StepPlan) (next : IsNext heap.shape heap.start heap.biasing k p) (w : World) (is_of : heap_of w ≡ heap)
    (knows : w.known k.thread ≡ k) (within : k.thread < heap.shape.threads) where
  within_there : k.thread < w.shape.threads
  within_there = subst (λ (z : Heap). k.thread < z.shape.threads) (sym is_of) within

  next_there : IsNext w.shape w.start w.biasing (w.known k.thread) p
  next_there =
      subst (λ (z : Heap). IsNext z.shape z.start z.biasing (w.known k.thread) p) (sym is_of)
      (subst (λ y. IsNext heap.shape heap.start heap.biasing y p) (sym knows) next)

  begins_there : BeginsWell heap p.task → BeginsWell (heap_of w) p.task
  begins_there begins = subst (λ z. BeginsWell z p.task) (sym is_of) begins

  -- it leads from a sound world to a sound one,
  pub known_step_sound : BeginsWell heap p.task → Sound w → Sound (world_after p k.thread w)
  known_step_sound begins sound = stepping_sound w k.thread p within_there (begins_there begins) sound next_there

  -- it is on a word of the heap,
  pub known_step_there : BeginsWell heap p.task → Sound w → IsThere heap.shape k p
  known_step_there begins sound =
      subst (λ (z : Heap). IsThere z.shape k p) is_of
      (subst (λ y. IsThere w.shape y p) knows (stepping_there w k.thread p within_there (begins_there begins) sound next_there))

  -- and leads on from a world to which the heap comes to one
  pub known_step_comes : IsReachable heap w → IsReachable heap (world_after p k.thread w)
  known_step_comes c = moves w k.thread p c within_there next_there
