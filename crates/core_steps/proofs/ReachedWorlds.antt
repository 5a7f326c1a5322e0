-- Each world that a heap comes to is sound.
use Rattle.std.proofs.Common.{◌≡◌, ℕ, ◌<◌, true, refl, sym, subst, inl}
use Rattle.core_world.specs.declared.plan.StepPlan.{StepPlan}
use Rattle.core_world.specs.Threads.AtRest.{AtRest}
use Rattle.core_world.specs.Due.{IsNext}
use Rattle.core_world.specs.Threads.ThreadView.{ThreadView}
use Rattle.core_world.specs.Opening.{opening, first_known}
use Rattle.core_world.specs.Words.Shape.{Shape, IsInLimits}
use Rattle.core_world.specs.Steps.{rest_of_call, world_after}
use Rattle.core_world.specs.There.{IsThere}
use Rattle.core_world.specs.World.{World}
use Rattle.plain_monitor.specs.Objects.{new_objects}
use Rattle.core_world.proofs.OpeningFits.{opening_fits}
use Rattle.core_world.proofs.Readings.{no_told}
use Rattle.core_law.specs.WholeLaw.{WhollyValid}
use Rattle.bias_law.proofs.Opening.{opening_meets}
use Rattle.core_law.specs.Takings.{TakesExactly}
use Rattle.core_law.specs.Logic.{Heap, heap_of}
use Rattle.core_law.specs.Sound.{Sound}
use Rattle.core_law.specs.Reached.{IsReachable, opens, moves, is_reachable}
use Rattle.core_law.proofs.NextSteps.{stepping_sound, stepping_there, stepping_stamps}
use Rattle.core_law.proofs.Lawful as lawful
use Rattle.core_law.proofs.Lawful.{sound_comes}
use Rattle.core_made.proofs.Opening as objects
use Rattle.core_steps.proofs.Resting.{rests}
use Rattle.core_steps.proofs.Table.{calls_begin}

-- THE OPENING WORLD is sound: no call was begun, and every thread is at rest.
first_rests : (s : Shape) (t : ℕ) → AtRest s (first_known t)
first_rests s t = rests s (first_known t) refl refl refl (record {
  still = refl;
  ended = λ h. absurd (cc h);
  place = λ o h. absurd (cc h);
  untold = no_told;
  shots_logged = λ h. refl;
})

pub opening_sound : (heap : Heap) → IsInLimits heap.shape → Sound (opening heap.shape heap.start heap.biasing)
opening_sound heap limits = record {
  valid = record {
    objects = new_objects heap.shape.objects;
    is = inl (
      opening_fits heap.shape heap.start heap.biasing limits,
      record {
        biases = opening_meets heap.shape heap.start heap.biasing;
        made = objects.opening_meets heap.shape heap.start heap.biasing limits;
      },
    );
  };
  goes_on = λ t h. record { by = first_rests heap.shape t };
}

-- THE LAW, for a step of any call; and by what the thread knows: a shared table's rule that its world is sound asks no more of a step than
-- that it is the next one.
pub next_step_sound : (w : World) (t : ℕ) (p : StepPlan) → t < w.shape.threads
    → Sound w → IsNext w.shape w.start w.biasing (w.known t) p → Sound (world_after p t w)
next_step_sound w t p within = stepping_sound w t p within (calls_begin (heap_of w) p.task)

pub known_step_sound : (heap : Heap) (k : ThreadView) (p : StepPlan) → IsNext heap.shape heap.start heap.biasing k p → (w : World) → heap_of w ≡ heap
    → w.known k.thread ≡ k → k.thread < heap.shape.threads → Sound w → Sound (world_after p k.thread w)
known_step_sound heap k p next w is_of knows within = lawful.known_step_sound heap k p next w is_of knows within (calls_begin heap p.task)

-- and the step is on a word of the heap
pub next_step_there : (w : World) (t : ℕ) (p : StepPlan) → t < w.shape.threads → Sound w
    → IsNext w.shape w.start w.biasing (w.known t) p → IsThere w.shape (w.known t) p
next_step_there w t p within = stepping_there w t p within (calls_begin (heap_of w) p.task)

pub known_step_there : (heap : Heap) (k : ThreadView) (p : StepPlan) → IsNext heap.shape heap.start heap.biasing k p → (w : World) → heap_of w ≡ heap
    → w.known k.thread ≡ k → k.thread < heap.shape.threads → Sound w → IsThere heap.shape k p
known_step_there heap k p next w is_of knows within = lawful.known_step_there heap k p next w is_of knows within (calls_begin heap p.task)

-- and stamps a taking as the logs ask for
pub next_step_exact : (w : World) (t : ℕ) (p : StepPlan) → t < w.shape.threads → Sound w → IsNext w.shape w.start w.biasing (w.known t) p → TakesExactly w t p
next_step_exact w t p within = stepping_stamps w t p within (calls_begin (heap_of w) p.task)

-- REACHED WORLDS
-- a sound world of this heap
pub record SoundOf (heap : Heap) (w : World) : Type 0 where
  pub sound : Sound w
  pub is_of : heap_of w ≡ heap

pub comes_sound : (heap : Heap) (w : World) → IsInLimits heap.shape → IsReachable heap w → SoundOf heap w
comes_sound heap w limits opens = record { sound = opening_sound heap limits; is_of = refl }
comes_sound heap w limits (moves v t p before within next) =
    let a = comes_sound heap v limits before in
    record {
      sound = next_step_sound v t p within a.sound next;
      is_of = a.is_of;
    }

pub reached_worlds_sound : (heap : Heap) (w : World) → IsInLimits heap.shape → IsReachable heap w → Sound w
reached_worlds_sound heap w limits c = (comes_sound heap w limits c).sound

-- and in each of them what is left of a call comes somewhere
pub reached_worlds_come : (heap : Heap) (w : World) (t : ℕ) → IsInLimits heap.shape
    → IsReachable heap w → t < heap.shape.threads → is_reachable (rest_of_call w.shape (w.known t)) ≡ true
reached_worlds_come heap w t limits c within =
    let a = comes_sound heap w limits c in
    sound_comes w t a.sound (subst (λ (z : Heap). t < z.shape.threads) (sym a.is_of) within)

pub reached_worlds_valid : (heap : Heap) (w : World) → IsInLimits heap.shape → IsReachable heap w → WhollyValid w
reached_worlds_valid heap w limits c = (reached_worlds_sound heap w limits c).valid
