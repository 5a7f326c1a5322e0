-- The thread that may make objects comes to run, and may make one then.
use Rattle.std.proofs.Common.{◌≡◌, ℕ, zero, suc, ◌<◌, ◌≤◌, ◌&&◌, nat_le, true, length, replicate, refl, ap, arith}
use Rattle.std.proofs.lemmas.List.{length-replicate}
use Rattle.std.specs.List.{AllByRecursion}
use Rattle.mark_word.specs.Safe.{read_safe}
use Rattle.plain_monitor.specs.Limits.{most_made, most_slots}
use Rattle.core_world.specs.declared.word_id.WordId.TheVariants.{Safepoint}
use Rattle.core_world.specs.declared.heap_call.HeapCall.TheVariants as task
use Rattle.core_world.specs.Due.{steps_due}
use Rattle.core_world.specs.Opening.{opening}
use Rattle.core_world.specs.Steps.{is_idle}
use Rattle.core_world.specs.Trees.Calls.{may_act, may_begin, steps_of}
use Rattle.core_world.specs.Trees.Plans.{load}
use Rattle.core_world.specs.Trees.SafepointSteps.{resume_plan}
use Rattle.core_world.specs.Words.Shape.{IsInLimits}
use Rattle.core_law.specs.Reached.{IsReachable, opens, moves}
use Rattle.core_steps.specs.SmallWorlds.{resuming}
use Rattle.solo_progress.specs.LeftAlone.{MayCall}
use Rattle.solo_progress.specs.RoomyWorlds.{roomy, roomy_looked, roomy_running}

each_object : (n : ℕ) → AllByRecursion (λ (x : ℕ × ℕ). (x.0 < 1) × (x.1 ≤ most_slots)) (replicate n (0, 0))
each_object zero = tt
each_object (suc n) = ((omega arith, omega arith), each_object n)

objects : length roomy.shape.objects ≡ most_made
objects = length-replicate {A = ℕ × ℕ} most_made (0, 0)

limits : IsInLimits roomy.shape
limits =
    record {
      threads = omega arith;
      classes = omega arith;
      declared = omega (arith, objects);
      objects = omega (arith, objects);
      each = each_object most_made;
    }

comes_looked : IsReachable roomy roomy_looked
unfolding steps_due is_idle steps_of
comes_looked = moves (opening roomy.shape roomy.start roomy.biasing) 0 (load resuming Safepoint) opens (omega arith) refl

comes_running : IsReachable roomy roomy_running
unfolding steps_due is_idle steps_of read_safe
comes_running = moves roomy_looked 0 (resume_plan resuming 0 0) comes_looked (omega arith) refl

idle : is_idle roomy_running.shape (roomy_running.known 0) ≡ true
unfolding is_idle steps_of read_safe
idle = refl

may_create : may_begin roomy_running.shape roomy_running.biasing (roomy_running.known 0) (task.Create 0) ≡ true
unfolding read_safe
may_create = ap (λ (n : ℕ). nat_le most_made n && may_act (roomy_running.known 0)) objects

pub roomy_may : MayCall roomy roomy_running 0 (task.Create 0)
roomy_may = record { limits = limits; reached = comes_running; within = omega arith; idle = idle; may = may_create }
