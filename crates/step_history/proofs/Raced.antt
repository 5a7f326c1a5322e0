-- The heap of two rivals comes to a world in which a resume has missed its exchange, by computing.
use Rattle.std.proofs.Common.{◌≡◌, ℕ, List, [], ◌∷◌, length, refl, arith}
use Rattle.mark_word.specs.Safe.{read_safe}
use Rattle.core_world.specs.declared.answer.Progress.TheVariants.{Pending}
use Rattle.core_world.specs.declared.answer.PendingCause.TheVariants.{Raced}
use Rattle.core_world.specs.declared.word_id.WordId.TheVariants.{Safepoint}
use Rattle.core_world.specs.Due.{steps_due}
use Rattle.core_world.specs.Opening.{first_known}
use Rattle.core_world.specs.Steps.{is_idle, world_after}
use Rattle.core_world.specs.Threads.ThreadView.{StepMade, local_of}
use Rattle.core_world.specs.Trees.Calls.{steps_of}
use Rattle.core_world.specs.Trees.Plans.{load}
use Rattle.core_world.specs.Trees.SafepointSteps.{resume_plan, resume_steps, running_too}
use Rattle.core_world.specs.World.{World}
use Rattle.core_calls.specs.Paths.{made}
use Rattle.step_history.specs.Leads.{Leads, stays, goes}
use Rattle.step_history.specs.Overtaken.{IsCallOf}
use Rattle.step_history.specs.Race.{resuming, at_first, seen_by_both, one_runs, other_missed}

abbrev looked : World
looked = world_after (load resuming Safepoint) 0 at_first

abbrev steps : List (ℕ × StepMade)
steps =
    (0, made (resume_plan resuming 0 0) (running_too (read_safe 0) 1)) ∷ (1, made (resume_plan resuming 1 0) 0)
    ∷ (1, made (load resuming Safepoint) 0) ∷ (0, made (load resuming Safepoint) 0) ∷ []

leads_looked : Leads at_first ((0, made (load resuming Safepoint) 0) ∷ []) looked
unfolding steps_due is_idle steps_of
leads_looked = goes [] at_first 0 (load resuming Safepoint) stays (omega arith) refl

leads_seen : Leads at_first ((1, made (load resuming Safepoint) 0) ∷ (0, made (load resuming Safepoint) 0) ∷ []) seen_by_both
unfolding steps_due is_idle steps_of read_safe
leads_seen = goes _ looked 1 (load resuming Safepoint) leads_looked (omega arith) refl

leads_one : Leads at_first ((1, made (resume_plan resuming 1 0) 0)
    ∷ (1, made (load resuming Safepoint) 0) ∷ (0, made (load resuming Safepoint) 0) ∷ []) one_runs
unfolding steps_due is_idle steps_of read_safe
leads_one = goes _ seen_by_both 1 (resume_plan resuming 1 0) leads_seen (omega arith) refl

leads_missed : Leads at_first steps other_missed
unfolding steps_due is_idle steps_of read_safe
leads_missed = goes _ one_runs 0 (resume_plan resuming 0 0) leads_one (omega arith) refl

pub raced : (xs : List (ℕ × StepMade)) × Leads at_first xs other_missed × (length xs ≡ 4)
    × IsCallOf 0 (resume_steps resuming (local_of (first_known 0))) xs (Pending (Raced 0 (running_too (read_safe 0) 1)))
unfolding steps_due is_idle steps_of read_safe
raced = (steps, leads_missed, refl, record { first = at_first; last = other_missed; leads = leads_missed; path = (0, (running_too (read_safe 0) 1, (refl, refl))) })
