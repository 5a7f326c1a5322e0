-- A load of the safepoint word, which changes nothing else.
use Rattle.std.specs.Prelude.{◌≡◌}
use Rattle.core_world.specs.declared.plan.StepPlan.{StepPlan}
use Rattle.core_world.specs.declared.word_id.WordId.TheVariants.{Safepoint}
use Rattle.core_world.specs.Trees.Plans.{load}

abbrev pub IsSafepointLoad : StepPlan → Type 0
IsSafepointLoad p = p ≡ load (record { task = p.task; unfinished = p.after; check = p.check }) Safepoint
