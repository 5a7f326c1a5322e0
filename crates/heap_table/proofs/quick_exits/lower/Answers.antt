-- The recursions are lowered.
use Rattle.std.proofs.Common.{refl, ◌-◌, ◌≡◌}
use Rattle.core_world.specs.declared.act.Act.TheVariants.{Store}
use Rattle.core_world.specs.declared.stage.Stage.TheVariants.{RecursionsLowered}
use Rattle.core_world.specs.declared.word_id.WordId.TheVariants.{Recursions}
use Rattle.core_world.specs.Threads.ThreadView.{local_of}
use Rattle.core_world.specs.Trees.MonitorSteps.{lower_count_plan}
use Rattle.heap_table.specs.Ruled.{only}
use Rattle.heap_table.specs.declared.quick_exits.ExitPart.TheVariants as parts
use Rattle.heap_table.proofs.Late.{follow_quiet, made_step, may_step}
use Rattle.heap_table.proofs.ExitEnds.{held_part}
use Rattle.heap_table.proofs.quick_exits.lower.Goals as goal
use Rattle.heap_table.proofs.quick_exits.lower.Goals.{After-quiet-first, After-step_in_monitor}

first_plan : (c : After-quiet-first) → c.quiet-first.result ≡ lower_count_plan c.args.call.now c.args.object c.args.monitor c.args.recursions
first_plan c = c.quiet-first.ensures

pub step_in_monitor-requires-clause-may : goal.step_in_monitor-requires-clause-may
step_in_monitor-requires-clause-may c =
    let a = c.requires.amid in may_step a.late a.its (first_plan (goal.at.step_in_monitor-requires-clause-may c).After-quiet-first) refl

pub returns-clause-leads : goal.returns-clause-leads
returns-clause-leads c = λ h p d its late.
    let k = only c.args.seat.now.me.0 in
    let plan = first_plan (goal.at.returns-clause-leads c).After-step_in_monitor.before.before.before in
    held_part (local_of k) parts.Held late.mirrors.thread late.mirrors.holds (λ j g shows. shows) refl
    (made_step late its plan refl refl refl c.step_in_monitor.ensures.stepped c.step_in_monitor.ensures.seat.1
    (follow_quiet h.heap.shape h.heap.start c.args.call.now (RecursionsLowered c.args.object) (Recursions c.args.monitor) (Store (c.args.recursions - 1))
    c.step_in_monitor.result _ _ refl refl (λ l. refl) (λ l. refl) (λ l. refl) late.mirrors))
