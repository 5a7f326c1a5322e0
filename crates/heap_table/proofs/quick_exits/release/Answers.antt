-- The owner word is cleared, which logs Exit.
use Rattle.std.proofs.Common.{refl, sym, ap, ◌∙◌, ◌≡◌, subst}
use Rattle.plain_monitor.specs.declared.entry.Entry.TheVariants as entry
use Rattle.core_world.specs.declared.act.Act.TheVariants.{Store}
use Rattle.core_world.specs.declared.stage.Stage.TheVariants.{Exits}
use Rattle.core_world.specs.Threads.ThreadView.{ThreadView}
use Rattle.core_world.specs.declared.word_id.WordId.TheVariants.{Owner}
use Rattle.core_world.specs.Trees.MonitorSteps.{free_plan}
use Rattle.core_world.specs.Trees.Plans.{logging_plan, top_place, with_stage}
use Rattle.heap_table.specs.Ruled.{only}
use Rattle.heap_table.specs.inner.Leaving.{IsUnnoted}
use Rattle.heap_table.proofs.Knows.{same_thread}
use Rattle.heap_table.proofs.Late.{gone, knows_gone, may_step}
use Rattle.heap_table.proofs.Mirrored.{mirrors_by}
use Rattle.heap_table.proofs.quick_exits.release.Goals as goal
use Rattle.heap_table.proofs.quick_exits.release.Goals.{After-logging-first, After-step_in_monitor}

first_plan : (c : After-logging-first) → c.logging-first.result
    ≡ free_plan c.args.call.now c.args.object c.args.monitor (top_place c.args.object (only c.args.seat.now.me.0).holds)
first_plan c =
    let place = c.requires.place ∙ ap (top_place c.args.object) (sym c.requires.amid.late.mirrors.holds) in
    c.logging-first.ensures ∙ λ i. with_stage (Exits c.args.object (place i))
    (logging_plan (entry.Exit c.args.object) c.args.call.now (Owner c.args.monitor) (Store 0))

pub step_in_monitor-requires-clause-may : goal.step_in_monitor-requires-clause-may
step_in_monitor-requires-clause-may c =
    let a = c.requires.amid in may_step a.late a.its (first_plan (goal.at.step_in_monitor-requires-clause-may c).After-logging-first) refl

-- It logged the exit.
pub returns-clause-leads : goal.returns-clause-leads
returns-clause-leads c = λ h p d its late.
    let e = c.args.call.now in
    let o = c.args.object in
    let k = only c.args.seat.now.me.0 in
    let plan = first_plan (goal.at.returns-clause-leads c).After-step_in_monitor.before.before.before in
    let n = c.step_in_monitor.result in
    let told = c.step_in_monitor.ensures.seat.1 in
    record {
      left = gone late.left its plan refl refl c.step_in_monitor.ensures.stepped told;
      home = late.home;
      own = ap (λ (j : ThreadView). j.thread) (knows_gone late.left its plan refl n told) ∙ same_thread h.heap.shape h.heap.start (free_plan e o c.args.monitor (top_place o k.holds)) n k ∙ late.mirrors.thread;
      thread = late.mirrors.thread;
      holds = late.mirrors.holds;
      shown = subst (IsUnnoted h.heap e o c.args.mirror.now) (sym (knows_gone late.left its plan refl n told))
          (record { before = k; shown = late.mirrors; log = refl; told = λ n noted f. mirrors_by refl f });
    }
