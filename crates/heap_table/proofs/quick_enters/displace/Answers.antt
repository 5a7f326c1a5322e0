-- The displaced word is stored.
use Rattle.std.proofs.Common.{◌≡◌, refl, sym, ap, ◌∙◌}
use Rattle.core_world.specs.declared.act.Act.TheVariants.{Store}
use Rattle.core_world.specs.declared.word_id.WordId.TheVariants.{Displaced}
use Rattle.core_world.specs.Trees.LockSteps.{displace_plan}
use Rattle.core_world.specs.Trees.Plans.{free_place, quiet_plan, with_stage}
use Rattle.core_world.specs.declared.plan.StepPlan.{StepPlan}
use Rattle.heap_table.specs.Layout.{place_of}
use Rattle.heap_table.specs.Ruled.{heap_in, only}
use Rattle.heap_table.proofs.Late.{follow_quiet, keeps_start, made_step, may_step, record_late}
use Rattle.heap_table.proofs.quick_enters.displace.Goals as goal
use Rattle.heap_table.proofs.quick_enters.displace.Goals.{After-quiet-first, After-step_at}

first_plan : (c : After-quiet-first) → let k = only c.args.seat.now.me.0 in
    c.quiet-first.result ≡ displace_plan c.args.call.now c.args.stage k.thread (free_place k.holds) c.args.displaced
first_plan c =
    let shows = c.requires.amid.late.mirrors in
    let place = sym c.requires.place ∙ ap free_place (sym shows.holds) in
    c.quiet-first.ensures ∙ λ i. with_stage c.args.stage (quiet_plan c.args.call.now (Displaced (sym shows.thread i) (place i)) (Store c.args.displaced))

pub step_at-requires-clause-may : goal.step_at-requires-clause-may
step_at-requires-clause-may c =
    let z = (goal.at.step_at-requires-clause-may c).After-quiet-first in
    may_step c.requires.amid.late c.requires.amid.its (first_plan z) refl

pub step_at-requires-clause-place : goal.step_at-requires-clause-place
step_at-requires-clause-place c =
    let a = c.requires.amid in
    c.displaced_at-record_at.ensures ∙ record_late a.late a.its c.args.mirror.now.holds.used
    ∙ ap (λ (p : StepPlan). place_of c.args.setting.now.shape p.at) (sym c.quiet-first.ensures)

pub returns-clause-start : goal.returns-clause-start
returns-clause-start c =
    let z = (goal.at.returns-clause-start c).After-step_at in
    keeps_start (heap_in c.args.setting.now) c.step_at.result (first_plan z.before.before.before.before) c.step_at.ensures.seat.1
    (record { local = refl; kept = refl })

pub returns-clause-leads : goal.returns-clause-leads
returns-clause-leads c = λ h o d its late.
    let k = only c.args.seat.now.me.0 in
    let plan = first_plan (goal.at.returns-clause-leads c).After-step_at.before.before.before.before in
    made_step late its plan refl refl refl c.step_at.ensures.stepped c.step_at.ensures.seat.1
    (follow_quiet h.heap.shape h.heap.start c.args.call.now c.args.stage (Displaced k.thread (free_place k.holds)) (Store c.args.displaced)
    c.step_at.result _ _ refl refl (λ l. refl) (λ l. refl) (λ l. refl) late.mirrors)
