-- The recursions are found and raised, and then the record gets its word.
use Rattle.std.proofs.Common.{◌+◌, refl, sym, ap, ◌∙◌, arith}
use Rattle.plain_monitor.specs.declared.entry.Path.TheVariants.{MonitorAgain}
use Rattle.core_world.specs.declared.act.Act.TheVariants.{Load, Store}
use Rattle.core_world.specs.declared.stage.Stage.TheVariants.{RecursionsRaised, Settled}
use Rattle.core_world.specs.declared.word_id.WordId.TheVariants.{Recursions}
use Rattle.core_world.specs.Steps.{known_after}
use Rattle.core_world.specs.Threads.ThreadView.{Local, local_of}
use Rattle.core_world.specs.Trees.MonitorSteps.{raise_count_plan, record_steps}
use Rattle.core_world.specs.Trees.Operations.{answer}
use Rattle.core_world.specs.Trees.Plans.{load}
use Rattle.core_world.specs.Trees.StepTree.{step, ◌>>=◌}
use Rattle.heap_table.specs.Ruled.{heap_in, only}
use Rattle.heap_table.specs.inner.Amid.{Goes, IsStartOf, again_enter, hold_end, recorded_end}
use Rattle.heap_table.proofs.HoldEnds.{recorded_ended, not_entering}
use Rattle.heap_table.proofs.Late.{amid_by, did_step, keeps_start, late_as, may_step, made_step, follow_quiet, start_after, start_since}
use Rattle.heap_table.proofs.RecursionRoom.{recursion_room}
use Rattle.heap_table.proofs.StepsLeft.{part_of}
use Rattle.heap_table.proofs.quick_enters.seize_again.Goals as goal
use Rattle.heap_table.proofs.quick_enters.seize_again.Goals.{After-quiet-first, After-step_in_monitor-recursions, After-quiet-second, After-step_in_monitor}

pub step_in_monitor-recursions-requires-clause-may : goal.step_in_monitor-recursions-requires-clause-may
step_in_monitor-recursions-requires-clause-may c = may_step c.requires.amid.late c.requires.amid.its c.quiet-first.ensures refl

-- THE RECURSIONS rise.
pub overflow_add-raised : goal.overflow_add-raised
overflow_add-raised c =
    let a = c.requires.amid in
    let k = only c.args.seat.now.me.0 in
    let e = c.args.call.now in
    let n = c.step_in_monitor-recursions.result in
    let h = a.heap in
    let p = record a.begun { known = k } in
    let did = did_step a.late a.its c.quiet-first.ensures refl refl c.step_in_monitor-recursions.ensures.stepped in
    let room = recursion_room h p (record p { known = known_after h.heap.shape h.heap.start (load e (Recursions c.args.monitor)) n k }) e c.args.object
    c.args.monitor n a.late.left.heap (part_of answer a.late.left) did in
    omega (arith, room)

abbrev recursions_of : After-quiet-second → After-step_in_monitor-recursions
recursions_of c = c.before

raising : (c : After-quiet-second) → let e = c.args.call.now in let k = only c.args.seat.now.me.0 in
    Goes c.args.setting.now e c.args.mirror.now k (again_enter e (local_of k) c.args.object c.args.monitor)
    (only c.step_in_monitor-recursions.new.seat.me.0)
    (step (raise_count_plan e c.args.object c.args.monitor c.step_in_monitor-recursions.result)
    (λ _. record_steps e (RecursionsRaised c.args.object) (local_of k) c.args.object MonitorAgain >>= answer))
raising c = λ h o d its late.
    made_step late its c.quiet-first.ensures refl refl refl c.step_in_monitor-recursions.ensures.stepped c.step_in_monitor-recursions.ensures.seat.1
    (follow_quiet h.heap.shape h.heap.start c.args.call.now Settled (Recursions c.args.monitor) Load c.step_in_monitor-recursions.result _ _ refl refl
    (λ l. refl) (λ l. refl) (λ l. refl) late.mirrors)

pub step_in_monitor-requires-clause-may : goal.step_in_monitor-requires-clause-may
step_in_monitor-requires-clause-may c =
    let z = (goal.at.step_in_monitor-requires-clause-may c).After-quiet-second in
    let a = c.requires.amid in
    may_step (raising z a.heap a.begun a.due a.its a.late) a.its c.quiet-second.ensures refl

-- The record gets its word.
abbrev second_of : After-step_in_monitor → After-quiet-second
second_of c = c.before.before.before

keeps : (c : After-step_in_monitor) → IsStartOf (only c.args.seat.now.me.0) (only c.step_in_monitor.new.seat.me.0)
keeps c =
    let b = heap_in c.args.setting.now in
    let same = keeps_start b c.step_in_monitor-recursions.result c.quiet-first.ensures c.step_in_monitor-recursions.ensures.seat.1
    (record { local = refl; kept = refl }) in
    start_after b c.step_in_monitor.result same c.quiet-second.ensures c.step_in_monitor.ensures.seat.1 (record { local = refl; kept = refl })

raised : (c : After-step_in_monitor) → let e = c.args.call.now in let k = only c.args.seat.now.me.0 in let j = only c.step_in_monitor.new.seat.me.0 in
    Goes c.args.setting.now e c.args.mirror.now k (again_enter e (local_of k) c.args.object c.args.monitor)
    j (recorded_end e (RecursionsRaised c.args.object) (local_of j) c.args.object 3 MonitorAgain)
raised c = λ h o d its late.
    let e = c.args.call.now in
    let k = only c.args.seat.now.me.0 in
    let here = raising (second_of c) h o d its late in
    late_as (made_step here its c.quiet-second.ensures refl refl refl c.step_in_monitor.ensures.stepped c.step_in_monitor.ensures.seat.1
    (follow_quiet h.heap.shape h.heap.start e (RecursionsRaised c.args.object) (Recursions c.args.monitor) (Store (c.step_in_monitor-recursions.result + 1))
    c.step_in_monitor.result _ _ refl refl (λ l. refl) (λ l. refl) (λ l. refl) here.mirrors))
    (recorded_ended e (local_of k) c.args.object MonitorAgain (not_entering _ _ late.mirrors c.requires.may.waits) (RecursionsRaised c.args.object) 3
    ∙ ap (λ (l : Local). recorded_end e (RecursionsRaised c.args.object) l c.args.object 3 MonitorAgain) (sym (keeps c).local))

pub displace-requires-clause-amid : goal.displace-requires-clause-amid
displace-requires-clause-amid c = amid_by c.requires.amid (raised (goal.at.displace-requires-clause-amid c).After-step_in_monitor)

pub returns-clause-start : goal.returns-clause-start
returns-clause-start c = start_since (keeps (goal.at.returns-clause-start c).After-step_in_monitor) c.displace.ensures.start

pub returns-clause-leads : goal.returns-clause-leads
returns-clause-leads c = λ h o d its late.
    let z = (goal.at.returns-clause-leads c).After-step_in_monitor in
    late_as (c.displace.ensures.leads h o d its (raised z h o d its late))
    (ap (λ (l : Local). hold_end c.args.call.now l c.args.object MonitorAgain) (keeps z).local)
