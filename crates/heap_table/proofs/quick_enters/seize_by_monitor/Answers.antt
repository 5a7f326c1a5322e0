-- The owner word is exchanged, and then the record gets its word.
use Rattle.std.proofs.Common.{◌≡◌, false, Option, Some, refl, sym, ap, ◌∙◌, eq-eqb, ne_eqb}
use Rattle.mark_word.specs.declared.owner.OwnerForm.{OwnerForm}
use Rattle.mark_word.specs.declared.owner.OwnerForm.TheVariants.{ByThread, Free}
use Rattle.mark_word.specs.Owner.{owner_of, read_owner}
use Rattle.plain_monitor.specs.declared.entry.Path.TheVariants.{MonitorFirst}
use Rattle.core_world.specs.declared.act.Act.TheVariants.{CompareExchange}
use Rattle.core_world.specs.declared.stage.Stage.TheVariants.{MonitorAcquired}
use Rattle.core_world.specs.declared.word_id.WordId.TheVariants.{Owner}
use Rattle.core_world.specs.Threads.ThreadView.{Local, local_of}
use Rattle.core_world.specs.Trees.MonitorSteps.{grab_plan, monitor_enter_at}
use Rattle.core_world.specs.Trees.Operations.{answer}
use Rattle.core_world.specs.Trees.Plans.{quiet_plan, with_stage}
use Rattle.core_world.specs.Trees.StepTree.{◌>>=◌}
use Rattle.core_world.specs.Words.Acts.{hits}
use Rattle.heap_table.specs.Ruled.{heap_in, only}
use Rattle.heap_table.specs.inner.Amid.{Goes, IsStartOf, hold_end, monitor_enter, recorded_end}
use Rattle.heap_table.proofs.HoldEnds.{recorded_ended, not_entering}
use Rattle.heap_table.proofs.Late.{amid_by, exchange_keeps, keeps_start, late_as, may_step, made_step, follow_missed, follow_quiet, start_since}
use Rattle.heap_table.proofs.quick_enters.seize_by_monitor.Goals as goal
use Rattle.heap_table.proofs.quick_enters.seize_by_monitor.Goals.{After-quiet-first, After-step_in_monitor-found}

-- THE OWNER WORD is exchanged.
first_plan : (c : After-quiet-first) → c.quiet-first.result ≡ grab_plan c.args.call.now (only c.args.seat.now.me.0).thread c.args.object c.args.monitor
first_plan c =
    let word : c.encode_owner.result ≡ owner_of (ByThread (only c.args.seat.now.me.0).thread) =
    c.encode_owner.ensures ∙ ap (λ t. owner_of (ByThread t)) (sym c.requires.amid.late.mirrors.thread) in
    c.quiet-first.ensures ∙ λ i. with_stage (MonitorAcquired c.args.object)
    (quiet_plan c.args.call.now (Owner c.args.monitor) (CompareExchange 0 (word i)))

pub step_in_monitor-found-requires-clause-may : goal.step_in_monitor-found-requires-clause-may
step_in_monitor-found-requires-clause-may c =
    let z = (goal.at.step_in_monitor-found-requires-clause-may c).After-quiet-first in
    may_step c.requires.amid.late c.requires.amid.its (first_plan z) refl

abbrev first_of : After-step_in_monitor-found → After-quiet-first
first_of c = c.before.before.before

-- what the call took at its beginning is as it was
keeps : (c : After-step_in_monitor-found) → IsStartOf (only c.args.seat.now.me.0) (only c.step_in_monitor-found.new.seat.me.0)
keeps c = keeps_start (heap_in c.args.setting.now) c.step_in_monitor-found.result (first_plan (first_of c)) c.step_in_monitor-found.ensures.seat.1
    (exchange_keeps _ _ (grab_plan c.args.call.now (only c.args.seat.now.me.0).thread c.args.object c.args.monitor) c.step_in_monitor-found.result _
    (record { local = refl; kept = refl }) (record { local = refl; kept = refl }))

-- It missed.
pub returns-then-found-ne0-clause-start : goal.returns-then-found-ne0-clause-start
returns-then-found-ne0-clause-start c = keeps (goal.at.returns-then-found-ne0-clause-start c).After-step_in_monitor-found

pub returns-then-found-ne0-clause-leads : goal.returns-then-found-ne0-clause-leads
returns-then-found-ne0-clause-leads c = λ h o d its late.
    let y = first_of (goal.at.returns-then-found-ne0-clause-leads c).After-step_in_monitor-found in
    let plan = grab_plan c.args.call.now (only c.args.seat.now.me.0).thread c.args.object c.args.monitor in
    let n = c.step_in_monitor-found.result in
    let other : hits plan.act n ≡ false = ne_eqb _ _ c.if-found-ne0.true in
    made_step late its (first_plan y) refl refl refl c.step_in_monitor-found.ensures.stepped c.step_in_monitor-found.ensures.seat.1
    (follow_missed h.heap.shape h.heap.start plan n _ _ other refl late.mirrors)

-- It hit: the record gets its word.
is_free : read_owner 0 ≡ Some Free
unfolding read_owner
is_free = refl

acquired : (c : After-step_in_monitor-found) → c.step_in_monitor-found.result ≡ 0 → let e = c.args.call.now in let k = only c.args.seat.now.me.0 in
    let j = only c.step_in_monitor-found.new.seat.me.0 in
    Goes c.args.setting.now e c.args.mirror.now k (monitor_enter e (local_of k) c.args.object c.args.monitor)
    j (recorded_end e (MonitorAcquired c.args.object) (local_of j) c.args.object 3 MonitorFirst)
acquired c same = λ h o d its late.
    let e = c.args.call.now in
    let k = only c.args.seat.now.me.0 in
    let n = c.step_in_monitor-found.result in
    late_as (made_step late its (first_plan (first_of c)) refl refl refl c.step_in_monitor-found.ensures.stepped c.step_in_monitor-found.ensures.seat.1
    (follow_quiet h.heap.shape h.heap.start e (MonitorAcquired c.args.object) (Owner c.args.monitor) (CompareExchange 0 (owner_of (ByThread k.thread))) n _ _
    (eq-eqb _ _ same) refl (λ l. refl) (λ l. refl) (λ l. refl) late.mirrors))
    (ap (λ (f : Option OwnerForm). monitor_enter_at f e (local_of k) c.args.object c.args.monitor n >>= answer) (ap read_owner same ∙ is_free)
    ∙ recorded_ended e (local_of k) c.args.object MonitorFirst (not_entering _ _ late.mirrors c.requires.may.waits) (MonitorAcquired c.args.object) 3
    ∙ ap (λ (l : Local). recorded_end e (MonitorAcquired c.args.object) l c.args.object 3 MonitorFirst) (sym (keeps c).local))

pub displace-requires-clause-amid : goal.displace-requires-clause-amid
displace-requires-clause-amid c =
    let z = (goal.at.displace-requires-clause-amid c).After-step_in_monitor-found in
    amid_by c.requires.amid (acquired z c.if-found-ne0.false)

pub returns-clause-start : goal.returns-clause-start
returns-clause-start c = start_since (keeps (goal.at.returns-clause-start c).After-step_in_monitor-found) c.displace.ensures.start

pub returns-clause-leads : goal.returns-clause-leads
returns-clause-leads c = λ h o d its late.
    let z = (goal.at.returns-clause-leads c).After-step_in_monitor-found in
    late_as (c.displace.ensures.leads h o d its (acquired z c.if-found-ne0.false h o d its late))
    (ap (λ (l : Local). hold_end c.args.call.now l c.args.object MonitorFirst) (keeps z).local)
