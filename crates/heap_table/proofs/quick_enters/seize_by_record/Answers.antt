-- The place gets the mark as its displaced word, and then the mark is exchanged for the place.
use Rattle.std.proofs.Common.{◌≡◌, ℕ, ◌==◌, false, true, if◌then◌else◌, refl, sym, ap, ◌∙◌, eq-eqb, ne_eqb}
use Rattle.mark_word.specs.declared.mark.MarkForm.TheVariants.{Locked}
use Rattle.mark_word.specs.Mark.{mark_of}
use Rattle.plain_monitor.specs.declared.entry.Path.TheVariants.{StackFirst}
use Rattle.core_world.specs.declared.act.Act.TheVariants.{CompareExchange, Store}
use Rattle.core_world.specs.declared.answer.PendingCause.TheVariants as why
use Rattle.core_world.specs.declared.stage.Stage.TheVariants.{RecordLocked, Settled}
use Rattle.core_world.specs.declared.word_id.WordId.TheVariants.{Displaced, Mark}
use Rattle.core_world.specs.Threads.ThreadView.{Local, local_of}
use Rattle.core_world.specs.Trees.LockSteps.{displace_plan, seize_plan, hold_steps}
use Rattle.core_world.specs.Trees.Operations.{answer}
use Rattle.core_world.specs.Trees.Plans.{CallContext, done_with, pending_for, free_place, quiet_plan, with_stage}
use Rattle.core_world.specs.Trees.StepTree.{step, ◌>>=◌}
use Rattle.core_world.specs.declared.plan.StepPlan.{StepPlan}
use Rattle.heap_table.specs.Layout.{place_of}
use Rattle.heap_table.specs.Ruled.{heap_in, only}
use Rattle.heap_table.specs.inner.Amid.{EnterTree, Goes, IsStartOf, first_enter}
use Rattle.heap_table.proofs.HoldEnds.{hold_ended, not_entering}
use Rattle.heap_table.proofs.Late.{exchange_keeps, keeps_start, late_as, may_step, made_step, follow_missed, follow_quiet, record_late, start_after}
use Rattle.heap_table.proofs.quick_enters.seize_by_record.Goals as goal
use Rattle.heap_table.proofs.quick_enters.seize_by_record.Goals.{After-quiet-first, After-quiet-second, After-step_at-found}

abbrev seized : CallContext → Local → ℕ → ℕ → ℕ → EnterTree
seized e k o mark found = (if found == mark then hold_steps e k o StackFirst >>= done_with else pending_for (why.Raced mark found)) >>= answer

-- THE RECORD gets its word.
its_place : (c : After-quiet-first) → c.args.mirror.now.holds.used ≡ free_place (only c.args.seat.now.me.0).holds
its_place c = sym c.requires.may.place ∙ ap free_place (sym c.requires.amid.late.mirrors.holds)

its_thread : (c : After-quiet-first) → c.args.mirror.now.thread ≡ (only c.args.seat.now.me.0).thread
its_thread c = sym c.requires.amid.late.mirrors.thread

first_plan : (c : After-quiet-first) → let k = only c.args.seat.now.me.0 in
    c.quiet-first.result ≡ displace_plan c.args.call.now Settled k.thread (free_place k.holds) c.args.mark
first_plan c = c.quiet-first.ensures
    ∙ λ i. with_stage Settled (quiet_plan c.args.call.now (Displaced (its_thread c i) (its_place c i)) (Store c.args.mark))

pub step_at-requires-clause-place : goal.step_at-requires-clause-place
step_at-requires-clause-place c =
    let a = c.requires.amid in
    c.displaced_at-record_at.ensures ∙ record_late a.late a.its c.args.mirror.now.holds.used
    ∙ ap (λ (p : StepPlan). place_of c.args.setting.now.shape p.at) (sym c.quiet-first.ensures)

pub step_at-requires-clause-may : goal.step_at-requires-clause-may
step_at-requires-clause-may c =
    let z = (goal.at.step_at-requires-clause-may c).After-quiet-first in
    may_step c.requires.amid.late c.requires.amid.its (first_plan z) refl

-- THE MARK is exchanged.
abbrev first_of : After-quiet-second → After-quiet-first
first_of c = c.before.before.before.before.before.before.before

seizing : (c : After-quiet-second) → let e = c.args.call.now in let k = only c.args.seat.now.me.0 in
    Goes c.args.setting.now e c.args.mirror.now k (first_enter e (local_of k) c.args.object c.args.mark) (only c.step_at.new.seat.me.0)
    (step (seize_plan e k.thread c.args.object c.args.mark (free_place k.holds)) (seized e (local_of k) c.args.object c.args.mark))
seizing c = λ h o d its late.
    let e = c.args.call.now in
    let k = only c.args.seat.now.me.0 in
    made_step late its (first_plan (first_of c)) refl refl refl c.step_at.ensures.stepped c.step_at.ensures.seat.1
    (follow_quiet h.heap.shape h.heap.start e Settled (Displaced k.thread (free_place k.holds)) (Store c.args.mark) c.step_at.result _ _ refl refl
    (λ l. refl) (λ l. refl) (λ l. refl) late.mirrors)

second_plan : (c : After-quiet-second) → let k = only c.args.seat.now.me.0 in
    c.quiet-second.result ≡ seize_plan c.args.call.now k.thread c.args.object c.args.mark (free_place k.holds)
second_plan c =
    let z = first_of c in
    let k = only c.args.seat.now.me.0 in
    let word : c.encode.result ≡ mark_of (Locked k.thread (free_place k.holds)) =
    c.encode.ensures ∙ λ i. mark_of (Locked (its_thread z i) (its_place z i)) in
    c.quiet-second.ensures ∙ λ i. with_stage (RecordLocked c.args.object (its_place z i))
    (quiet_plan c.args.call.now (Mark c.args.object) (CompareExchange c.args.mark (word i)))

pub step_at-found-requires-clause-may : goal.step_at-found-requires-clause-may
step_at-found-requires-clause-may c =
    let z = (goal.at.step_at-found-requires-clause-may c).After-quiet-second in
    let a = c.requires.amid in
    may_step (seizing z a.heap a.begun a.due a.its a.late) a.its (second_plan z) refl

-- What is left by the mark that was found.
its_plan : (c : After-step_at-found) → let k = only c.args.seat.now.me.0 in
    c.quiet-second.result ≡ seize_plan c.args.call.now k.thread c.args.object c.args.mark (free_place k.holds)
its_plan c = second_plan c.before.before.before

keeps : (c : After-step_at-found) → IsStartOf (only c.args.seat.now.me.0) (only c.step_at-found.new.seat.me.0)
keeps c =
    let b = heap_in c.args.setting.now in
    let k = only c.args.seat.now.me.0 in
    let first = keeps_start b c.step_at.result (first_plan (first_of c.before.before.before)) c.step_at.ensures.seat.1 (record { local = refl; kept = refl }) in
    start_after b c.step_at-found.result first (its_plan c) c.step_at-found.ensures.seat.1 (exchange_keeps _ _
    (seize_plan c.args.call.now k.thread c.args.object c.args.mark (free_place k.holds)) c.step_at-found.result _ (record { local = refl; kept = refl })
    (record { local = refl; kept = refl }))

pub returns-then-found-mark-clause-start : goal.returns-then-found-mark-clause-start
returns-then-found-mark-clause-start c = keeps (goal.at.returns-then-found-mark-clause-start c).After-step_at-found

pub returns-clause-start : goal.returns-clause-start
returns-clause-start c = keeps (goal.at.returns-clause-start c).After-step_at-found

-- It missed.
pub returns-then-found-mark-clause-leads : goal.returns-then-found-mark-clause-leads
returns-then-found-mark-clause-leads c = λ h o d its late.
    let z = (goal.at.returns-then-found-mark-clause-leads c).After-step_at-found in
    let e = c.args.call.now in
    let k = only c.args.seat.now.me.0 in
    let found = c.step_at-found.result in
    let other : (found == c.args.mark) ≡ false = ne_eqb _ _ c.if-found-mark.true in
    let here = seizing z.before.before.before h o d its late in
    late_as (made_step here its (its_plan z) refl refl refl c.step_at-found.ensures.stepped c.step_at-found.ensures.seat.1
    (follow_missed h.heap.shape h.heap.start (seize_plan e k.thread c.args.object c.args.mark (free_place k.holds)) found _ _ other refl here.mirrors))
    (ap (λ b. (if b then hold_steps e (local_of k) c.args.object StackFirst >>= done_with else pending_for (why.Raced c.args.mark found)) >>= answer) other)

-- It hit: the hold is left to take.
pub returns-clause-leads : goal.returns-clause-leads
returns-clause-leads c = λ h o d its late.
    let z = (goal.at.returns-clause-leads c).After-step_at-found in
    let e = c.args.call.now in
    let k = only c.args.seat.now.me.0 in
    let found = c.step_at-found.result in
    let hit : (found == c.args.mark) ≡ true = eq-eqb _ _ c.if-found-mark.false in
    let here = seizing z.before.before.before h o d its late in
    late_as (made_step here its (its_plan z) refl refl refl c.step_at-found.ensures.stepped c.step_at-found.ensures.seat.1
    (follow_quiet h.heap.shape h.heap.start e (RecordLocked c.args.object (free_place k.holds)) (Mark c.args.object)
    (CompareExchange c.args.mark (mark_of (Locked k.thread (free_place k.holds)))) found _ _ hit refl (λ l. refl) (λ l. refl) (λ l. refl) here.mirrors))
    (ap (λ b. (if b then hold_steps e (local_of k) c.args.object StackFirst >>= done_with else pending_for (why.Raced c.args.mark found)) >>= answer) hit
    ∙ hold_ended e (local_of k) c.args.object StackFirst (not_entering _ _ late.mirrors c.requires.may.waits) done_with answer)
