-- The hold is stored, and then the stamp is loaded.
use Rattle.std.proofs.Common.{◌≡◌, ◌+◌, List, [], ◌∷◌, refl, sym, ap, ◌∙◌, subst}
use Rattle.std.specs.Prelude.{slice_set}
use Rattle.atomic_table.specs.Table.{Me}
use Rattle.core_world.specs.declared.act.Act.TheVariants.{Load, Store}
use Rattle.core_world.specs.declared.plan.StepPlan.{StepPlan}
use Rattle.core_world.specs.declared.stage.Stage.TheVariants.{Enters, Settled}
use Rattle.core_world.specs.declared.word_id.WordId.TheVariants.{Hold, Stamp}
use Rattle.core_world.specs.Locks.{hold_count}
use Rattle.core_world.specs.Threads.ThreadView.{ThreadView, local_of}
use Rattle.core_world.specs.Trees.LockSteps.{hold_plan, log_enter_plan}
use Rattle.core_world.specs.Trees.Plans.{free_place, quiet_plan, with_stage}
use Rattle.core_world.specs.Trees.StepTree.{step}
use Rattle.core_world.specs.Words.Acts.{hits}
use Rattle.core_world.specs.Words.Forms.{hold_word}
use Rattle.heap_table.specs.Layout.{place_of}
use Rattle.heap_table.specs.Ruled.{heap_in, only}
use Rattle.heap_table.specs.inner.Amid.{IsIdle, Leads, hold_end, lagging, taken}
use Rattle.heap_table.specs.inner.Kept.{StampFits}
use Rattle.heap_table.proofs.Follow.{few_given}
use Rattle.heap_table.proofs.HoldSteps.{next_is_in, object_low}
use Rattle.heap_table.proofs.Late.{hold_late, may_step, made_step, follow_hold, shows_alike, shows_idle}
use Rattle.heap_table.proofs.Stamps.{short, stamp_fits}
use Rattle.heap_table.proofs.holding.take_hold.Goals as goal
use Rattle.heap_table.proofs.holding.take_hold.Goals.{After-quiet-first, After-logging-second, After-note}

-- THE HOLD is stored.
first_plan : (c : After-quiet-first) → let k = only c.args.seat.now.me.0 in let o = c.args.object in
    c.quiet-first.result ≡ hold_plan c.args.call.now k.thread o (hold_count o k.holds + 1) (free_place k.holds) c.args.path
first_plan c =
    let shows = c.requires.amid.late.mirrors in
    let o = c.args.object in
    let all = sym shows.holds in
    let thread = sym shows.thread in
    let place = sym c.requires.may.seizes.place ∙ ap free_place all in
    let word = c.requires.may.word ∙ ap (λ hs. hold_word o (hold_count o hs + 1)) all in
    c.quiet-first.ensures ∙ λ i. with_stage (Enters o (place i) c.args.path) (quiet_plan c.args.call.now (Hold (thread i) (place i)) (Store (word i)))

pub step_at-requires-clause-place : goal.step_at-requires-clause-place
step_at-requires-clause-place c =
    let a = c.requires.amid in
    c.hold_at-hold_at.ensures ∙ hold_late a.late a.its c.args.mirror.now.holds.used
    ∙ ap (λ (p : StepPlan). place_of c.args.setting.now.shape p.at) (sym c.quiet-first.ensures)

pub step_at-requires-clause-may : goal.step_at-requires-clause-may
step_at-requires-clause-may c =
    let z = (goal.at.step_at-requires-clause-may c).After-quiet-first in
    may_step c.requires.amid.late c.requires.amid.its (first_plan z) refl

-- its object is one of the heap
pub push-requires-clause-object : goal.push-requires-clause-object
push-requires-clause-object c =
    let z = (goal.at.push-requires-clause-object c).After-quiet-first in
    let a = c.requires.amid in
    object_low a.heap (record a.begun { known = only c.args.seat.now.me.0 }) c.args.object a.late.left.heap
    (next_is_in a.late a.its (first_plan z) refl refl c.step_at.ensures.stepped refl refl)

-- THE STAMP comes last.
abbrev after_hold : After-logging-second → After-quiet-first
after_hold c = c.before.before.before.before.before.before.before.before

stored : (c : After-logging-second) → let e = c.args.call.now in let k = only c.args.seat.now.me.0 in
    Leads (heap_in c.args.setting.now) e.task k (hold_end e (local_of k) c.args.object c.args.path) (lagging e c.args.mirror.now)
    (only c.step_at.new.seat.me.0) (step (log_enter_plan e c.args.object c.args.path) (λ _. taken c.args.path))
    (record (lagging e c.args.mirror.now) { holds = c.push.new.self })
stored c = λ h o d its late.
    let k = only c.args.seat.now.me.0 in
    let all = sym c.requires.amid.late.mirrors.holds in
    let place = sym c.requires.may.seizes.place ∙ ap free_place all in
    let word = c.requires.may.word ∙ ap (λ hs. hold_word c.args.object (hold_count c.args.object hs + 1)) all in
    made_step late its (first_plan (after_hold c)) refl refl refl c.step_at.ensures.stepped c.step_at.ensures.seat.1
    (follow_hold h.heap.shape h.heap.start c.args.call.now k.thread c.args.object (hold_count c.args.object k.holds + 1) (free_place k.holds) c.args.path
    c.step_at.result _ _ c.push.new.self (c.push.ensures ∙ λ i. slice_set c.args.mirror.now.holds.words (place i) (word i)) late.mirrors)

second_plan : (c : After-logging-second) → c.logging-second.result ≡ log_enter_plan c.args.call.now c.args.object c.args.path
second_plan c = c.logging-second.ensures

pub step_at-stamp-requires-clause-may : goal.step_at-stamp-requires-clause-may
step_at-stamp-requires-clause-may c =
    let z = (goal.at.step_at-stamp-requires-clause-may c).After-logging-second in
    let a = c.requires.amid in
    may_step (stored z a.heap a.begun a.due a.its a.late) a.its (second_plan z) refl

pub note-requires-clause-few : goal.note-requires-clause-few
note-requires-clause-few c =
    let a = c.requires.amid in few_given _ _ a.late.mirrors (short a.heap (record a.begun { known = only c.args.seat.now.me.0 }) a.late.left.heap)

pub note-requires-clause-stamp : goal.note-requires-clause-stamp
note-requires-clause-stamp c =
    let z = (goal.at.note-requires-clause-stamp c).After-logging-second in
    let a = c.requires.amid in
    let n = c.step_at-stamp.result in
    let plan = second_plan z in
    subst (λ (x : StepPlan). StampFits x.note n c.args.mirror.now.last) plan
    (stamp_fits _ _ _ _ _ c.step_at-stamp.ensures.stepped (stored z a.heap a.begun a.due a.its a.late).mirrors.last
    (ap (λ (x : StepPlan). hits x.act n) plan))

abbrev after_stamp : After-note → After-logging-second
after_stamp c = c.before.before.before.before.before

idle : (c : After-note) → IsIdle c.args.call.now c.note.new.self
idle c = let before = c.requires.may.idle in let same = c.note.ensures.same in record { left = same.1 ∙ before.left; check = same.2 ∙ before.check }

pub returns-clause-idle : goal.returns-clause-idle
returns-clause-idle c = idle (goal.at.returns-clause-idle c).After-note

pub returns-clause-leads : goal.returns-clause-leads
returns-clause-leads c = λ h o d its late.
    let z = after_stamp (goal.at.returns-clause-leads c).After-note in
    let here = stored z h o d its late in
    let e = c.args.call.now in
    let k = only c.step_at.new.seat.me.0 in
    let n = c.step_at-stamp.result in
    let noted = c.note.ensures.shows h.heap.shape h.heap.start e Settled (Stamp c.args.object) Load k (record {
      hit = refl;
      stand = refl;
      holds = λ l. refl;
      wait = λ l. refl;
      published = λ l. refl;
      draws = λ n. refl;
      made = λ n. refl;
    }) (shows_alike _ _ _ _ _ _ here.mirrors) in
    made_step here its (second_plan z) refl refl c.note.ensures.frame.home c.step_at-stamp.ensures.stepped c.step_at-stamp.ensures.seat.1
    (shows_alike _ _ _ _ _ _ (shows_idle e _ c.note.new.self (idle (goal.at.returns-clause-leads c).After-note) noted))

pub returns-clause-seat : goal.returns-clause-seat
returns-clause-seat c =
    let e = c.step_at-stamp.ensures.seat in (
      e.0 ∙ c.step_at.ensures.seat.0,
      e.1 ∙ ap (λ (x : Me (Unit {0}) (List ThreadView)). (only x.0 ∷ [], [])) (sym e.1),
    )
