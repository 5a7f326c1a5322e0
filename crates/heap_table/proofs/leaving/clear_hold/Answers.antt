-- The hold word is cleared, and the mirror gets the entry, whichever step has logged it.
use Rattle.std.proofs.Common.{ℕ, ◌<◌, Bool, true, false, refl, sym, ap, ◌∙◌, subst, ◌≡◌}
use Rattle.std.specs.Prelude.{slice_set}
use Rattle.plain_monitor.specs.Limits.{most_holds}
use Rattle.plain_monitor.specs.declared.entry.Entry.TheVariants as entry
use Rattle.core_law.specs.Logic.{Heap}
use Rattle.core_world.specs.declared.act.Act.TheVariants.{Load}
use Rattle.core_world.specs.declared.plan.LocalEffect.TheVariants.{Unchanged}
use Rattle.core_world.specs.declared.plan.StepPlan.{StepPlan}
use Rattle.core_world.specs.declared.stage.Stage.TheVariants.{Settled}
use Rattle.core_world.specs.declared.word_id.WordId.{WordId}
use Rattle.core_world.specs.declared.word_id.WordId.TheVariants.{Hold, Stamp}
use Rattle.core_world.specs.Steps.{known_after}
use Rattle.core_world.specs.Threads.ThreadView.{ThreadView, Local}
use Rattle.core_world.specs.Trees.Plans.{CallContext, logging_plan, top_place, with_stage}
use Rattle.core_world.specs.Trees.StepTree.{step}
use Rattle.heap_table.specs.Kept.{Mirrors}
use Rattle.heap_table.specs.Layout.{place_of}
use Rattle.heap_table.specs.Ruled.{only}
use Rattle.heap_table.specs.Seen.{HeapSeen, PassSeen}
use Rattle.heap_table.specs.declared.holds.Holds.{Holds}
use Rattle.heap_table.specs.declared.mirror.Mirror.{Mirror}
use Rattle.heap_table.specs.inner.Amid.{ExitTree, IsAside, IsIdle, exit_over, lagging}
use Rattle.heap_table.specs.inner.Leaving.{LatePart, PartShown, clear_by, ending_part, logged_call, part_left}
use Rattle.heap_table.specs.inner.Ruled.{MayStep}
use Rattle.heap_table.proofs.ExitEnds.{part_few, part_low}
use Rattle.heap_table.proofs.HoldSteps.{follow_clear, follow_left}
use Rattle.heap_table.proofs.Late.{gone, hold_lies, knows_gone, may_go, shows_alike, shows_idle}
use Rattle.heap_table.proofs.Stamps.{low, short}
use Rattle.heap_table.proofs.StepsLeft.{AreLeft, left_as}
use Rattle.heap_table.proofs.leaving.clear_hold.Goals as goal
use Rattle.heap_table.proofs.leaving.clear_hold.Goals.{After-clearing-clear, After-clear}

-- What is left is that step.
by_step : (b : Bool) (e : CallContext) (l : Local) (o : ℕ)
    → part_left e l o (ending_part b) ≡ step (clear_by b e o (Hold l.thread (top_place o l.holds))) (λ _. exit_over)
by_step true e l o = refl
by_step false e l o = refl

of_call : (b : Bool) (e : CallContext) (o : ℕ) (at : WordId) → (clear_by b e o at).task ≡ e.task
of_call true e o at = refl
of_call false e o at = refl

keeps_none : (b : Bool) (e : CallContext) (o : ℕ) (at : WordId) → (clear_by b e o at).own ≡ Unchanged
keeps_none true e o at = refl
keeps_none false e o at = refl

in_place : (b : Bool) (e : CallContext) (o t p : ℕ) (g : Heap) (k : ThreadView) → MayStep g k (clear_by b e o (Hold t p)) → p < most_holds
in_place true e o t p g k may = may.at.1
in_place false e o t p g k may = may.at.1

-- THE MIRROR, by the entry that it keeps, and the cleared word.
aside : (o n : ℕ) (m : Mirror) → IsAside (entry.Exit o) (Stamp o) Load n m
aside o n m = record {
  hit = refl;
  stand = refl;
  holds = λ l. refl;
  wait = λ l. refl;
  published = λ l. refl;
  draws = λ n. refl;
  made = λ n. refl;
}

module _ (g : Heap) (e : CallContext) (o t p n : ℕ) (m noted : Mirror) (k : ThreadView) (holds : Holds) (is : holds.words ≡ slice_set noted.holds.words p 0)
    (notes : (k : ThreadView) → Mirrors (lagging e m) k
    → Mirrors (lagging (logged_call e) noted) (known_after g.shape g.start (with_stage Settled (logging_plan (entry.Exit o) e (Stamp o) Load)) n k)) where
  cleared : (b : Bool) → PartShown g e o (ending_part b) m k
      → Mirrors (lagging (logged_call e) (record noted { holds = holds })) (known_after g.shape g.start (clear_by b e o (Hold t p)) n k)
  cleared true shown =
      follow_clear g.shape g.start (logged_call e) t p n k (lagging (logged_call e) noted) holds is (shown.told n _ (notes _ shown.shown))
  cleared false shown = follow_left g.shape g.start e t o p n k (lagging (logged_call e) noted) holds is (notes _ shown)

-- The code's words for the place and the step.
abbrev place_in : After-clearing-clear → WordId
place_in c = Hold c.args.mirror.now.thread c.args.place

said : (c : After-clearing-clear) (l : Local) → l.thread ≡ c.args.mirror.now.thread → l.holds ≡ c.args.mirror.now.holds.words
    → c.clearing-clear.result ≡ clear_by c.args.logged c.args.call.now c.args.object (Hold l.thread (top_place c.args.object l.holds))
said c l thread holds =
    let place = c.requires.may.clears.place ∙ ap (top_place c.args.object) (sym holds) in
    c.clearing-clear.ensures ∙ λ i. clear_by c.args.logged c.args.call.now c.args.object (Hold (sym thread i) (place i))

abbrev to_clear : (c : After-clearing-clear) (h : HeapSeen) (p : PassSeen) (d : ExitTree) (l : Local) → Type 0
to_clear c h p d l = let e = c.args.call.now in AreLeft h e.task p d (record p { known = only c.args.seat.now.me.0 })
    (step (clear_by c.args.logged e c.args.object (Hold l.thread (top_place c.args.object l.holds))) (λ _. exit_over))

left_to_clear : (c : After-clearing-clear) (h : HeapSeen) (p : PassSeen) (d : ExitTree) (l : Local) → let e = c.args.call.now in
    LatePart h p d e c.args.object (ending_part c.args.logged) l c.args.mirror.now (only c.args.seat.now.me.0) → to_clear c h p d l
left_to_clear c h p d l late = left_as late.left (by_step c.args.logged c.args.call.now l c.args.object)

pub step_at-found-requires-clause-may : goal.step_at-found-requires-clause-may
step_at-found-requires-clause-may c =
    let z = (goal.at.step_at-found-requires-clause-may c).After-clearing-clear in
    let a = c.requires.amid in
    may_go (left_to_clear z a.heap a.begun a.due a.local a.late) a.its (said z a.local a.late.thread a.late.holds) (of_call c.args.logged _ _ _)

at_place : (b : Bool) (e : CallContext) (o : ℕ) (at : WordId) → (clear_by b e o at).at ≡ at
at_place true e o at = refl
at_place false e o at = refl

pub step_at-found-requires-clause-place : goal.step_at-found-requires-clause-place
step_at-found-requires-clause-place c =
    let a = c.requires.amid in
    let m = c.args.mirror.now in
    let plan = ap (λ (p : StepPlan). p.at) c.clearing-clear.ensures ∙ at_place c.args.logged c.args.call.now c.args.object (Hold m.thread c.args.place) in
    c.hold_at-hold_at.ensures ∙ hold_lies a.begun m a.late.left.heap a.its a.late.home a.late.own c.args.place
    ∙ ap (place_of c.args.setting.now.shape) (sym plan)

-- The log has room for the entry.
pub note-requires-clause-few : goal.note-requires-clause-few
note-requires-clause-few c =
    let a = c.requires.amid in
    part_few a.heap.heap c.args.call.now c.args.object _ _ c.args.logged a.late.shown
    (short a.heap (record a.begun { known = only c.args.seat.now.me.0 }) a.late.left.heap)

pub note-requires-clause-stamp : goal.note-requires-clause-stamp
note-requires-clause-stamp c =
    let a = c.requires.amid in
    part_low a.heap.heap c.args.call.now c.args.object _ _ c.args.logged a.late.shown
    (low a.heap (record a.begun { known = only c.args.seat.now.me.0 }) a.late.left.heap)

-- The place is that of the newest hold.
pub clear-requires-clause-place : goal.clear-requires-clause-place
clear-requires-clause-place c =
    let z = (goal.at.clear-requires-clause-place c).After-clearing-clear in
    let a = c.requires.amid in
    let l = a.local in
    let o = c.args.object in
    let at = Hold l.thread (top_place o l.holds) in
    let may = may_go {said = clear_by c.args.logged c.args.call.now o at} (left_to_clear z a.heap a.begun a.due l a.late) a.its refl
    (of_call c.args.logged _ _ _) in
    subst (λ (p : ℕ). p < most_holds) (ap (top_place o) a.late.holds ∙ sym c.requires.may.clears.place) (in_place c.args.logged c.args.call.now o _ _ _ _ may)

abbrev after_step : After-clear → After-clearing-clear
after_step c = c.before.before.before.before.before.before.before.before

still_idle : (c : After-clear) → IsIdle c.args.call.now (record c.note.new.self { holds = c.clear.new.self })
still_idle c = let idle = c.requires.may.clears.idle in
    record { left = c.note.ensures.same.1 ∙ idle.left; check = c.note.ensures.same.2 ∙ idle.check }

pub returns-clause-idle : goal.returns-clause-idle
returns-clause-idle c = let idle = still_idle (goal.at.returns-clause-idle c).After-clear in record { left = idle.left; check = idle.check }

pub returns-clause-leads : goal.returns-clause-leads
returns-clause-leads c = λ h p d l its late.
    let z = after_step (goal.at.returns-clause-leads c).After-clear in
    let e = c.args.call.now in
    let o = c.args.object in
    let b = c.args.logged in
    let k = only c.args.seat.now.me.0 in
    let n = c.step_at-found.result in
    let place = top_place o l.holds in
    let plan = clear_by b e o (Hold l.thread place) in
    let left = left_to_clear z h p d l late in
    let told = c.step_at-found.ensures.seat.1 in
    let says = said z l late.thread late.holds in
    let task = of_call b e o (Hold l.thread place) in
    let at = c.requires.may.clears.place ∙ ap (top_place o) (sym late.holds) in
    let stored = c.clear.ensures ∙ ap (λ (p : ℕ). slice_set c.note.new.self.holds.words p 0) at in
    let shown = cleared h.heap e o l.thread place n c.args.mirror.now c.note.new.self k c.clear.new.self stored
    (λ j shows. c.note.ensures.shows h.heap.shape h.heap.start e Settled (Stamp o) Load j (aside o n c.args.mirror.now) shows) b late.shown in
    let now = shows_idle e _ (record c.note.new.self { holds = c.clear.new.self }) (still_idle (goal.at.returns-clause-leads c).After-clear) shown in
    record {
      left = gone left its says task (keeps_none b e o (Hold l.thread place)) c.step_at-found.ensures.stepped told;
      home = c.note.ensures.frame.home ∙ late.home;
      mirrors = shows_alike _ _ _ _ _ _ (subst (Mirrors (record c.note.new.self { holds = c.clear.new.self })) (sym (knows_gone left its says task n told)) now);
    }
