-- By how far the enter came.
use Rattle.std.proofs.Common.{◌≡◌, refl, sym, ap, ◌∙◌, subst}
use Rattle.plain_monitor.specs.declared.entry.Path.{Path}
use Rattle.core_world.specs.Threads.Stages.{Revocation}
use Rattle.core_world.specs.Threads.ThreadView.{ThreadView, Local, Start}
use Rattle.core_world.specs.Trees.Plans.{CallContext}
use Rattle.core_world.specs.Words.Shape.{Shape}
use Rattle.heap_table.specs.Quick.{entered}
use Rattle.heap_table.specs.Resting.{start_now}
use Rattle.heap_table.specs.Ruled.{only}
use Rattle.heap_table.specs.declared.mirror.Mirror.{Mirror}
use Rattle.heap_table.specs.declared.quick.QuickEnter.{QuickEnter}
use Rattle.heap_table.specs.declared.quick.QuickEnter.TheVariants as enters
use Rattle.heap_table.specs.inner.Amid.{EntersIdle, KeepsStart, enter_left, hold_end, seized_left}
use Rattle.heap_table.proofs.Late.{late_as}
use Rattle.heap_table.proofs.holding.end_enter.Goals as goal

-- THE LOCK is the thread's own: the hold is taken.
pub take_hold-requires-clause-amid : goal.take_hold-requires-clause-amid
take_hold-requires-clause-amid c =
    let a = c.requires.amid in
    let e = c.args.call.now in
    record {
      heap = a.heap;
      begun = a.begun;
      due = a.due;
      its = a.its;
      late = late_as a.late
          (ap (seized_left c.args.setting.now.shape e (start_now a.heap a.begun) (entered c.args.object c.args.now)) c.in-Done.is
          ∙ ap (λ (l : Local). hold_end e l c.args.object c.in-Done.path) (sym a.local));
    }

pub returns-in-Done-clause-idle : goal.returns-in-Done-clause-idle
returns-in-Done-clause-idle c =
    subst (λ (r : QuickEnter). EntersIdle r c.args.call.now c.take_hold.new.mirror) (sym c.in-Done.is) c.take_hold.ensures.idle

pub returns-in-Done-clause-start : goal.returns-in-Done-clause-start
returns-in-Done-clause-start c =
    subst (λ (r : QuickEnter). KeepsStart r (only c.args.seat.now.me.0) (only c.take_hold.new.seat.me.0)) (sym c.in-Done.is) tt

pub returns-in-Done-clause-leads : goal.returns-in-Done-clause-leads
returns-in-Done-clause-leads c = λ h o d its local late.
    let e = c.args.call.now in
    let s = c.args.setting.now.shape in
    let k = start_now h o in
    let b = entered c.args.object c.args.now in
    let held = c.take_hold.ensures.leads h o d its (late_as late (ap (seized_left s e k b) c.in-Done.is
    ∙ ap (λ (l : Local). hold_end e l c.args.object c.in-Done.path) (sym local))) in
    late_as held (ap (enter_left s e k b) (sym c.in-Done.is))

-- IT ISN'T: nothing is left to take, and what is unfinished is said.
module _ (r : QuickEnter) (other : (path : Path) → r ≡ enters.Done path → ⊥) where
  left_as_found : (s : Shape) (e : CallContext) (k : Start) (b : Revocation) → seized_left s e k b r ≡ enter_left s e k b r
  left_as_found s e k b = cases r other
    where
      cases : (r : QuickEnter) → ((path : Path) → r ≡ enters.Done path → ⊥) → seized_left s e k b r ≡ enter_left s e k b r
      cases (enters.Done path) other = absurd (other path refl)
      cases enters.Not other = refl
      cases (enters.Raced mark found) other = refl
      cases (enters.Unbiased mark) other = refl
      cases (enters.Biased mark prototype) other = refl
      cases (enters.Taken m found) other = refl

  not_idle : (e : CallContext) (m : Mirror) → EntersIdle r e m
  not_idle e m = cases r other
    where
      cases : (r : QuickEnter) → ((path : Path) → r ≡ enters.Done path → ⊥) → EntersIdle r e m
      cases (enters.Done path) other = absurd (other path refl)
      cases enters.Not other = tt
      cases (enters.Raced mark found) other = tt
      cases (enters.Unbiased mark) other = tt
      cases (enters.Biased mark prototype) other = tt
      cases (enters.Taken m found) other = tt

at_start : (r : QuickEnter) (k : ThreadView) → KeepsStart r k k
at_start (enters.Done path) k = tt
at_start enters.Not k = record { local = refl; kept = refl }
at_start (enters.Raced mark found) k = record { local = refl; kept = refl }
at_start (enters.Unbiased mark) k = record { local = refl; kept = refl }
at_start (enters.Biased mark prototype) k = record { local = refl; kept = refl }
at_start (enters.Taken m found) k = record { local = refl; kept = refl }

pub returns-in_default-clause-idle : goal.returns-in_default-clause-idle
returns-in_default-clause-idle c = not_idle c.args.how c.in_default.not-Done c.args.call.now c.stays_amid.new.self

pub returns-in_default-clause-start : goal.returns-in_default-clause-start
returns-in_default-clause-start c = at_start c.args.how _

pub returns-in_default-clause-leads : goal.returns-in_default-clause-leads
returns-in_default-clause-leads c = λ h o d its local late.
    let k = start_now h o in
    let left = late_as late (left_as_found c.args.how c.in_default.not-Done c.args.setting.now.shape c.args.call.now k (entered c.args.object c.args.now)) in
    record { left = left.left; home = c.stays_amid.ensures.frame.home ∙ left.home; mirrors = c.stays_amid.ensures.shows _ left.mirrors }
