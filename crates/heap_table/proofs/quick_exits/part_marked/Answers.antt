-- The form of the mark says which way the hold is left.
use Rattle.std.proofs.Common.{refl, sym, ap, ◌∙◌, ◌≡◌, Option, Some, ℕ}
use Rattle.mark_word.specs.declared.mark.MarkForm.{MarkForm}
use Rattle.mark_word.specs.declared.mark.MarkForm.TheVariants.{Inflated, Inflating, Locked}
use Rattle.core_world.specs.declared.answer.StackOut.{StackOut}
use Rattle.core_world.specs.Threads.ThreadView.{Local, local_of}
use Rattle.core_world.specs.Trees.LockSteps.{stack_exit_at}
use Rattle.core_world.specs.Trees.MonitorSteps.{monitor_exit_steps}
use Rattle.core_world.specs.Trees.Operations.{answer, exit_at}
use Rattle.core_world.specs.Trees.Plans.{CallContext, done_with}
use Rattle.core_world.specs.Trees.StepTree.{unreachable, ◌>>=◌}
use Rattle.heap_table.specs.Ruled.{only}
use Rattle.heap_table.specs.declared.quick_exits.ExitPart.TheVariants as parts
use Rattle.heap_table.specs.inner.Amid.{ExitTree, Goes, marked_exit, monitor_exit}
use Rattle.heap_table.proofs.Late.{amid_by, late_as}
use Rattle.heap_table.proofs.ExitEnds.{held_part}
use Rattle.heap_table.proofs.Loops.{binds}
use Rattle.heap_table.proofs.StepsLeft.{never}
use Rattle.heap_table.proofs.quick_exits.part_marked.Goals as goal
use Rattle.heap_table.proofs.quick_exits.part_marked.Goals.{After-form_of}

-- what is left, by this form
abbrev formed : CallContext → Local → ℕ → ℕ → ℕ → Option MarkForm → ExitTree
formed e k o header mark form = stack_exit_at form e k o header mark >>= (λ (out : StackOut). exit_at out e k o >>= answer)

by_form : (c : After-form_of) (f : MarkForm) → c.form_of.result ≡ f → let e = c.args.call.now in let k = only c.args.seat.now.me.0 in
    Goes c.args.setting.now e c.args.mirror.now k (marked_exit e (local_of k) c.args.object c.args.header c.args.mark)
    k (formed e (local_of k) c.args.object c.args.header c.args.mark (Some f))
by_form c f is = λ h o d its late.
    late_as late (ap (formed c.args.call.now (local_of (only c.args.seat.now.me.0)) c.args.object c.args.header c.args.mark) (sym c.form_of.ensures ∙ ap Some is))

pub part_from_record-requires-clause-amid : goal.part_from_record-requires-clause-amid
part_from_record-requires-clause-amid c = amid_by c.requires.amid
    (by_form (goal.at.part_from_record-requires-clause-amid c).After-form_of _ c.in-Locked.is)

pub returns-in-Locked-clause-leads : goal.returns-in-Locked-clause-leads
returns-in-Locked-clause-leads c = λ h o d its late. c.part_from_record.ensures.leads h o d its
    (by_form (goal.at.returns-in-Locked-clause-leads c).After-form_of _ c.in-Locked.is h o d its late)

by_monitor : (c : After-form_of) (m : ℕ) → c.form_of.result ≡ Inflated m → let e = c.args.call.now in let k = only c.args.seat.now.me.0 in
    Goes c.args.setting.now e c.args.mirror.now k (marked_exit e (local_of k) c.args.object c.args.header c.args.mark)
    k (monitor_exit e (local_of k) c.args.object m)
by_monitor c m is = λ h o d its late.
    late_as (by_form c (Inflated m) is h o d its late)
    (binds (monitor_exit_steps c.args.call.now (local_of (only c.args.seat.now.me.0)) c.args.object m) (λ _. done_with tt) answer)

pub part_from_monitor-requires-clause-amid : goal.part_from_monitor-requires-clause-amid
part_from_monitor-requires-clause-amid c = amid_by c.requires.amid
    (by_monitor (goal.at.part_from_monitor-requires-clause-amid c).After-form_of _ c.in-Inflated.is)

pub returns-in-Inflated-clause-leads : goal.returns-in-Inflated-clause-leads
returns-in-Inflated-clause-leads c = λ h o d its late. c.part_from_monitor.ensures.leads h o d its
    (by_monitor (goal.at.returns-in-Inflated-clause-leads c).After-form_of c.in-Inflated.monitor
    c.in-Inflated.is h o d its late)

pub returns-in-Inflating-clause-leads : goal.returns-in-Inflating-clause-leads
returns-in-Inflating-clause-leads c = λ h p d its late.
    held_part (local_of (only c.args.seat.now.me.0)) parts.Inflating late.mirrors.thread late.mirrors.holds (λ j g shows. shows) refl
    (by_form (goal.at.returns-in-Inflating-clause-leads c).After-form_of _ c.in-Inflating.is h p d its late)

-- No other mark is found.
unlike : (f : MarkForm) (e : CallContext) (k : Local) (o header mark : ℕ) → (f ≡ Inflating → ⊥) → ((t p : ℕ) → f ≡ Locked t p → ⊥)
    → ((m : ℕ) → f ≡ Inflated m → ⊥) → formed e k o header mark (Some f) ≡ unreachable
unlike Inflating e k o header mark inflating locked inflated = absurd (inflating refl)
unlike (Locked t p) e k o header mark inflating locked inflated = absurd (locked t p refl)
unlike (Inflated m) e k o header mark inflating locked inflated = absurd (inflated m refl)
unlike _ e k o header mark inflating locked inflated = refl

pub unreachable-requires : goal.unreachable-requires
unreachable-requires c =
    let a = amid_by c.requires.amid (by_form (goal.at.unreachable-requires c).After-form_of _ refl) in
    never a.late.left (unlike c.form_of.result _ _ _ _ _ c.in_default.not-Inflating c.in_default.not-Locked c.in_default.not-Inflated)
