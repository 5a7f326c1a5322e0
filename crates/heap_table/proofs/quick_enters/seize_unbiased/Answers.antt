-- The mark is neutral, or names a monitor, or is another one.
use Rattle.std.proofs.Common.{◌≡◌, ℕ, false, if◌then◌else◌, Option, Some, sym, ap, ◌∙◌, eq-eqb}
use Rattle.mark_word.specs.Mark.{read_mark}
use Rattle.mark_word.specs.declared.mark.MarkForm.{MarkForm}
use Rattle.mark_word.specs.declared.mark.MarkForm.TheVariants.{Inflated, Locked, Neutral}
use Rattle.plain_monitor.specs.declared.entry.Path.TheVariants.{StackAgain, StackFirst}
use Rattle.core_world.specs.declared.heap_call.HeapCall.{HeapCall}
use Rattle.core_world.specs.declared.stage.Stage.TheVariants.{Settled}
use Rattle.core_world.specs.Threads.ThreadView.{ThreadView, Local, Start, local_of}
use Rattle.core_world.specs.Trees.LockSteps.{stack_enter_at, stack_enter_steps}
use Rattle.core_world.specs.Trees.Operations.{answer, enter_at, enter_monitor_steps}
use Rattle.core_world.specs.Trees.Plans.{CallContext}
use Rattle.core_world.specs.Trees.StepTree.{◌>>=◌}
use Rattle.core_world.specs.Words.Forms.{is_entering}
use Rattle.core_world.specs.Words.Shape.{Shape}
use Rattle.heap_table.specs.Resting.{start_now}
use Rattle.heap_table.specs.Seen.{HeapSeen, PassSeen}
use Rattle.heap_table.specs.declared.mirror.Mirror.{Mirror}
use Rattle.heap_table.specs.inner.Amid.{EnterTree, Late, first_enter, hold_end, lagging, monitor_enter, recorded_end, unbiased_enter}
use Rattle.heap_table.proofs.HoldEnds.{not_entering, recorded_ended}
use Rattle.heap_table.proofs.Late.{late_as}
use Rattle.heap_table.proofs.quick_enters.seize_unbiased.Goals as goal

by_neutral : (s : Shape) (e : CallContext) (k : Start) (o mark hash age : ℕ) → read_mark mark ≡ Some (Neutral hash age)
    → unbiased_enter s e k o mark ≡ first_enter e k.local o mark
by_neutral s e k o mark hash age form =
    ap (λ (f : Option MarkForm). enter_at f s e k o mark >>= answer) form ∙ ap (λ (f : Option MarkForm). stack_enter_at f e k.local o mark >>= answer) form

by_monitor : (s : Shape) (e : CallContext) (k : Start) (o mark monitor : ℕ) → read_mark mark ≡ Some (Inflated monitor)
    → unbiased_enter s e k o mark ≡ monitor_enter e k.local o monitor
by_monitor s e k o mark monitor form = ap (λ (f : Option MarkForm). enter_at f s e k o mark >>= answer) form

pub seize_by_record-requires-clause-amid : goal.seize_by_record-requires-clause-amid
seize_by_record-requires-clause-amid c =
    let a = c.requires.amid in
    record {
      heap = a.heap;
      begun = a.begun;
      due = a.due;
      its = a.its;
      late = late_as a.late (by_neutral _ c.args.call.now (start_now a.heap a.begun) c.args.object c.args.mark _ _ (sym c.form_of.ensures ∙ ap Some c.in-Neutral.is)
          ∙ ap (λ (l : Local). first_enter c.args.call.now l c.args.object c.args.mark) (sym a.local));
    }

pub seize_inflated-requires-clause-amid : goal.seize_inflated-requires-clause-amid
seize_inflated-requires-clause-amid c =
    let a = c.requires.amid in
    record {
      heap = a.heap;
      begun = a.begun;
      due = a.due;
      its = a.its;
      local = a.local;
      late = late_as a.late (by_monitor _ c.args.call.now (start_now a.heap a.begun) c.args.object c.args.mark _ (sym c.form_of.ensures ∙ ap Some c.in-Inflated.is));
    }

pub returns-in-Inflated-clause-leads : goal.returns-in-Inflated-clause-leads
returns-in-Inflated-clause-leads c = λ h o d its local late. c.seize_inflated.ensures.leads h o d its local
    (late_as late (by_monitor _ c.args.call.now (start_now h o) c.args.object c.args.mark _ (sym c.form_of.ensures ∙ ap Some c.in-Inflated.is)))

pub returns-in-Some-clause-leads : goal.returns-in-Some-clause-leads
returns-in-Some-clause-leads c = λ h o d its local late. c.in-Some.ensures.leads h o d its
    (late_as late (by_neutral _ c.args.call.now (start_now h o) c.args.object c.args.mark _ _
    (sym c.form_of.ensures ∙ ap Some c.in-Neutral.is)
    ∙ ap (λ (l : Local). first_enter c.args.call.now l c.args.object c.args.mark) (sym local)))

pub returns-in-None-clause-leads : goal.returns-in-None-clause-leads
returns-in-None-clause-leads c = λ h o d its local late. late_as (c.in-None.ensures.leads h o d its
    (late_as late (by_neutral _ c.args.call.now (start_now h o) c.args.object c.args.mark _ _
    (sym c.form_of.ensures ∙ ap Some c.in-Neutral.is)
    ∙ ap (λ (l : Local). first_enter c.args.call.now l c.args.object c.args.mark) (sym local))))
    (ap (λ (l : Local). hold_end c.args.call.now l c.args.object StackFirst) local)

-- The mark names a record of the thread's own.
by_own_record : (s : Shape) (e : CallContext) (k : Start) (o mark thread place t : ℕ) → read_mark mark ≡ Some (Locked thread place) → thread ≡ t
    → t ≡ k.local.thread → is_entering k.local.wait ≡ false → unbiased_enter s e k o mark ≡ recorded_end e Settled k.local o 0 StackAgain
by_own_record s e k o mark thread place t form same its wait =
    ap (λ (f : Option MarkForm). enter_at f s e k o mark >>= answer) form
    ∙ ap (λ b. (if b then stack_enter_steps e k.local o mark else enter_monitor_steps s e k o) >>= answer) (eq-eqb _ _ (same ∙ its))
    ∙ ap (λ (f : Option MarkForm). stack_enter_at f e k.local o mark >>= answer) form
    ∙ recorded_ended e k.local o StackAgain wait Settled 0

own_record : {h : HeapSeen} {t : HeapCall} {o : PassSeen} {d : EnterTree} {k : ThreadView} (m : Mirror) (s : Shape) (e : CallContext)
    (i mark thread place : ℕ) → read_mark mark ≡ Some (Locked thread place) → thread ≡ m.thread → m.wait ≡ 0 → local_of k ≡ local_of o.known
    → Late h t o d k (unbiased_enter s e (start_now h o) i mark) (lagging e m)
    → Late h t o d k (recorded_end e Settled (local_of k) i 0 StackAgain) (lagging e m)
own_record {h = h} {o = o} m s e i mark thread place form same none local late =
    let its = sym late.mirrors.thread ∙ ap (λ (l : Local). l.thread) local in
    let wait = ap (λ (l : Local). is_entering l.wait) (sym local) ∙ not_entering _ _ late.mirrors none in
    late_as late (by_own_record s e (start_now h o) i mark thread place m.thread form same its wait
    ∙ ap (λ (l : Local). recorded_end e Settled l i 0 StackAgain) (sym local))

pub displace-requires-clause-amid : goal.displace-requires-clause-amid
displace-requires-clause-amid c =
    let a = c.requires.amid in
    record {
      heap = a.heap;
      begun = a.begun;
      due = a.due;
      its = a.its;
      late = own_record c.args.mirror.now _ c.args.call.now c.args.object c.args.mark _ _
          (sym c.form_of.ensures ∙ ap Some c.in-Locked.is) c.if-thread-mirror.true c.requires.may.waits a.local a.late;
    }

pub returns-then-thread-mirror-clause-leads : goal.returns-then-thread-mirror-clause-leads
returns-then-thread-mirror-clause-leads c = λ h o d its local late.
    late_as (c.displace.ensures.leads h o d its (own_record c.args.mirror.now _ c.args.call.now c.args.object c.args.mark _ _
    (sym c.form_of.ensures ∙ ap Some c.in-Locked.is) c.if-thread-mirror.true c.requires.may.waits local late))
    (ap (λ (l : Local). hold_end c.args.call.now l c.args.object StackAgain) local)
