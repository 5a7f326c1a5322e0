-- The monitor was free, or is the thread's own, or another's.
use Rattle.std.proofs.Common.{◌≡◌, ℕ, sym, ap, ◌∙◌}
use Rattle.mark_word.specs.Owner.{owner_of}
use Rattle.mark_word.specs.declared.owner.OwnerForm.TheVariants.{ByThread}
use Rattle.plain_monitor.specs.declared.entry.Path.TheVariants.{MonitorAgain, MonitorFirst}
use Rattle.core_world.specs.declared.heap_call.HeapCall.{HeapCall}
use Rattle.core_world.specs.Threads.ThreadView.{ThreadView, Local, local_of}
use Rattle.core_world.specs.Trees.Plans.{CallContext}
use Rattle.heap_table.specs.Seen.{HeapSeen, PassSeen}
use Rattle.heap_table.specs.declared.mirror.Mirror.{Mirror}
use Rattle.heap_table.specs.declared.setting.Setting.{Setting}
use Rattle.heap_table.specs.inner.Amid.{EnterTree, Goes, IsStartOf, Late, again_enter, hold_end, lagging, monitor_enter, owner_entered}
use Rattle.heap_table.specs.Ruled.{heap_in}
use Rattle.heap_table.proofs.HoldEnds.{own_found}
use Rattle.heap_table.proofs.Late.{late_as, start_since}
use Rattle.heap_table.proofs.quick_enters.seize_inflated.Goals as goal

-- its steps, in the words of what the thread knows
since : {h : HeapSeen} {t : HeapCall} {o : PassSeen} {d : EnterTree} {k : ThreadView} {m : Mirror} (e : CallContext) (i n : ℕ)
    → local_of k ≡ local_of o.known → Late h t o d k (monitor_enter e (local_of o.known) i n) m → Late h t o d k (monitor_enter e (local_of k) i n) m
since e i n local late = late_as late (ap (λ (l : Local). monitor_enter e l i n) (sym local))

pub seize_by_monitor-requires-clause-amid : goal.seize_by_monitor-requires-clause-amid
seize_by_monitor-requires-clause-amid c =
    let a = c.requires.amid in
    record {
      heap = a.heap;
      begun = a.begun;
      due = a.due;
      its = a.its;
      late = since c.args.call.now c.args.object c.args.monitor a.local a.late;
    }

-- It was free.
pub returns-in-None-clause-leads : goal.returns-in-None-clause-leads
returns-in-None-clause-leads c = λ h o d its local late.
    let e = c.args.call.now in
    late_as (c.in-None.ensures.leads h o d its (since e c.args.object c.args.monitor local late))
    (ap (λ (l : Local). hold_end e l c.args.object MonitorFirst) local)

-- It is the thread's own: the recursions are left to raise.
owned : (g : Setting) (e : CallContext) (i n : ℕ) (k j : ThreadView) (m : Mirror) (owner : ℕ) → IsStartOf k j → owner ≡ owner_of (ByThread m.thread)
    → Goes g e m k (monitor_enter e (local_of k) i n) j (owner_entered e (local_of k) i n owner)
    → (h : HeapSeen) (o : PassSeen) (d : EnterTree) → heap_in g ≡ h.heap → local_of k ≡ local_of o.known
    → Late h e.task o d k (monitor_enter e (local_of o.known) i n) (lagging e m) → Late h e.task o d j (again_enter e (local_of j) i n) (lagging e m)
owned g e i n k j m owner start own found h o d its local late =
    late_as (found h o d its (since e i n local late)) (own_found e (local_of k) i n m.thread owner m.low (sym late.mirrors.thread) own
    ∙ ap (λ (x : Local). again_enter e x i n) (sym start.local))

pub seize_again-requires-clause-amid : goal.seize_again-requires-clause-amid
seize_again-requires-clause-amid c =
    let a = c.requires.amid in
    let own = c.if-found-encode_owner.true ∙ c.encode_owner.ensures in
    record {
      heap = a.heap;
      begun = a.begun;
      due = a.due;
      its = a.its;
      late = owned c.args.setting.now c.args.call.now c.args.object c.args.monitor _ _ c.args.mirror.now _ c.in-Some.ensures.start own c.in-Some.ensures.leads
          a.heap a.begun a.due a.its a.local a.late;
    }

pub returns-then-found-encode_owner-clause-start : goal.returns-then-found-encode_owner-clause-start
returns-then-found-encode_owner-clause-start c = start_since c.in-Some.ensures.start c.seize_again.ensures.start

pub returns-then-found-encode_owner-clause-leads : goal.returns-then-found-encode_owner-clause-leads
returns-then-found-encode_owner-clause-leads c = λ h o d its local late.
    let e = c.args.call.now in
    let own = c.if-found-encode_owner.true ∙ c.encode_owner.ensures in
    late_as (c.seize_again.ensures.leads h o d its (owned c.args.setting.now e c.args.object c.args.monitor _ _ c.args.mirror.now _ c.in-Some.ensures.start own
    c.in-Some.ensures.leads h o d its local late))
    (ap (λ (l : Local). hold_end e l c.args.object MonitorAgain) (c.in-Some.ensures.start.local ∙ local))

-- It is another's.
pub returns-else-found-encode_owner-clause-leads : goal.returns-else-found-encode_owner-clause-leads
returns-else-found-encode_owner-clause-leads c = λ h o d its local late.
    let e = c.args.call.now in
    late_as (c.in-Some.ensures.leads h o d its (since e c.args.object c.args.monitor local late))
    (ap (λ (l : Local). owner_entered e l c.args.object c.args.monitor c.in-Some.found) local)
