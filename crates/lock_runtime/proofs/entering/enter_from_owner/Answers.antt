use Rattle.std.proofs.Common.{sym, subst}
use Rattle.mark_word.specs.Owner.{read_owner}
use Rattle.core_world.specs.Threads.ThreadView.{local_of}
use Rattle.core_world.specs.Trees.MonitorSteps.{monitor_enter_at}
use Rattle.core_world.specs.Trees.Plans.{CallContext}
use Rattle.heap_table.specs.Parts.{IsDueOn, HasMadeSteps}
use Rattle.lock_runtime.proofs.Quickly.{enter_rests, is_entered, left_due, left_room, left_made, owner_alike}
use Rattle.lock_runtime.proofs.entering.enter_from_owner.Goals as goal

pub monitor_enter_found-requires-clause-heap : goal.monitor_enter_found-requires-clause-heap
monitor_enter_found-requires-clause-heap c = c.requires.1.came.left.heap

pub monitor_enter_found-requires-clause-due : goal.monitor_enter_found-requires-clause-due
monitor_enter_found-requires-clause-due c =
    let a = c.args in
    subst (λ (e : CallContext). IsDueOn a.heap.now a.pass.now e.task
    (monitor_enter_at (read_owner a.found) e (local_of a.pass.now.known) a.object a.monitor a.found)) (sym c.unfinished-context.ensures)
    (left_due (owner_alike a.object a.now a.monitor a.found) c.requires.1.came)

pub monitor_enter_found-requires-clause-room : goal.monitor_enter_found-requires-clause-room
monitor_enter_found-requires-clause-room c =
    let a = c.args in left_room (owner_alike a.object a.now a.monitor a.found) c.requires.1.came c.requires.1.may

pub returns : goal.returns
returns c =
    let a = c.args in
    let h = a.heap.now in
    let made = subst (λ (e : CallContext). HasMadeSteps h (monitor_enter_at (read_owner a.found) e (local_of a.pass.now.known) a.object a.monitor a.found)
    a.pass.now c.monitor_enter_found.new.pass c.monitor_enter_found.result) c.unfinished-context.ensures c.monitor_enter_found.ensures in
    let alike = owner_alike a.object a.now a.monitor a.found in
    let b = c.requires in
    record {
      rests = enter_rests h b.0 a.object a.now b.1.may (left_made alike b.1.came made);
      whole = λ p begun. is_entered h p a.object a.now begun.may (left_made alike begun.came made);
    }
