use Rattle.std.proofs.Common.{sym, subst}
use Rattle.mark_word.specs.Mark.{read_mark}
use Rattle.core_world.specs.Trees.Operations.{enter_at}
use Rattle.core_world.specs.Trees.Plans.{CallContext}
use Rattle.heap_table.specs.Parts.{IsDueOn, HasMadeSteps}
use Rattle.heap_table.specs.Resting.{start_now}
use Rattle.lock_runtime.proofs.Begins.{object_there}
use Rattle.lock_runtime.proofs.Quickly.{enter_rests, is_entered, left_due, left_room, left_made, marked_alike}
use Rattle.lock_runtime.proofs.entering.enter_from_mark.Goals as goal

pub enter_marked-requires-clause-heap : goal.enter_marked-requires-clause-heap
enter_marked-requires-clause-heap c = c.requires.1.came.left.heap

pub enter_marked-requires-clause-object : goal.enter_marked-requires-clause-object
enter_marked-requires-clause-object c =
    object_there c.args.heap.now.heap.shape c.requires.0.known c.args.object _ c.requires.1.may.call.may

pub enter_marked-requires-clause-due : goal.enter_marked-requires-clause-due
enter_marked-requires-clause-due c =
    let a = c.args in
    let h = a.heap.now in
    subst (λ (e : CallContext). IsDueOn h a.pass.now e.task (enter_at (read_mark a.mark) h.heap.shape e (start_now h a.pass.now) a.object a.mark))
    (sym c.unfinished-context.ensures) (left_due (marked_alike h.heap.shape a.object a.now a.mark) c.requires.1.came)

pub enter_marked-requires-clause-room : goal.enter_marked-requires-clause-room
enter_marked-requires-clause-room c =
    let a = c.args in
    left_room (marked_alike a.heap.now.heap.shape a.object a.now a.mark) c.requires.1.came c.requires.1.may

pub returns : goal.returns
returns c =
    let a = c.args in
    let h = a.heap.now in
    let made = subst (λ (x : CallContext). HasMadeSteps h (enter_at (read_mark a.mark) h.heap.shape x (start_now h a.pass.now) a.object a.mark)
    a.pass.now c.enter_marked.new.pass c.enter_marked.result) c.unfinished-context.ensures c.enter_marked.ensures in
    let alike = marked_alike h.heap.shape a.object a.now a.mark in
    let b = c.requires in
    record {
      rests = enter_rests h b.0 a.object a.now b.1.may (left_made alike b.1.came made);
      whole = λ p begun. is_entered h p a.object a.now begun.may (left_made alike begun.came made);
    }
