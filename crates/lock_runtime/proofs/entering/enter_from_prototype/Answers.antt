use Rattle.lock_runtime.proofs.Begins.{object_there}
use Rattle.lock_runtime.proofs.Quickly.{enter_rests, is_entered, left_due, left_room, left_made, prototype_alike}
use Rattle.lock_runtime.proofs.entering.enter_from_prototype.Goals as goal

pub enter_by_prototype-requires-clause-heap : goal.enter_by_prototype-requires-clause-heap
enter_by_prototype-requires-clause-heap c = c.requires.1.came.left.heap

pub enter_by_prototype-requires-clause-object : goal.enter_by_prototype-requires-clause-object
enter_by_prototype-requires-clause-object c =
    object_there c.args.heap.now.heap.shape c.requires.0.known c.args.object _ c.requires.1.may.call.may

pub enter_by_prototype-requires-clause-due : goal.enter_by_prototype-requires-clause-due
enter_by_prototype-requires-clause-due c =
    let a = c.args in left_due (prototype_alike a.heap.now.heap.shape a.object a.now a.mark a.prototype) c.requires.1.came

pub enter_by_prototype-requires-clause-room : goal.enter_by_prototype-requires-clause-room
enter_by_prototype-requires-clause-room c =
    let a = c.args in
    left_room (prototype_alike a.heap.now.heap.shape a.object a.now a.mark a.prototype) c.requires.1.came c.requires.1.may

pub returns : goal.returns
returns c =
    let a = c.args in
    let h = a.heap.now in
    let made = c.enter_by_prototype.ensures in
    let alike = prototype_alike h.heap.shape a.object a.now a.mark a.prototype in
    let b = c.requires in
    record {
      rests = enter_rests h b.0 a.object a.now b.1.may (left_made alike b.1.came made);
      whole = λ p begun. is_entered h p a.object a.now begun.may (left_made alike begun.came made);
    }
