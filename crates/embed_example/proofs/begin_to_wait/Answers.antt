use Rattle.std.proofs.Common.{arith}
use Rattle.core_world.specs.declared.heap_call.Operation.TheVariants as op
use Rattle.embed_example.specs.declared.Act.TheVariants as act
use Rattle.embed_example.proofs.After.{free_may, new_free, new_rests, new_stopped, tried_may}
use Rattle.lock_runtime.proofs.Declared.{declared_known}
use Rattle.embed_example.proofs.begin_to_wait.Goals as goal

pub set_running-requires-clause-rests : goal.set_running-requires-clause-rests
set_running-requires-clause-rests g c = new_rests c.args.heap.now 10 0 c.args.pass.now c.requires.new

pub set_running-requires-clause-stopped : goal.set_running-requires-clause-stopped
set_running-requires-clause-stopped g c = new_stopped c.args.heap.now 10 0 c.args.pass.now c.requires.new

pub make-requires-clause-may : goal.make-requires-clause-may
make-requires-clause-may g c =
    let h = c.args.heap.now in
    let q = c.set_running.new.pass in
    let e = c.in_ok-set_running.ensures in
    free_may h op.Enter 0 q (new_free h 10 0 c.args.pass.now q c.requires.new (omega arith) e.beside e.running)

pub try_once-requires-clause-object : goal.try_once-requires-clause-object
try_once-requires-clause-object g c =
    declared_known c.args.heap.now c.make.new.pass 0 c.in_ok-make.ensures.made.free.live.rests c.requires.door

pub try_once-requires-clause-may : goal.try_once-requires-clause-may
try_once-requires-clause-may g c = free_may c.args.heap.now op.Wait 0 c.make.new.pass c.in_ok-make.ensures.made.free

pub returns : goal.returns
returns g c = tried_may act.Wait 0 c.args.heap.now c.make.new.pass c.try_once.new.pass c.in_ok-try_once.field-0 c.in_ok-try_once.ensures
