use Rattle.std.proofs.Common.{arith}
use Rattle.core_world.specs.declared.heap_call.Operation.TheVariants as op
use Rattle.embed_example.proofs.After.{free_may, new_free, new_rests, new_stopped}
use Rattle.embed_example.proofs.visit.Goals as goal

pub set_running-requires-clause-rests : goal.set_running-requires-clause-rests
set_running-requires-clause-rests g c = new_rests c.args.heap.now 10 1 c.args.pass.now c.requires.new

pub set_running-requires-clause-stopped : goal.set_running-requires-clause-stopped
set_running-requires-clause-stopped g c = new_stopped c.args.heap.now 10 1 c.args.pass.now c.requires.new

pub make-requires-clause-may : goal.make-requires-clause-may
make-requires-clause-may g c =
    let h = c.args.heap.now in
    let q = c.set_running.new.pass in
    let e = c.in_ok-set_running.ensures in
    free_may h op.Enter 0 q (new_free h 10 1 c.args.pass.now q c.requires.new (omega arith) e.beside e.running)

pub make-requires-2-clause-may : goal.make-requires-2-clause-may
make-requires-2-clause-may g c = free_may c.args.heap.now op.Hash 0 c.make.new.pass c.in_ok-make.ensures.made.free

pub make-requires-3-clause-may : goal.make-requires-3-clause-may
make-requires-3-clause-may g c = free_may c.args.heap.now op.Notify 0 c.make-2.new.pass c.in_ok-make-2.ensures.made.free

pub make-requires-4-clause-may : goal.make-requires-4-clause-may
make-requires-4-clause-may g c = free_may c.args.heap.now op.Exit 0 c.make-3.new.pass c.in_ok-make-3.ensures.made.free
