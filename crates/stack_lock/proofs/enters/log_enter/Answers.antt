use Rattle.std.proofs.Common.{refl}
use Rattle.heap_table.proofs.Parts.{can, stepped, ends}
use Rattle.stack_lock.proofs.enters.log_enter.Goals as goal

pub log_load-requires : goal.log_load-requires
log_load-requires c = can c.args.heap.now c.args.pass.now c.args.call.now.task _ _ c.requires.due refl c.requires.heap c.requires.room refl

pub returns : goal.returns
returns c =
    let s = c.log_load.ensures in
    stepped c.args.heap.now c.args.pass.now c.log_load.new.pass c.log_load.new.pass _ _ c.log_load.result c.args.path s refl
    (ends c.args.heap.now c.log_load.new.pass c.args.path s.heap)
