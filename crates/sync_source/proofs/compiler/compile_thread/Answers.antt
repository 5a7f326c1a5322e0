use Rattle.std.proofs.Common.{arith}
use Rattle.sync_source.specs.BlockView.{all_of}
use Rattle.sync_source.proofs.Placed.{code_size}
use Rattle.sync_source.proofs.compiler.compile_thread.Goals as goal

pub labels-requires : goal.labels-requires
labels-requires c = let h = code_size (all_of c.args.thread.now.body.statements.items) 0 in grind (arith, h)
