use Rattle.std.proofs.Common.{◌≡◌, map, take}
use Rattle.bias_check.proofs.names.thread_names.Given as goal

abbrev pub invariant-loop-thread : goal.invariant-loop-thread
invariant-loop-thread l = record {
  items : l.thread-items ≡ l.program.threads;
  names : l.names ≡ map (λ t. t.name) (take l.thread-index l.thread-items);
}
