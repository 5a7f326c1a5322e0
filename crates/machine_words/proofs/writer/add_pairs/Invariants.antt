use Rattle.std.proofs.Common.{◌≡◌, ◌++◌, drop}
use Rattle.machine_words.specs.Readers.{pair_words}
use Rattle.machine_words.proofs.writer.add_pairs.Given as goal

abbrev pub invariant-loop-thread : goal.invariant-loop-thread
invariant-loop-thread l = l.out.items ++ pair_words (drop l.thread-index l.pairs) ≡ l.initial.out.items ++ pair_words l.pairs
