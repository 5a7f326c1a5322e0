use Rattle.std.proofs.Common.{◌≡◌, ◌++◌, take, drop}
use Rattle.std.specs.List.{AllByRecursion}
use Rattle.machine_words.specs.Numbers.{HasSmall}
use Rattle.machine_words.specs.ThreadWords.{threads_words}
use Rattle.machine_words.proofs.thread_words.add_threads.Given as goal

abbrev pub invariant-loop-thread : goal.invariant-loop-thread
invariant-loop-thread l = record {
  words : l.out.items ++ threads_words (drop l.thread-index l.threads) ≡ l.initial.out.items ++ threads_words l.threads;
  numbers : AllByRecursion HasSmall (take l.thread-index l.threads);
}
