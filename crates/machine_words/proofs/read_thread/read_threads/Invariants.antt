use Rattle.std.proofs.Common.{drop, ◌-◌, length}
use Rattle.machine_words.specs.inner.Reading.{Walks, thread_step}
use Rattle.machine_words.specs.inner.Telling.{TellsThreads}
use Rattle.machine_words.proofs.read_thread.read_threads.Given as goal

abbrev pub invariant-loop-thread : goal.invariant-loop-thread
invariant-loop-thread l = record {
  walks : Walks (thread_step l.fuel) l.initial.threads (drop l.initial.at l.words) l.thread-index l.threads (drop l.at l.words);
  told : TellsThreads (length l.initial.threads) (drop l.initial.at l.words)
      → TellsThreads (length l.initial.threads - l.thread-index) (drop l.at l.words);
}
