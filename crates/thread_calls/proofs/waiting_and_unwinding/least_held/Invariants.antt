use Rattle.std.proofs.Common.{◌≡◌, drop}
use Rattle.thread_calls.specs.inner.Least.{least_in, lesser}
use Rattle.thread_calls.proofs.waiting_and_unwinding.least_held.Given as goal

abbrev pub invariant-loop-word : goal.invariant-loop-word
invariant-loop-word l = lesser l.least (least_in (drop l.word-index l.words)) ≡ least_in l.words
