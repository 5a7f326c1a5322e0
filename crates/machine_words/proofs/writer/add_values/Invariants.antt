use Rattle.std.proofs.Common.{◌≡◌, ◌++◌, drop, map}
use Rattle.plain_monitor.specs.ValueWords.{word_of}
use Rattle.machine_words.proofs.writer.add_values.Given as goal

abbrev pub invariant-loop-value : goal.invariant-loop-value
invariant-loop-value l = l.out.items ++ map word_of (drop l.value-index l.values) ≡ l.initial.out.items ++ map word_of l.values
