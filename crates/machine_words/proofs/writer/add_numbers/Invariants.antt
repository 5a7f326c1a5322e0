use Rattle.std.proofs.Common.{◌≡◌, ◌++◌, drop}
use Rattle.machine_words.proofs.writer.add_numbers.Given as goal

abbrev pub invariant-loop-number : goal.invariant-loop-number
invariant-loop-number l = l.out.items ++ drop l.number-index l.numbers ≡ l.initial.out.items ++ l.numbers
