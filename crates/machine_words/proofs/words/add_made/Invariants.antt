use Rattle.std.proofs.Common.{◌≡◌, ◌++◌, length, drop}
use Rattle.machine_words.specs.MadeWords.{made_words}
use Rattle.machine_words.proofs.words.add_made.Given as goal

abbrev pub invariant-loop-t : goal.invariant-loop-t
invariant-loop-t l = record {
  end : l.t-end ≡ length l.register.made;
  words : l.out.items ++ made_words (drop l.t l.register.made) ≡ l.initial.out.items ++ made_words l.register.made;
}
