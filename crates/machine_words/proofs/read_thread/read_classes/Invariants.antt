use Rattle.std.proofs.Common.{◌≡◌, ℕ, ◌+◌, List, drop, length, set}
use Rattle.plain_monitor.specs.Made.{made_by}
use Rattle.machine_words.specs.Readers.{read_numbers}
use Rattle.machine_words.specs.inner.Telling.{TellsNumbers}
use Rattle.machine_words.proofs.Loops.{Fills}
use Rattle.machine_words.proofs.read_thread.read_classes.Given as goal

abbrev pub invariant-loop : goal.invariant-loop
invariant-loop l = record {
  numbering : l.register.numbering ≡ l.initial.register.numbering;
  count : length l.register.made ≡ length l.initial.register.made;
  fills : Fills (λ (m : List (List ℕ)). made_by m l.t) (λ (m : List (List ℕ)) (xs : List ℕ). set m l.t xs) read_numbers TellsNumbers
      l.initial.register.made l.count (drop l.initial.at l.words) l.register.made l.counter (drop l.at l.words);
  grown : length (made_by l.register.made l.t) ≡ length (made_by l.initial.register.made l.t) + l.counter;
}
