use Rattle.std.proofs.Common.{◌≡◌, length, drop, ◌-◌}
use Rattle.machine_words.specs.inner.Reading.{Walks, row_step}
use Rattle.machine_words.specs.inner.Telling.{TellsRows}
use Rattle.machine_words.proofs.read_thread.read_made.Given as goal

abbrev pub invariant-loop-t : goal.invariant-loop-t
invariant-loop-t l = record {
  numbering : l.register.numbering ≡ l.initial.register.numbering;
  end : l.t-end ≡ length l.initial.register.made;
  walks : Walks row_step l.initial.register.made (drop l.initial.at l.words) l.t l.register.made (drop l.at l.words);
  told : TellsRows (length l.initial.register.made) (drop l.initial.at l.words)
      → TellsRows (length l.initial.register.made - l.t) (drop l.at l.words);
}
