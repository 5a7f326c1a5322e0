use Rattle.std.proofs.Common.{◌≡◌, ◌-◌, ◌≤◌, List, drop, length}
use Rattle.plain_monitor.specs.Objects.{PlainObject}
use Rattle.machine_words.specs.ObjectWords.{objects_words}
use Rattle.machine_words.specs.inner.Reading.{Walks, object_step, beside}
use Rattle.machine_words.specs.inner.Telling.{AreTold}
use Rattle.machine_words.proofs.Holding.{HeldBelow}
use Rattle.machine_words.proofs.read_object.read_objects.Given as goal

abbrev pub invariant-loop-at : goal.invariant-loop-at
invariant-loop-at l = record {
  within : l.number ≤ length l.initial.objects;
  walks : Walks object_step l.initial.objects (drop l.initial.at l.words) l.number l.objects (drop l.at l.words);
  threads : l.threads ≡ beside l.objects 0 l.initial.threads;
  told : (xs : List PlainObject) → AreTold (length l.initial.threads) l.initial.objects xs → drop l.initial.at l.words ≡ objects_words 0 xs
      → HeldBelow l.objects xs × (drop l.at l.words ≡ objects_words l.number (drop l.number xs));
}

abbrev pub decreases-loop-at : goal.decreases-loop-at
decreases-loop-at l = length l.objects - l.number
