use Rattle.std.proofs.Common.{◌≡◌, ◌-◌, ◌++◌, drop, length}
use Rattle.machine_words.specs.ObjectWords.{objects_words}
use Rattle.machine_words.proofs.object_words.add_objects.Given as goal

abbrev pub invariant-loop-number : goal.invariant-loop-number
invariant-loop-number l =
    l.out.items ++ objects_words l.number (drop l.number l.objects) ≡ l.initial.out.items ++ objects_words 0 l.objects

abbrev pub decreases-loop-number : goal.decreases-loop-number
decreases-loop-number l = length l.objects - l.number
