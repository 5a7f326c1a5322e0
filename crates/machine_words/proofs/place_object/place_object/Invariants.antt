use Rattle.std.proofs.Common.{[]}
use Rattle.machine_words.specs.inner.Reading.{Walks, hold_step}
use Rattle.machine_words.proofs.place_object.place_object.Given as goal

abbrev pub invariant-loop-t : goal.invariant-loop-t
invariant-loop-t l = Walks (hold_step l.number l.object) l.initial.threads [] l.t l.threads []
