use Rattle.std.proofs.Common.{[]}
use Rattle.machine_words.specs.inner.Reading.{Walks, place_step}
use Rattle.machine_words.proofs.place_thread.place_threads.Given as goal

abbrev pub invariant-loop-t : goal.invariant-loop-t
invariant-loop-t l = Walks (place_step l.program l.fuel) l.initial.threads [] l.t l.threads []
