use Rattle.std.proofs.Common.{◌≡◌, length}
use Rattle.program_run.proofs.copies.places_for.Given as goal

abbrev pub invariant-loop : goal.invariant-loop
invariant-loop l = length l.places.items ≡ l.index
