use Rattle.std.proofs.Common.{◌≡◌, ◌<◌, ◌==◌, ℕ, get_or, false}
use Rattle.safepoint_work.proofs.words.first_place.Given as goal

abbrev pub invariant-loop-i : goal.invariant-loop-i
invariant-loop-i l = (k : ℕ) → k < l.i → (get_or l.holds k 0 == l.word) ≡ false
