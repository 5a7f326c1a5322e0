-- Worlds whose counts of verdicts are other ones, and classes whose count was never reset: what the laws of refused counts speak of.
use Rattle.std.specs.Prelude.{◌≡◌, ℕ, List}
use Rattle.core_world.specs.Threads.Counts.{CountedVerdict, counts_of}
use Rattle.core_world.specs.Threads.ThreadView.{ThreadView}
use Rattle.core_world.specs.World.{World, with_known}
use Rattle.core_law.specs.BiasLaw.{summed}

-- no thread has counted a reset of class c
abbrev pub NothingReset : World → ℕ → Type 0
NothingReset w c = (summed w.shape.threads (λ t. counts_of (w.known t).counts) c).reset ≡ 0

-- the same knowledge, but for the verdicts that were counted
abbrev pub with_counts : List CountedVerdict → ThreadView → ThreadView
with_counts counts k = record k { counts = counts }

-- the same world, but for the verdicts that thread t has counted
abbrev pub with_counts_of : ℕ → List CountedVerdict → World → World
with_counts_of t counts w = record w { known = with_known t (with_counts counts (w.known t)) w.known }
