-- Whose draws the hashes of a run are.
use Rattle.std.proofs.Common.{ℕ, List, subst}
use Rattle.core_world.specs.Threads.ThreadView.{ThreadView}
use Rattle.core_law.specs.Draws.{HasDraws}
use Rattle.core_law.specs.Logic.{Heap}
use Rattle.closed_heap_laws.specs.OfARun.{IsEnd, logs_in}
use Rattle.closed_heap_laws.proofs.LastWorlds.{settled}

pub has_draws : (heap : Heap) (words : List ℕ) (ks : List ThreadView) → IsEnd heap words ks → HasDraws heap.start (logs_in ks)
has_draws heap words ks e = let s = settled heap words ks e in subst (HasDraws heap.start) s.logs_are (e.law.draws s.world s.comes)
