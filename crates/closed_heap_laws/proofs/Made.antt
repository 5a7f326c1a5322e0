-- Which objects are there at a run's end, and where its dumps' shots cut the logs.
use Rattle.std.proofs.Common.{◌≡◌, ℕ, List, Some, ap, ◌∙◌, sym, subst}
use Rattle.std.specs.Prelude.{slice_get, is_some}
use Rattle.plain_monitor.specs.declared.entry.Logged.{Logged}
use Rattle.plain_monitor.specs.Made.{IsMadeInTime}
use Rattle.plain_history.specs.Cuts.{cut_logs}
use Rattle.core_world.specs.Threads.ThreadView.{ThreadView, DumpShot}
use Rattle.core_world.specs.Threads.References.{numbering}
use Rattle.core_law.specs.Logic.{Heap}
use Rattle.closed_heap_laws.specs.OfARun.{IsEnd, logs_in, shots_at, shots_in}
use Rattle.closed_heap_laws.proofs.LastWorlds.{Settled, settled, shots_listed}

module _ (heap : Heap) (words : List ℕ) (ks : List ThreadView) (e : IsEnd heap words ks) where
  s : Settled heap words ks
  s = settled heap words ks e

  pub made_in_time : IsMadeInTime (numbering heap.shape) (logs_in ks)
  made_in_time =
      subst (λ (x : Heap × List (List Logged)). IsMadeInTime (numbering x.0.shape) x.1) (λ i. (s.is_of i, s.logs_are i))
      (ap is_some s.made.in_time)

  pub cut_in_time : (t i : ℕ) (a : DumpShot) → slice_get (shots_at (shots_in ks) t) i ≡ Some a
      → IsMadeInTime (numbering heap.shape) (cut_logs a.cut (logs_in ks))
  cut_in_time t i a h =
      let shots_are = shots_listed ks t (s.world.known t) (s.listed t) in
      let there = ap (λ (x : List DumpShot). slice_get x i) (sym shots_are) ∙ h in
      subst (λ (x : Heap × List (List Logged)). IsMadeInTime (numbering x.0.shape) (cut_logs a.cut x.1))
      (λ j. (s.is_of j, s.logs_are j)) (s.made.cut_in_time t i a there)
