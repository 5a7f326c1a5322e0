-- Whose biases were, by what a run leaves: who entered by a bias of its own had taken it, and how often biases were taken.
use Rattle.std.proofs.Common.{◌≡◌, ℕ, ◌+◌, ◌<◌, ◌≤◌, [], ◌∷◌, length, sym, subst, arith, inl, inr}
use Rattle.std.proofs.lemmas.Bool.{cases_lt}
use Rattle.std.proofs.lemmas.List.{get_or_past}
use Rattle.plain_history.specs.EnterPaths.{entries_on}
use Rattle.plain_monitor.specs.Limits.{most_threads}
use Rattle.plain_monitor.specs.History.{log_of}
use Rattle.plain_monitor.specs.Order.{order}
use Rattle.core_law.specs.Logic.{Heap}
use Rattle.core_law.specs.TakenBiases.{times_taken, OwnsAreTaken}
use Rattle.heap_table.specs.Seen.{ClosedSeen}
use Rattle.run_rounds.specs.Outcome.{HeapObeysBiasLaw as LeftBiases}
use Rattle.program_run.proofs.Few.{most_entries}
use Rattle.program_run.specs.Lines.{line_of}
use Rattle.program_run.proofs.Biased.{rebias_is}

-- a log without entries has no Enter
none_owned : OwnsAreTaken []
none_owned o [] l later e is = absurd (cc e)
none_owned o (b ∷ before) l later e is = absurd (cc e)

module _ {tick : ℕ} (heap : Heap) (c : ClosedSeen) (left : LeftBiases heap tick c) where
  pub log_owned : (t : ℕ) → heap.shape.threads ≡ length c.logs → OwnsAreTaken (log_of c.logs t)
  log_owned t count = elim (cases_lt t heap.shape.threads) [
    | inl here ↦ left.biases.biases.taken t here
    | inr past ↦ subst OwnsAreTaken (sym (get_or_past c.logs t [] (omega (arith, past, count)))) none_owned
  ]

  pub taken_few : c.heap ≡ heap → heap.shape.threads ≤ most_threads → ((t : ℕ) → length (log_of c.logs t) ≤ most_entries) → (o : ℕ)
      → left.biases.class o < heap.shape.classes
      → times_taken o (entries_on o (order c.logs)) ≤ (line_of c (left.biases.class o)).rebias + 1
  taken_few same many short o within =
      let few = left.biases.biases.few o in
      let is = rebias_is heap c left same many short (left.biases.class o) within in
      omega (arith, few, is)
