-- The verdicts that the threads of a run counted, and the entries that they logged.
use Rattle.std.specs.Prelude.{◌≡◌, ℕ, ◌+◌, if◌then◌else◌, List, length}
use Rattle.std.specs.List.{sum_by}
use Rattle.heap_table.specs.declared.counts.ClassCounts.{ClassCounts}
use Rattle.lock_journal.specs.declared.record.ClassLine.{ClassLine}
use Rattle.lock_journal.specs.declared.record.RunRecord.{RunRecord}
use Rattle.plain_monitor.specs.declared.entry.Logged.{Logged}
use Rattle.program_run.specs.Lines.{total_on}

-- the verdicts that a thread counted, over all classes
abbrev pub verdicts_by : List ClassCounts → ℕ
verdicts_by own = sum_by (λ n. n.single + n.rebias + n.revoke) own

-- the verdicts in the line of class k are the sums of what the threads counted, none of which is so great that it is cut
pub record IsSum (counts : List (List ClassCounts)) (k : ℕ) (line : ClassLine) : Type 0 where
  pub single : line.single ≡ total_on (λ n. n.single) counts k
  pub rebias : line.rebias ≡ total_on (λ n. n.rebias) counts k
  pub revoke : line.revoke ≡ total_on (λ n. n.revoke) counts k

abbrev pub entries_in : List (List Logged) → ℕ
entries_in logs = sum_by (λ log. length log) logs

-- one verdict for each logged entry, and where the run was halted one more for each thread
abbrev pub most_verdicts : RunRecord → ℕ
most_verdicts r = entries_in r.logs + (if r.halted then length r.logs else 0)
