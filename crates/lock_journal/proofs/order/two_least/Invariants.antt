use Rattle.std.proofs.Common.{◌≢◌, ℕ, ◌<◌, ◌≤◌, get_or}
use Rattle.plain_monitor.specs.Limits.{most_threads}
use Rattle.lock_journal.specs.inner.Heads.{IsFirstLeast}
use Rattle.lock_journal.proofs.order.two_least.Given as goal

-- the least of the stamps so far, and the least of the others of these
abbrev pub invariant-loop-thread : goal.invariant-loop-thread
invariant-loop-thread l = record {
  least : IsFirstLeast l.stamps l.thread (l.first, l.least);
  within : l.first < most_threads;
  others : (u : ℕ) → u < l.thread → u ≢ l.first → l.second ≤ get_or l.stamps u 0;
}
