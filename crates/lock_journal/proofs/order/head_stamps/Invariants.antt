use Rattle.std.proofs.Common.{◌≡◌, ℕ, ◌-◌, ◌^◌, ◌<◌, ◌≤◌, get_or}
use Rattle.plain_monitor.specs.Limits.{most_threads}
use Rattle.lock_journal.specs.inner.Heads.{stamp_of, or_greatest}
use Rattle.lock_journal.proofs.order.head_stamps.Given as goal

-- the stamps of the threads so far are there, and the others are the greatest number
abbrev pub invariant-loop-thread : goal.invariant-loop-thread
invariant-loop-thread l = record {
  so_far : (u : ℕ) → u < l.thread → get_or l.stamps u 0 ≡ or_greatest (stamp_of l.logs l.places u);
  others : (u : ℕ) → u < most_threads → l.thread ≤ u → get_or l.stamps u 0 ≡ 2 ^ 64 - 1;
}
