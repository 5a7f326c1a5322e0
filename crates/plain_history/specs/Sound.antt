-- What holds of each monitor in a legal history.
use Rattle.std.specs.Prelude.{◌≡◌, ℕ, ◌<◌, ◌≤◌, List, MatchOption}
use Rattle.std.specs.List.{AllByRecursion}
use Rattle.plain_monitor.specs.Listed.{presence}
use Rattle.plain_monitor.specs.Monitor.{PlainMonitor}

-- each count is above 0
abbrev pub HaveCounts : List (ℕ × ℕ) → Type 0
HaveCounts ps = AllByRecursion (λ p. 0 < p.1) ps

pub record IsSound (m : PlainMonitor) : Type 0 where
  -- there is an owner exactly where there is a count
  pub held : MatchOption m.owner (m.count ≡ 0) (λ t. 0 < m.count)
  -- each thread that waits or was called keeps a count
  pub waits : HaveCounts m.waits
  pub called : HaveCounts m.called
  -- each thread stands at most once among the owner, those who wait and those who were called
  pub once : (t : ℕ) → presence m t ≤ 1
