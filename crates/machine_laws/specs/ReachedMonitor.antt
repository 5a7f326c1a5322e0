-- What holds of each monitor of a reached machine, and of a thread beside it.
use Rattle.std.specs.Prelude.{◌≡◌, ℕ, ◌+◌, ◌<◌, ◌≤◌, ◌==◌, if◌then◌else◌, Option, Some, None}
use Rattle.std.specs.List.{AllByRecursion}
use Rattle.plain_monitor.specs.Listed.{times_in, counts_in, presence}
use Rattle.plain_monitor.specs.Monitor.{PlainMonitor, is_thread}
use Rattle.plain_machine.specs.declared.monitor_call.Mode.{Mode}
use Rattle.plain_machine.specs.declared.monitor_call.Mode.TheVariants.{Waiting}
use Rattle.plain_machine.specs.Thread.{ThreadState, holds_of}

-- the number for the owner, and 0 for each other thread
abbrev pub for_owner : Option ℕ → ℕ → ℕ → ℕ
for_owner owner n t = if is_thread owner t then n else 0

-- how often t waits or was called
abbrev pub times_listed : PlainMonitor → ℕ → ℕ
times_listed m t = times_in m.waits t + times_in m.called t

-- how often t has entered, less its exits, as the owner or as one that waits or was called
abbrev pub standing : PlainMonitor → ℕ → ℕ
standing m t = for_owner m.owner m.count t + counts_in m.waits t + counts_in m.called t

-- the place of one of n threads, with a count above 0
abbrev pub IsPlaceOf : ℕ → ℕ × ℕ → Type 0
IsPlaceOf n p = (p.0 < n) × (1 ≤ p.1)

-- an owner is one of n threads and has entered at least once; where nobody owns the monitor its count is 0
abbrev pub IsOwnerOf : ℕ → ℕ → Option ℕ → Type 0
IsOwnerOf n count None = count ≡ 0
IsOwnerOf n count (Some t) = (t < n) × (1 ≤ count)

-- a monitor in a machine of n threads: each stands at most once among the owner, those who wait and those who were called
pub record IsMonitorOf (n : ℕ) (m : PlainMonitor) : Type 0 where
  pub owner : IsOwnerOf n m.count m.owner
  pub waits : AllByRecursion (IsPlaceOf n) m.waits
  pub called : AllByRecursion (IsPlaceOf n) m.called
  pub once : (t : ℕ) → presence m t ≤ 1

-- 1 where the thread waits on object o, and else 0
abbrev pub waiting_on : Mode → ℕ → ℕ
waiting_on (Waiting k) o = if k == o then 1 else 0
waiting_on mode o = 0

-- thread t holds object o as often as its monitor counts for t, and is listed there exactly where it waits on o
pub record StandsAt (o t : ℕ) (m : PlainMonitor) (s : ThreadState) : Type 0 where
  pub holds : holds_of s o ≡ standing m t
  pub listed : times_listed m t ≡ waiting_on s.mode o
