-- What the count of a class and the verdicts on it that were carried out say of one another, and how many verdicts a thread may have counted.
use Rattle.std.specs.Prelude.{◌≡◌, ◌≢◌, ◌⊎◌, ℕ, zero, suc, ◌+◌, ◌*◌, ◌-◌, ◌≤◌, nat_lt, nat_le, min, if◌then◌else◌, false, List, length, Option, Some, None}
use Rattle.plain_monitor.specs.declared.entry.Logged.{Logged}
use Rattle.plain_monitor.specs.declared.entry.Path.TheVariants.{BiasTaken}
use Rattle.lock_policy.specs.Policy.{decided, is_reset, rebias_threshold, revoke_threshold, most_revocations}
use Rattle.core_world.specs.declared.stage.Stage.{Stage}
use Rattle.core_world.specs.declared.heap_call.Operation.TheVariants as op
use Rattle.core_world.specs.declared.heap_call.Unfinished.{Unfinished}
use Rattle.core_world.specs.Threads.Counts.{ClassCounts, with_verdict, with_reset}
use Rattle.core_world.specs.Words.Forms.{is_biased}
use Rattle.core_world.specs.Threads.Stages.{one_if, path_into}

-- the sum of the values at the numbers below this one
abbrev pub sum_below : ℕ → (ℕ → ℕ) → ℕ
sum_below zero f = 0
sum_below (suc n) f = sum_below n f + f n

-- the count of a class beyond its last bulk operation
abbrev pub since_last_bulk : ℕ → ℕ
since_last_bulk count = if nat_lt count rebias_threshold then count
    else if nat_lt count revoke_threshold then count - rebias_threshold else count - revoke_threshold

-- The count of a class, and how many single revocations, bulk rebiases and bulk revokes of it were counted, and resets of the count.
pub record CountFits (count single rebias revoke reset : ℕ) : Type 0 where
  pub revoked : revoke ≡ one_if (nat_le revoke_threshold count)
  pub rebiased : rebias_threshold ≤ count → 1 ≤ rebias
  pub spent : rebias_threshold * (rebias + revoke) + since_last_bulk count ≤ single + rebias + revoke
  pub few : count ≤ single + rebias + revoke
  pub capped : count ≤ most_revocations
  -- where it was never set to 0
  pub even : reset ≡ 0 → count ≡ min (single + rebias + revoke) most_revocations
  pub rebias_once : reset ≡ 0 → rebias ≡ one_if (nat_le rebias_threshold (single + rebias + revoke))
  pub revoke_once : reset ≡ 0 → revoke ≡ one_if (nat_le revoke_threshold (single + rebias + revoke))

-- the same of a class's counts in one
abbrev pub ClassFits : ℕ → ClassCounts → Type 0
ClassFits count k = CountFits count k.single k.rebias k.revoke k.reset

-- the counts after one more verdict by the policy
abbrev pub incremented : ClassCounts → ℕ → ℕ → ℕ → ClassCounts
incremented k count last now = with_reset (with_verdict k (decided count last now).0) (is_reset count last now)

abbrev pub verdicts_on : ClassCounts → ℕ
verdicts_on k = k.single + k.rebias + k.revoke

-- the object of the unfinished operation, which is no dump, has no bias pattern, or the thread is taking its bias
abbrev pub IsDecided : (ℕ → ℕ) → Stage → Option Unfinished → Type 0
IsDecided mark stage None = ⊥
IsDecided mark stage (Some u) =
    (u.op ≢ op.Dump) × ((is_biased (mark u.object) ≡ false) ⊎ (path_into stage u.object ≡ Some BiasTaken))

-- A thread has counted at most as many verdicts as it has entries, or one more while its operation is unfinished after its own revocation.
abbrev pub VerdictsFit : (ℕ → ℕ) → ℕ → List Logged → Stage → Option Unfinished → Type 0
VerdictsFit mark verdicts log stage unfinished =
    (verdicts ≤ length log) ⊎ ((verdicts ≡ length log + 1) × IsDecided mark stage unfinished)
