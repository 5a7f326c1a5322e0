-- When the objects of a class are rebiased or revoked in bulk, after `update_heuristics` of OpenJDK 8's
-- biasedLocking.cpp. Times are in milliseconds from 1, and a last bulk operation at 0 is none.
use Rattle.std.specs.Prelude.{ℕ, ◌+◌, ◌-◌, Bool, ◌==◌, nat_lt, nat_le, not, ◌&&◌, if◌then◌else◌}
use Rattle.lock_policy.specs.declared.policy.Verdict.{Verdict}
use Rattle.lock_policy.specs.declared.policy.Verdict.TheVariants.{Single, BulkRebias, BulkRevoke}

-- the count at which a class is rebiased in bulk, and from which a count may be reset: BiasedLockingBulkRebiasThreshold
abbrev pub rebias_threshold : ℕ
rebias_threshold = 20

-- the count at which a class is revoked in bulk, and above which a count no longer rises: BiasedLockingBulkRevokeThreshold
abbrev pub revoke_threshold : ℕ
revoke_threshold = 40

-- the greatest count
abbrev pub most_revocations : ℕ
most_revocations = revoke_threshold + 1

-- after so many milliseconds without a bulk operation a count is reset: BiasedLockingDecayTime
abbrev pub decay_time : ℕ
decay_time = 25000

-- the count lies between the thresholds, and the last bulk operation is long enough ago
abbrev pub is_reset : ℕ → ℕ → ℕ → Bool
is_reset count last now =
    nat_le rebias_threshold count && nat_lt count revoke_threshold && not (last == 0) && nat_le last now && nat_le decay_time (now - last)

-- the count with which the decision begins
abbrev pub after_reset : ℕ → ℕ → ℕ → ℕ
after_reset count last now = if is_reset count last now then 0 else count

-- one more, up to the greatest
abbrev pub raised : ℕ → ℕ
raised count = if nat_le count revoke_threshold then count + 1 else count

-- the verdict at the raised count, which is a threshold only where it has just risen to it
abbrev pub verdict_at : ℕ → Verdict
verdict_at count = if count == revoke_threshold then BulkRevoke else if count == rebias_threshold then BulkRebias else Single

-- the verdict and the new count
abbrev pub decided : ℕ → ℕ → ℕ → Verdict × ℕ
decided count last now =
    let new = raised (after_reset count last now) in
    (verdict_at new, new)
