-- How often a thread carried out each verdict on a class.
use Rattle.std.specs.Prelude.{ℕ, ◌+◌, ◌==◌, Bool, if◌then◌else◌, List, [], ◌∷◌}
use Rattle.lock_policy.specs.declared.policy.Verdict.{Verdict}
use Rattle.lock_policy.specs.declared.policy.Verdict.TheVariants.{Single, BulkRebias, BulkRevoke}
use Rattle.core_world.specs.Threads.Stages.{one_if}

pub record ClassCounts : Type 0 where
  pub single : ℕ
  pub rebias : ℕ
  pub revoke : ℕ
  -- how often the count of revocations was set to 0 before the verdict
  pub reset : ℕ

abbrev pub no_counts : ClassCounts
no_counts = record { single = 0; rebias = 0; revoke = 0; reset = 0 }

-- the counts with one more verdict
abbrev pub with_verdict : ClassCounts → Verdict → ClassCounts
with_verdict k Single = record k { single = k.single + 1 }
with_verdict k BulkRebias = record k { rebias = k.rebias + 1 }
with_verdict k BulkRevoke = record k { revoke = k.revoke + 1 }

abbrev pub with_reset : ClassCounts → Bool → ClassCounts
with_reset k reset = record k { reset = k.reset + one_if reset }

-- a verdict that was counted
pub record CountedVerdict : Type 0 where
  pub class : ℕ
  pub verdict : Verdict
  pub reset : Bool

-- the counts by class after these verdicts, newest first
abbrev pub counts_of : List CountedVerdict → ℕ → ClassCounts
counts_of [] d = no_counts
counts_of (v ∷ vs) d =
    if d == v.class then with_reset (with_verdict (counts_of vs d) v.verdict) v.reset else counts_of vs d

-- one more verdict on class c
abbrev pub with_verdict_counted : List CountedVerdict → ℕ → Verdict → Bool → List CountedVerdict
with_verdict_counted counts c verdict reset = record { class = c; verdict = verdict; reset = reset } ∷ counts
