-- The words of the classes.
use Rattle.std.specs.Prelude.{◌≡◌, ℕ, zero, suc, ◌+◌, ◌*◌, ◌%◌, ◌≤◌, ◌==◌, if◌then◌else◌, Bool, true, false, List}
use Rattle.lock_policy.specs.Policy.{most_revocations}
use Rattle.core_world.specs.Threads.Counts.{CountedVerdict, counts_of}
use Rattle.core_world.specs.Words.Forms.{is_biased}

-- the bulk rebiases and the bulk revokes of a class that the first n threads have counted
abbrev pub bulk_rebiases : ℕ → (ℕ → List CountedVerdict) → ℕ → ℕ
bulk_rebiases zero counts c = 0
bulk_rebiases (suc n) counts c = bulk_rebiases n counts c + (counts_of (counts n) c).rebias

abbrev pub bulk_revokes : ℕ → (ℕ → List CountedVerdict) → ℕ → ℕ
bulk_revokes zero counts c = 0
bulk_revokes (suc n) counts c = bulk_revokes n counts c + (counts_of (counts n) c).revoke

pub record ClassesFit (biasing : Bool) (prototype count last mark rebiased revoked : ℕ → ℕ) : Type 0 where
  -- without biasing nothing is biased or counted
  pub plain : biasing ≡ false → (c : ℕ) → (prototype c ≡ 1) × (count c ≡ 0) × (last c ≡ 0)
  pub unbiased : biasing ≡ false → (o : ℕ) → is_biased (mark o) ≡ false
  -- with it, a prototype is neutral after a bulk revoke, and else has its number of bulk rebiases modulo 4 as epoch
  pub few : biasing ≡ true → (c : ℕ) → count c ≤ most_revocations
  pub prototypes : biasing ≡ true → (c : ℕ) → prototype c ≡ (if revoked c == 0 then rebiased c % 4 * 256 + 5 else 1)
