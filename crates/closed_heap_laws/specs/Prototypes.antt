-- What the verdicts that a run counted make of the prototypes.
use Rattle.std.specs.Prelude.{ℕ, ◌+◌, ◌*◌, ◌%◌, ◌==◌, if◌then◌else◌, List}
use Rattle.core_world.specs.Clauses.Classes.{bulk_rebiases, bulk_revokes}
use Rattle.core_world.specs.Threads.Counts.{CountedVerdict}

-- a class's prototype after the bulk verdicts on it that n threads counted: neutral once there was a bulk revoke, and
-- else biased to nobody, with the number of bulk rebiases modulo 4 as epoch
abbrev pub prototype_by : ℕ → (ℕ → List CountedVerdict) → ℕ → ℕ
prototype_by n counted c = if bulk_revokes n counted c == 0 then bulk_rebiases n counted c % 4 * 256 + 5 else 1
