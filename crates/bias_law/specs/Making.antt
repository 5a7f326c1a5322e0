-- Objects that are made at run time: what the law of biases asks of one that isn't there yet.
use Rattle.std.specs.Prelude.{◌≡◌, ◌≢◌, ℕ, ◌≤◌, false, [], length, Some}
use Rattle.plain_monitor.specs.Order.{order}
use Rattle.plain_history.specs.EnterPaths.{entries_on}
use Rattle.core_world.specs.declared.heap_call.Unfinished.{Unfinished}
use Rattle.core_world.specs.Threads.Counts.{counts_of}
use Rattle.core_world.specs.Locks.{marks, hold_count}
use Rattle.core_world.specs.Words.Forms.{is_biased}
use Rattle.core_world.specs.World.{World, logs}
use Rattle.core_law.specs.BiasLaw.{is_logged}
use Rattle.core_law.specs.CountsAndVerdicts.{sum_below, verdicts_on}

-- no log tells of the object, its mark has no bias pattern, and nobody has a hold word for it
pub record IsUntouched (w : World) (o : ℕ) : Type 0 where
  pub unlogged : is_logged w.shape (logs w) o ≡ false
  pub unentered : entries_on o (order (logs w)) ≡ []
  pub unbiased : is_biased (marks w o) ≡ false
  pub unheld : (u : ℕ) → hold_count o (w.known u).holds ≡ 0

-- Each other thread than t that has something unfinished on the object has counted no verdict beyond its entries. (One that has may go on where the
-- mark of its object has no bias pattern, and a first mark may have it.)
abbrev pub OthersAreEven : World → ℕ → ℕ → Type 0
OthersAreEven w t o =
    (u : ℕ) (f : Unfinished) → u ≢ t → (w.known u).unfinished ≡ Some f → f.object ≡ o
    → sum_below w.shape.classes (λ c. verdicts_on (counts_of (w.known u).counts c)) ≤ length (w.known u).log
