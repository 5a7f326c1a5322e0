-- Whose draws the hashes of logs are.
use Rattle.std.specs.Prelude.{◌≡◌, ℕ, true, List}
use Rattle.plain_monitor.specs.declared.entry.Logged.{Logged}
use Rattle.plain_monitor.specs.History.{log_of}
use Rattle.plain_history.specs.EnterPaths.{has_hash}
use Rattle.plain_history.specs.FirstDraws.{DrawsComeFirst}
use Rattle.core_world.specs.Clauses.Draws.{AreDraws, first_draw, all_draws}

-- the draws of each thread are those of its generator, in their order; of the hashes of an object that has any, just one
-- was drawn; and the thread that drew it had logged none of them before
pub record HasDraws (start : ℕ) (logs : List (List Logged)) : Type 0 where
  pub drawn : (t : ℕ) → AreDraws (first_draw start t) 0 (log_of logs t)
  pub one : (o t : ℕ) → has_hash o (log_of logs t) ≡ true → all_draws o logs ≡ 1
  pub first : DrawsComeFirst logs
