-- A mark is 0 exactly while one thread inflates it.
use Rattle.std.specs.Prelude.{◌≡◌, ℕ, Option, Some}
use Rattle.core_world.specs.Threads.Stages.{Inflation}

-- `inflates` is by thread, `inflation` by object
pub record InflationsAreOne (mark : ℕ → ℕ) (inflates inflation : ℕ → Option Inflation) : Type 0 where
  pub some : (o : ℕ) → mark o ≡ 0 → (t : ℕ) × (i : Inflation) × (inflates t ≡ Some i) × (i.object ≡ o)
      × (inflation o ≡ Some i)
  pub zero : (t : ℕ) (i : Inflation) → inflates t ≡ Some i → mark i.object ≡ 0
  pub one : (t u : ℕ) (i j : Inflation) → inflates t ≡ Some i → inflates u ≡ Some j → i.object ≡ j.object → t ≡ u
