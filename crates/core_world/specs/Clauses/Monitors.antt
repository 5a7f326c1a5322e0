-- The words of a monitor that a mark names.
use Rattle.std.specs.Prelude.{◌≡◌, ℕ, true, Option, Some}
use Rattle.core_world.specs.Words.Forms.{is_neutral}

pub record MonitorsAreNamed (monitor : ℕ → Option ℕ) (object header : ℕ → ℕ) : Type 0 where
  pub own : (o m : ℕ) → monitor o ≡ Some m → object m ≡ o
  pub neutral : (o m : ℕ) → monitor o ≡ Some m → is_neutral (header m) ≡ true
  -- no other mark names it
  pub alone : (o i m : ℕ) → monitor o ≡ Some m → monitor i ≡ Some m → o ≡ i
