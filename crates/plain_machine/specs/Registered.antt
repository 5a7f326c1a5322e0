-- What contracts see of a `Register`.
use Rattle.std.specs.Prelude.{ℕ, List}
use Rattle.plain_monitor.specs.Made.{Numbering}

pub record Registered : Type 0 where
  pub numbering : Numbering
  -- the classes of the objects that each thread has made
  pub made : List (List ℕ)
