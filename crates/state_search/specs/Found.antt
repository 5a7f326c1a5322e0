-- The keys that a search has found.
use Rattle.std.specs.Prelude.{ℕ, List}
use Rattle.state_search.specs.declared.found.Origin.{Origin}

pub record Keys : Type 0 where
  -- each with its words, in the order in which they were found
  pub keys : List (List ℕ)
  -- for each of them, in the same order, which key led to it first, and by which choice
  pub origins : List Origin
  -- how many of them, the first ones, the search went into
  pub gone : ℕ
