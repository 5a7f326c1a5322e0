-- The published lengths of the logs.
use Rattle.std.specs.Prelude.{◌≡◌, ℕ, ◌≤◌, ◌^◌, Bool, false, List, length}
use Rattle.plain_monitor.specs.declared.entry.Logged.{Logged}

-- what a log may have at most: the stamps of so many entries of each thread fit into a waiting word
abbrev pub log_limit : ℕ
log_limit = 2 ^ 41

pub record LengthsFit (word published : ℕ → ℕ) (log : ℕ → List Logged) (running requesting : ℕ → Bool)
    (halted : Bool) : Type 0 where
  pub few : (t : ℕ) → length (log t) ≤ log_limit
  -- the word is what its own thread last stored
  pub stored : (t : ℕ) → word t ≡ published t
  pub most : (t : ℕ) → published t ≤ length (log t)
  -- a stopped thread has published its whole log, unless the run is halted
  pub all : (t : ℕ) → running t ≡ false → requesting t ≡ false → halted ≡ false → published t ≡ length (log t)
