-- A source in memory, and what a read does to it.
use Rattle.std.specs.Prelude.{ℕ, min, Bool, List, ◌++◌, length, take, drop}
use Rattle.run_io.specs.Faults.{count_on, is_listed}

pub record Supply : Type 0 where
  -- the bytes that are left
  pub left : List ℕ
  -- how many reads failed
  pub faults : ℕ
  -- how many reads there were
  pub calls : ℕ
  -- the numbers of the reads that fail, from 1
  pub fails : List ℕ
  -- the most bytes that a read gives
  pub cut : ℕ

-- before any read
abbrev pub new_supply : List ℕ → List ℕ → ℕ → Supply
new_supply bytes fails cut = record { left = bytes; faults = 0; calls = 0; fails = fails; cut = cut }

-- the next read fails
abbrev pub read_fails : Supply → Bool
read_fails s = is_listed s.fails (count_on s.calls)

-- how many bytes the next read gives, if it doesn't fail, to a buffer of this length
abbrev pub read_count : Supply → ℕ → ℕ
read_count s room = min (min room s.cut) (length s.left)

-- after a read that failed
abbrev pub read_failed : Supply → Supply
read_failed s = record s { calls = count_on s.calls; faults = count_on s.faults }

-- after a read that gave n bytes
abbrev pub read_gave : Supply → ℕ → Supply
read_gave s n = record s { calls = count_on s.calls; left = drop n s.left }

-- the buffer after a read that gave n bytes
abbrev pub filled : Supply → List ℕ → ℕ → List ℕ
filled s buffer n = take n s.left ++ drop n buffer
