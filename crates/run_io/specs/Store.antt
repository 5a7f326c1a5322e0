-- A sink in memory, and what a write does to it.
use Rattle.std.specs.Prelude.{ℕ, ◌-◌, min, Bool, ◌&&◌, ◌||◌, nat_le, nat_lt, List, [], ◌++◌, length, take}
use Rattle.run_io.specs.Faults.{count_on, is_listed}

pub record Store : Type 0 where
  -- the bytes that it holds
  pub held : List ℕ
  -- how many bytes it may hold
  pub room : ℕ
  -- how many writes failed
  pub faults : ℕ
  -- how many writes there were
  pub calls : ℕ
  -- the numbers of the writes that fail, from 1
  pub fails : List ℕ
  -- the most bytes that a write takes
  pub cut : ℕ

-- before any write
abbrev pub new_store : ℕ → List ℕ → ℕ → Store
new_store room fails cut = record { held = []; room = room; faults = 0; calls = 0; fails = fails; cut = cut }

-- no byte more has room
abbrev pub is_full : Store → Bool
is_full s = nat_le s.room (length s.held)

-- the next write, of a piece of this length, fails: its number is listed, or there is a byte and no room for it
abbrev pub write_fails : Store → ℕ → Bool
write_fails s size = is_listed s.fails (count_on s.calls) || (nat_lt 0 size && is_full s)

-- how many bytes the next write takes of a piece of this length, if it doesn't fail
abbrev pub write_count : Store → ℕ → ℕ
write_count s size = min (min size s.cut) (s.room - length s.held)

-- after a write that failed
abbrev pub write_failed : Store → Store
write_failed s = record s { calls = count_on s.calls; faults = count_on s.faults }

-- after a write that took the first n bytes of the piece
abbrev pub write_took : Store → List ℕ → ℕ → Store
write_took s piece n = record s { calls = count_on s.calls; held = s.held ++ take n piece }
