-- A sink that gathers the bytes written to it before another sink gets them.
use Rattle.std.specs.Prelude.{ℕ, List, []}

pub record Buffered (S : Type 0) : Type 0 where
  -- the sink behind
  pub inner : S
  -- the bytes that were taken, and that the sink behind hasn't got
  pub pending : List ℕ
  -- how many bytes may be pending
  pub room : ℕ

-- before any write
abbrev pub new_buffered : {S : Type 0} → S → ℕ → Buffered S
new_buffered s room = record { inner = s; pending = []; room = room }
