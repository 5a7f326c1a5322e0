-- A source or a sink over a reader or a writer.
use Rattle.std.specs.Prelude.{ℕ}

pub record Stream (S : Type 0) : Type 0 where
  -- the reader or the writer
  pub inner : S
  -- how many of its reads or writes failed
  pub faults : ℕ

-- before any read or write
abbrev pub new_stream : {S : Type 0} → S → Stream S
new_stream s = record { inner = s; faults = 0 }
