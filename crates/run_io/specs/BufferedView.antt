-- What contracts see of a `BufferedSink`.
use Rattle.std.specs.Prelude.{◌<◌, ◌≤◌, vec_len, vec_capacity}
use Rattle.run_io.specs.declared.buffered_sink.BufferedSink.TheInside.{Inside}
use Rattle.run_io.specs.Buffered.{Buffered}

abbrev pub buffered_of : {S : Type 0} → Inside S → Buffered S
buffered_of a = record { inner = a.sink; pending = a.bytes.items; room = a.room }

-- no more is pending than there is room for, all of the room was taken, and there is some
pub record IsBuffered {S : Type 0} (a : Inside S) : Type 0 where
  pub within : vec_len a.bytes ≤ a.room
  pub reserved : a.room ≤ vec_capacity a.bytes
  pub some : 0 < a.room
