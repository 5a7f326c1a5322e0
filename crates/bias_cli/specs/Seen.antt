-- What a source and a sink tell at one moment.
use Rattle.std.specs.Prelude.{ℕ, List, Option}
use Rattle.run_io.specs.declared.source.Source as of_source
use Rattle.run_io.specs.declared.sink.Sink as of_sink

-- the bytes that are left, where the source tells that, and its count of faults
pub record SourceSeen : Type 0 where
  pub left : Option (List ℕ)
  pub faults : ℕ

-- the bytes that the sink holds, where it tells that, and its count of faults
pub record SinkSeen : Type 0 where
  pub held : Option (List ℕ)
  pub faults : ℕ

abbrev pub source_seen : {S : Type 0} → of_source.Ghosts S → S → SourceSeen
source_seen tells source = record { left = tells.left source; faults = tells.faults source }

abbrev pub sink_seen : {K : Type 0} → of_sink.Ghosts K → K → SinkSeen
sink_seen tells sink = record { held = tells.held sink; faults = tells.faults sink }
