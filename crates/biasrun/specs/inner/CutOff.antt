-- What a call left of which some write failed, where its sink gathers what is written.
use Rattle.std.specs.Prelude.{◌≡◌, Option}
use Rattle.std.specs.Io.KnownBytes.{append_known}
use Rattle.run_io.specs.declared.sink.Sink as of_sink
use Rattle.run_io.specs.Buffered.{Buffered}
use Rattle.cli_args.specs.declared.options.Command.{Command}
use Rattle.bias_cli.specs.Seen.{SourceSeen, SinkSeen}
use Rattle.bias_cli.specs.Finish.{IsFinish}
use Rattle.bias_cli.specs.declared.finish.Finish.{Finish}

-- what the sink behind holds with what is pending, where it tells that, and its count of faults
abbrev pub buffered_seen : {K : Type 0} → of_sink.Ghosts K → Buffered K → SinkSeen
buffered_seen tells sink = record { held = append_known (tells.held sink.inner) sink.pending; faults = tells.faults sink.inner }

-- the call came to an end of its own, with status 6 or with another one, and what it wrote to the sink is there: it is what the sink
-- behind holds, and then what is pending
pub record IsCutOff (c : Option Command) (source_before source_after : SourceSeen) (before after : SinkSeen)
    (finish : Finish) : Type 0 where
  pub called : Finish
  pub seen : SinkSeen
  pub finished : IsFinish c source_before source_after before seen called
  pub held : after.held ≡ seen.held
  pub run : finish.run ≡ called.run
  pub closed : finish.closed ≡ called.closed
