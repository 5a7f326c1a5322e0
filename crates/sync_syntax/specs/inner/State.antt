-- What contracts see of the reader's state.
use Rattle.std.specs.Prelude.{map}
use Rattle.program_syntax.specs.State.{before_of}
use Rattle.sync_source.specs.SourceView.{thread_text}
use Rattle.sync_syntax.specs.declared.state.SyncReader.{SyncReader}
use Rattle.sync_syntax.specs.Reading.{SyncBefore}
use Rattle.sync_syntax.specs.inner.Views.{blocks_of}

-- what the lines so far have declared
abbrev pub sync_before : SyncReader → SyncBefore
sync_before r =
    record { plain = before_of r.plain; threads = map thread_text r.threads.items; blocks = blocks_of r.blocks }
