-- A runner by its parts.
use Rattle.std.specs.Prelude.{ℕ}
use Rattle.heap_table.specs.Seen.{PassSeen}
use Rattle.thread_frame.specs.Frames.{FrameSeen}
use Rattle.thread_interp.specs.Runners.{RunnerSeen}

-- the runner of this pass
abbrev pub runner_of : PassSeen → FrameSeen → ℕ → RunnerSeen
runner_of pass frame fuel = record { pass = pass; frame = frame; fuel = fuel }
