-- The runners of passes on which no call was made yet.
use Rattle.std.specs.Prelude.{ℕ}
use Rattle.heap_table.specs.Seen.{PassSeen}
use Rattle.thread_frame.specs.Frames.{first_frame}
use Rattle.thread_interp.specs.Runners.{RunnerSeen}

-- a thread that has not moved yet
abbrev pub runner_on : ℕ → PassSeen → RunnerSeen
runner_on fuel pass = record { pass = pass; frame = first_frame fuel; fuel = fuel }
