-- A runner as contracts see it, and what holds of it between two turns.
use Rattle.std.specs.Prelude.{◌≡◌, ℕ, false}
use Rattle.heap_table.specs.Seen.{HeapSeen, PassSeen}
use Rattle.object_program.specs.Program.{ProgramText}
use Rattle.thread_calls.specs.Between.{IsOn}
use Rattle.thread_frame.specs.Frames.{FrameSeen}

pub record RunnerSeen : Type 0 where
  pub pass : PassSeen
  pub frame : FrameSeen
  -- how many instructions its thread may execute in all
  pub fuel : ℕ

-- a runner of the heap and the program, between two turns: its thread doesn't run
pub record IsRunner (h : HeapSeen) (p : ProgramText) (r : RunnerSeen) : Type 0 where
  pub on : IsOn h p r.fuel r.pass r.frame
  pub still : r.pass.known.running ≡ false

-- it is a runner of the same thread, with the same fuel
pub record IsSame (r q : RunnerSeen) : Type 0 where
  pub thread : q.pass.known.thread ≡ r.pass.known.thread
  pub fuel : q.fuel ≡ r.fuel
