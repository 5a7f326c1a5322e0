-- What holds of a pass, and of the state of its thread, between two calls.
use Rattle.std.specs.Prelude.{◌≡◌, ℕ, ◌≤◌, true, false, length, Option, is_some}
use Rattle.plain_monitor.specs.Limits.{most_fuel, entries_for}
use Rattle.core_world.specs.declared.heap_call.Unfinished.{Unfinished}
use Rattle.heap_table.specs.Resting.{Rests}
use Rattle.heap_table.specs.Seen.{HeapSeen, PassSeen}
use Rattle.object_program.specs.Program.{ProgramText, declared_total, shape_of}
use Rattle.object_program.specs.Valid.{IsProgram}
use Rattle.plain_machine.specs.Asking.{ask}
use Rattle.plain_machine.specs.Thread.{ThreadState}
use Rattle.thread_calls.specs.Asked.{unfinished_of, IsAtMost}
use Rattle.thread_frame.specs.Frames.{FrameSeen, next_state, has_ended}
use Rattle.thread_frame.specs.Sights.{counts_from}
use Rattle.thread_logs.specs.Followed.{FollowsCode, HaveValues}

-- The heap is one for the program: it has a place for each thread and each class, and the program's objects, of which the declared ones have the first
-- numbers; the others are those that threads may make.
pub record IsHeapOf (h : HeapSeen) (p : ProgramText) : Type 0 where
  pub program : IsProgram p
  pub threads : h.heap.shape.threads ≡ length p.threads
  pub classes : h.heap.shape.classes ≡ length p.classes
  pub objects : h.heap.shape.objects ≡ shape_of p
  pub declared : h.heap.shape.declared ≡ declared_total p

-- the thread of the plain machine before its next entry, by its frame and by the pass's hold words
abbrev pub state_by : HeapSeen → ProgramText → PassSeen → FrameSeen → ThreadState
state_by h p pass frame =
    next_state p pass.known.thread (counts_from 0 (length h.heap.shape.objects) pass.known.holds) frame

-- an operation is unfinished, which is this one, and the frame stands before it
pub record StandsFor (frame : FrameSeen) (unfinished asked : Option Unfinished) : Type 0 where
  pub live : has_ended frame ≡ false
  pub before : is_some frame.mode ≡ true
  pub some : is_some unfinished ≡ true
  pub is : unfinished ≡ asked

-- The pass rests, its log follows the code of its thread and leads to where the frame stands, and the operation that is unfinished, if any, is
-- the one that the thread asks next. The log has room for all that the thread may still log.
pub record IsOn (h : HeapSeen) (p : ProgramText) (fuel : ℕ) (pass : PassSeen) (frame : FrameSeen) : Type 0 where
  pub rests : Rests h pass
  pub follows : FollowsCode p fuel pass.known.thread pass.known.log (state_by h p pass frame)
  pub values : HaveValues p pass.known.log
  pub few : fuel ≤ most_fuel
  pub limit : pass.limit ≡ entries_for fuel
  pub spent : frame.fuel ≤ fuel
  pub unfinished : IsAtMost pass.known.unfinished (unfinished_of (ask (state_by h p pass frame)))
  -- its request stands for that operation, which its frame stands before, or for a check, which a thread that has ended doesn't make
  pub asks : pass.known.requesting ≡ true → pass.known.checking ≡ false
      → StandsFor frame pass.known.unfinished (unfinished_of (ask (state_by h p pass frame)))
  pub checks : pass.known.checking ≡ true → has_ended frame ≡ false
