-- How a thread runs: its local instructions, up to the call that it stands before, or to its end.
use Rattle.std.specs.Prelude.{ℕ, zero, suc, ◌+◌, List, replicate, length, slice_index_or}
use Rattle.plain_monitor.specs.declared.entry.Value.TheVariants.{Nil}
use Rattle.plain_monitor.specs.declared.entry.Ending.TheVariants.{Spent, Done}
use Rattle.object_program.specs.declared.program.Code.{Code}
use Rattle.object_program.specs.declared.program.Code.TheVariants as code
use Rattle.object_program.specs.declared.program.ThreadDef.{ThreadDef}
use Rattle.object_program.specs.Program.{ProgramText, objects_total}
use Rattle.plain_machine.specs.declared.monitor_call.Mode.TheVariants.{Calling, Unwinding}
use Rattle.plain_machine.specs.Thread.{ThreadState, Step, Goes, Calls, Stops, step_of}

abbrev pub instruction_at : List Code → ℕ → Code
instruction_at instructions place = slice_index_or instructions place code.End

-- what a step leads to, for a thread that has n units of fuel after it; a call is paid for when it is made
abbrev pub after_step : ThreadState → ℕ → Step → (ThreadState → ThreadState) → ThreadState
after_step s n (Goes next) go_on = go_on next
after_step s n (Calls c) go_on = record s { fuel = n + 1; mode = Calling c }
after_step s n (Stops ending) go_on = record s { fuel = n; mode = Unwinding ending }

-- runs a thread that has this much fuel: each instruction costs one, and where none is left before one the thread is spent
unfoldable pub run_on : ProgramText → List Code → ℕ → ThreadState → ThreadState
run_on p instructions zero s = record s { fuel = 0; mode = Unwinding Spent }
run_on p instructions (suc n) s =
    after_step s n (step_of p s (instruction_at instructions s.place)) (λ next. run_on p instructions n next)

-- the thread before its first call: locals are nil, and it holds nothing
abbrev pub first_state : ProgramText → ThreadDef → ℕ → ThreadState
first_state p t fuel =
    run_on p t.code fuel (record {
      place = 0;
      locals = replicate (length t.locals) Nil;
      fuel = fuel;
      holds = replicate (objects_total p) 0;
      dumps = 0;
      made = 0;
      mode = Unwinding Done;
    })
