-- One instruction of a run.
use Rattle.std.proofs.Common.{◌≡◌, ℕ, ◌+◌, ◌-◌, ◌<◌, zero, suc, List, refl, arith}
use Rattle.object_program.specs.declared.program.Code.{Code}
use Rattle.object_program.specs.Program.{ProgramText}
use Rattle.plain_monitor.specs.declared.entry.Ending.{Ending}
use Rattle.plain_monitor.specs.declared.entry.Ending.TheVariants.{Spent}
use Rattle.plain_machine.specs.declared.monitor_call.MonitorCall.{MonitorCall}
use Rattle.plain_machine.specs.declared.monitor_call.Mode.TheVariants.{Calling, Unwinding}
use Rattle.plain_machine.specs.Thread.{ThreadState, Goes, Calls, Stops, step_of}
use Rattle.plain_machine.specs.Running.{run_on, instruction_at}

pub run_goes : (p : ProgramText) (c : List Code) (n : ℕ) (s next : ThreadState) → 0 < n
    → step_of p s (instruction_at c s.place) ≡ Goes next → run_on p c n s ≡ run_on p c (n - 1) next
unfolding run_on
run_goes p c zero s next h e = absurd (omega arith)
run_goes p c (suc n) s next h e = let m : suc n - 1 ≡ n = omega arith in rw (m, e) refl

pub run_calls : (p : ProgramText) (c : List Code) (n : ℕ) (s : ThreadState) (k : MonitorCall) → 0 < n
    → step_of p s (instruction_at c s.place) ≡ Calls k → run_on p c n s ≡ record s { fuel = n; mode = Calling k }
unfolding run_on
run_calls p c zero s k h e = absurd (omega arith)
run_calls p c (suc n) s k h e = let m : n + 1 ≡ suc n = omega arith in rw (e, m) refl

pub run_stops : (p : ProgramText) (c : List Code) (n : ℕ) (s : ThreadState) (k : Ending) → 0 < n
    → step_of p s (instruction_at c s.place) ≡ Stops k → run_on p c n s ≡ record s { fuel = n - 1; mode = Unwinding k }
unfolding run_on
run_stops p c zero s k h e = absurd (omega arith)
run_stops p c (suc n) s k h e = let m : suc n - 1 ≡ n = omega arith in rw (m, e) refl

pub run_spent : (p : ProgramText) (c : List Code) (n : ℕ) (s : ThreadState) → n ≡ 0
    → run_on p c n s ≡ record s { fuel = 0; mode = Unwinding Spent }
unfolding run_on
run_spent p c n s e = rw e refl

pub ruleset run_steps = (run_goes, run_calls, run_stops, run_spent)
