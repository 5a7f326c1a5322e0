-- What the code that places threads beside their objects, step by step, comes to.
use Rattle.std.proofs.Common.{◌≡◌, ℕ, ◌+◌, ◌<◌, ◌≤◌, List, length, set, sum, refl, arith}
use Rattle.std.proofs.lemmas.List.Sums.{sum_by-set}
use Rattle.plain_monitor.specs.declared.entry.Ending.TheVariants.{Done}
use Rattle.object_program.specs.declared.program.Code.{Code}
use Rattle.object_program.specs.Program.{ProgramText}
use Rattle.plain_machine.specs.declared.monitor_call.Mode.{Mode}
use Rattle.plain_machine.specs.declared.monitor_call.Mode.TheVariants.{Unwinding}
use Rattle.plain_machine.specs.Thread.{ThreadState, step_of}
use Rattle.plain_machine.specs.Running.{instruction_at}
use Rattle.machine_words.specs.ThreadWords.{calling_in}
use Rattle.machine_words.specs.inner.Reading.{placed_mode, placed}

-- a number that is put among others adds no more than itself
pub sum_put : (ns : List ℕ) (k n : ℕ) → k < length ns → sum (set ns k n) ≤ sum ns + n
sum_put ns k n lt = let moved = sum_by-set (λ x. x) ns k n 0 lt in omega (arith, moved)

pub placed_is : (p : ProgramText) (code : List Code) (fuel : ℕ) (s s1 s2 : ThreadState) (told mode : Mode) → told ≡ s.mode
    → s1 ≡ record s { fuel = fuel; mode = Unwinding Done }
    → mode ≡ placed_mode (calling_in (step_of p s1 (instruction_at code s1.place))) told → s2 ≡ record s1 { fuel = fuel; mode = mode }
    → s2 ≡ placed p code fuel s
placed_is p code fuel s s1 s2 told mode is_told e1 is_mode e2 = rw (e2, is_mode, e1, is_told) refl
