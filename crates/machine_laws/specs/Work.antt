-- How many entries a machine may still take at most.
use Rattle.std.specs.Prelude.{ℕ, ◌+◌, ◌*◌, List, [], ◌∷◌, sum}
use Rattle.plain_machine.specs.declared.monitor_call.Mode.{Mode}
use Rattle.plain_machine.specs.declared.monitor_call.Mode.TheVariants.{Calling, Waiting, Unwinding, Ended}
use Rattle.plain_machine.specs.Thread.{ThreadState}
use Rattle.plain_machine.specs.Machine.{PlainMachine}

-- the entries that the mode alone may bring: a call or an end is one, and who waits resumes before it ends
abbrev pub mode_work : Mode → ℕ
mode_work (Calling c) = 1
mode_work (Waiting o) = 2
mode_work (Unwinding e) = 1
mode_work (Ended e) = 0

-- each unit of fuel may pay for an enter, which is left again, or for a wait, which is resumed; each hold is left once
abbrev pub work_of : ThreadState → ℕ
work_of s = 2 * s.fuel + sum s.holds + mode_work s.mode

-- the work of these threads
abbrev pub work_in : List ThreadState → ℕ
work_in [] = 0
work_in (s ∷ ss) = work_of s + work_in ss

-- how many entries the machine may still take at most
abbrev pub work_left : PlainMachine → ℕ
work_left m = work_in m.threads
