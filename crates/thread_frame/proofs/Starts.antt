-- A frame before its first instruction is the first state of its thread.
use Rattle.std.proofs.Common.{◌≡◌, ℕ, zero, suc, ◌<◌, List, [], ◌∷◌, map, length, replicate, take, slice_get, slice_index_or, Some, sym, ap, arith}
use Rattle.std.specs.List.{AllByRecursion}
use Rattle.std.proofs.lemmas.List.{take-replicate}
use Rattle.plain_monitor.specs.declared.entry.Ending.TheVariants.{Done}
use Rattle.plain_monitor.specs.declared.entry.Value.{Value}
use Rattle.plain_monitor.specs.declared.entry.Value.TheVariants.{Nil}
use Rattle.object_program.specs.declared.program.ThreadDef.{ThreadDef}
use Rattle.object_program.specs.Program.{ProgramText, objects_total}
use Rattle.object_program.specs.Valid.{IsProgram, IsThread}
use Rattle.plain_machine.specs.declared.monitor_call.Mode.TheVariants.{Unwinding}
use Rattle.plain_machine.specs.Machine.{new_machine}
use Rattle.plain_machine.specs.Running.{first_state, run_on}
use Rattle.plain_machine.specs.Thread.{ThreadState}
use Rattle.thread_frame.specs.Frames.{first_frame, next_state}

-- a thread with these locals that has not run
abbrev unrun_with : ProgramText → ℕ → List Value → ThreadState
unrun_with p fuel locals =
    record { place = 0; locals = locals; fuel = fuel; holds = replicate (objects_total p) 0; dumps = 0; made = 0; mode = Unwinding Done }

first_at : (p : ProgramText) (fuel classes objects : ℕ) (ds : List ThreadDef) (t : ℕ) → AllByRecursion (IsThread classes objects) ds → t < length ds
    → slice_get (map (λ d. first_state p d fuel) ds) t ≡ Some (run_on p (slice_index_or (map (λ d. d.code) ds) t []) fuel
    (unrun_with p fuel (take (length (slice_index_or (map (λ d. d.locals) ds) t [])) (replicate 32 Nil))))
first_at p fuel classes objects [] t all l = absurd (omega (arith, l))
first_at p fuel classes objects (d ∷ ds) zero all l =
    ap (λ locals. Some (run_on p d.code fuel (unrun_with p fuel locals))) (sym (take-replicate (length d.locals) 32 Nil all.0.locals_few))
first_at p fuel classes objects (d ∷ ds) (suc t) all l = first_at p fuel classes objects ds t all.1 (omega (arith, l))

pub starts : (p : ProgramText) (fuel t : ℕ) → IsProgram p → t < length p.threads
    → slice_get (new_machine p fuel).threads t ≡ Some (next_state p t (replicate (objects_total p) 0) (first_frame fuel))
starts p fuel t h l = first_at p fuel (length p.classes) (length p.objects) p.threads t h.threads l
