-- How many entries a run of a program has at most: each uses up work of the machine.
use Rattle.std.proofs.Common.{◌≡◌, ℕ, ◌+◌, ◌*◌, ◌≤◌, List, [], ◌∷◌, length, map, replicate, sum, Some, ap, ◌∙◌, arith}
use Rattle.std.specs.List.{AllByRecursion}
use Rattle.std.proofs.lemmas.List.Folds.{sum_by-replicate}
use Rattle.std.proofs.lemmas.Option.{same_Some}
use Rattle.plain_monitor.specs.Limits.{most_fuel, most_threads}
use Rattle.plain_monitor.specs.declared.entry.Logged.{Logged}
use Rattle.plain_monitor.specs.Order.{order}
use Rattle.plain_history.proofs.Joined.{first_some}
use Rattle.object_program.specs.declared.program.ThreadDef.{ThreadDef}
use Rattle.object_program.specs.Program.{ProgramText, objects_total}
use Rattle.object_program.specs.Valid.{IsProgram}
use Rattle.plain_machine.specs.Legal.{after_all, machine_after}
use Rattle.plain_machine.specs.Machine.{PlainMachine, new_machine, take}
use Rattle.plain_machine.specs.Running.{first_state}
use Rattle.machine_laws.specs.Reached.{IsReached}
use Rattle.machine_laws.specs.Work.{work_in, work_left, work_of}
use Rattle.machine_laws.proofs.ReachedEntries.{progress}
use Rattle.machine_laws.proofs.ReachedFirst.{first_is_reached}
use Rattle.machine_laws.proofs.ReachedRunning.{RunsAll, first_run, program_runs}

as_many : (m : PlainMachine) (xs : List (ℕ × Logged)) (last : PlainMachine)
    → IsReached m → after_all m xs ≡ Some last → length xs + work_left last ≤ work_left m
as_many m [] last r e = let same : work_left m ≡ work_left last = ap work_left (same_Some m last e) in omega (arith, same)
as_many m (x ∷ xs) last r e =
    let next = first_some (λ z. after_all z xs) (take m x.0 x.1.entry) last e in
    let step = progress m next.0 x.0 x.1.entry r next.1 in
    let others = as_many next.0 xs last step.reached next.2 in
    omega (arith, others, step.work)

none_held : (n : ℕ) → sum (replicate n 0) ≡ 0
none_held n = let nothing = sum_by-replicate (λ (x : ℕ). x) n 0 in omega (arith, nothing)

module _ (p : ProgramText) (fuel : ℕ) (is : IsProgram p) (few : fuel ≤ most_fuel) where
  first_work : (d : ThreadDef) → RunsAll p d → work_of (first_state p d fuel) ≤ 2 * most_fuel + 1
  first_work d runs =
      let r = first_run p d fuel is runs in
      let holds : sum (first_state p d fuel).holds ≡ 0 = ap (λ (ns : List ℕ). sum ns) r.holds_stay ∙ none_held (objects_total p) in
      omega (arith, holds, r.fuel_falls, r.one_entry, few)

  first_works : (ds : List ThreadDef) → AllByRecursion (RunsAll p) ds → work_in (map (λ d. first_state p d fuel) ds) ≤ length ds * (2 * most_fuel + 1)
  first_works [] runs = omega arith
  first_works (d ∷ ds) runs =
      let here = first_work d runs.0 in
      let others = first_works ds runs.1 in
      omega (arith, here, others)

  pub entries_few : (logs : List (List Logged)) (m : PlainMachine)
      → machine_after p fuel logs ≡ Some m → length (order logs) ≤ most_threads * (2 * most_fuel + 1)
  entries_few logs m under =
      let all = as_many (new_machine p fuel) (order logs) m (first_is_reached p fuel is) under in
      let works = first_works p.threads (program_runs p is) in
      omega (arith, all, works, is.threads_few)
