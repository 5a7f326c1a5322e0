-- The logs of a run are short: each entry uses up work of the machine.
use Rattle.std.proofs.Common.{◌≡◌, ℕ, suc, ◌+◌, ◌*◌, ◌<◌, ◌≤◌, ◌==◌, Bool, true, false, if◌then◌else◌, List, [], ◌∷◌, length, Some, refl, ap, subst, arith}
use Rattle.std.specs.Prelude.{slice_get}
use Rattle.std.proofs.lemmas.Option.{same_Some}
use Rattle.plain_monitor.specs.Limits.{most_threads, most_fuel}
use Rattle.plain_monitor.specs.declared.entry.Entry.{Entry}
use Rattle.plain_monitor.specs.declared.entry.Logged.{Logged}
use Rattle.plain_monitor.specs.History.{log_of}
use Rattle.plain_monitor.specs.Order.{of_thread, order}
use Rattle.plain_monitor.proofs.Threads.{thread_kept}
use Rattle.plain_history.proofs.Joined.{first_some}
use Rattle.object_program.specs.Program.{ProgramText}
use Rattle.object_program.specs.Valid.{IsProgram}
use Rattle.plain_machine.specs.Legal.{IsLegal, after_all, machine_after}
use Rattle.plain_machine.specs.Machine.{PlainMachine, new_machine, take}
use Rattle.machine_laws.specs.Reached.{IsReached}
use Rattle.plain_machine.specs.Thread.{ThreadState}
use Rattle.machine_laws.specs.Work.{work_in, work_left, work_of}
use Rattle.thread_logs.specs.Followed.{FollowsCode, HaveValues}
use Rattle.program_run.proofs.Cut.{the_some}

-- the laws that are asked of machines and of threads
abbrev pub First : Type 0
First = (p : ProgramText) (fuel : ℕ) → IsProgram p → IsReached (new_machine p fuel)

abbrev pub Stay : Type 0
Stay = (m n : PlainMachine) (t : ℕ) (e : Entry) → IsReached m → take m t e ≡ Some n → IsReached n

abbrev pub UseUp : Type 0
UseUp = (m n : PlainMachine) (t : ℕ) (e : Entry) → IsReached m → take m t e ≡ Some n → work_left n < work_left m

abbrev pub Begins : Type 0
Begins = (p : ProgramText) (fuel t : ℕ) (s : ThreadState) → slice_get (new_machine p fuel).threads t ≡ Some s → FollowsCode p fuel t [] s

abbrev pub Works : Type 0
Works = (p : ProgramText) (fuel t : ℕ) (log : List Logged) (s : ThreadState) → IsProgram p → HaveValues p log → FollowsCode p fuel t log s
    → length log + work_of s ≤ 2 * fuel + 1

module _ (stay : Stay) (use_up : UseUp) where
  as_many : (m : PlainMachine) (xs : List (ℕ × Logged)) (n : PlainMachine) → IsReached m → after_all m xs ≡ Some n → length xs + work_left n ≤ work_left m
  as_many m [] n r e =
      let same : work_left m ≡ work_left n = ap work_left (same_Some m n e) in
      omega (arith, same)
  as_many m (x ∷ xs) n r e =
      let next = first_some (λ z. after_all z xs) (take m x.0 x.1.entry) n e in
      let others = as_many next.0 xs n (stay m next.0 x.0 x.1.entry r next.1) next.2 in
      let less = use_up m next.0 x.0 x.1.entry r next.1 in
      omega (arith, others, less)

-- entries of all threads together: two for each unit of fuel of a thread, and an end
abbrev pub most_entries : ℕ
most_entries = most_threads * (2 * most_fuel + 1)

work_few : (ss : List ThreadState) → ((t : ℕ) (s : ThreadState) → slice_get ss t ≡ Some s → work_of s ≤ 2 * most_fuel + 1)
    → work_in ss ≤ length ss * (2 * most_fuel + 1)
work_few [] each = omega arith
work_few (s ∷ ss) each =
    let here = each 0 s refl in
    let others = work_few ss (λ t x e. each (suc t) x e) in
    omega (arith, here, others)

thread_few : (t : ℕ) (xs : List (ℕ × Logged)) → length (of_thread t xs) ≤ length xs
thread_few t [] = omega arith
thread_few t (x ∷ xs) = by_test (x.0 == t) (thread_few t xs)
  where
    by_test : (b : Bool) → length (of_thread t xs) ≤ length xs → length (if b then x.1 ∷ of_thread t xs else of_thread t xs) ≤ length (x ∷ xs)
    by_test true others = omega (arith, others)
    by_test false others = omega (arith, others)

module _ (first : First) (stay : Stay) (use_up : UseUp) (begins : Begins) (works : Works)
    (p : ProgramText) (fuel : ℕ) (is : IsProgram p) (few : fuel ≤ most_fuel) (logs : List (List Logged)) (legal : IsLegal p fuel logs) where
  threads_few : length (new_machine p fuel).threads ≤ most_threads
  threads_few = let r = (first p fuel is).thread_count in let f = is.threads_few in omega (arith, r, f)

  pub log_few : (t : ℕ) → length (log_of logs t) ≤ most_entries
  log_few t =
      let m = the_some (machine_after p fuel logs) legal.taken in
      let all = as_many stay use_up (new_machine p fuel) (order logs) m.0 (first p fuel is) m.1 in
      let work = work_few (new_machine p fuel).threads
      (λ u s at. let w = works p fuel u [] s is tt (begins p fuel u s at) in omega (arith, w, few)) in
      let own : length (log_of logs t) ≤ length (order logs) =
      subst (λ (x : List Logged). length x ≤ length (order logs)) (thread_kept logs t legal.rises) (thread_few t (order logs)) in
      let threads = threads_few in
      omega (arith, all, work, own, threads)
