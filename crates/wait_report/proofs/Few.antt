-- A machine takes few entries: each uses up some of its work, and no more of that is there at first than fuel pays for. And none of them enters an object
-- that the machine hasn't.
use Rattle.std.proofs.Common.{◌≡◌, ℕ, ◌+◌, ◌*◌, ◌<◌, ◌≤◌, ◌^◌, ◌==◌, eqb-true, Bool, true, false, List, [], ◌∷◌, length}
use Rattle.std.proofs.Common.{map, sum, Option, Some, None, IsSome, option_and_then, refl, sym, ap, subst, arith}
use Rattle.std.specs.List.{AllByRecursion}
use Rattle.std.proofs.Math.Nat.{mul-le-mul_right}
use Rattle.std.proofs.lemmas.List.Folds.{sum_by-replicate}
use Rattle.std.proofs.lemmas.Option.{slice_get_within}
use Rattle.plain_monitor.specs.Limits.{most_threads}
use Rattle.plain_monitor.specs.declared.entry.Entry.{Entry}
use Rattle.plain_monitor.specs.declared.entry.Entry.TheVariants.{Enter}
use Rattle.plain_monitor.specs.declared.entry.Logged.{Logged}
use Rattle.plain_monitor.specs.Objects.{PlainObject, take_entry}
use Rattle.plain_monitor.specs.History.{take_all}
use Rattle.object_program.specs.declared.program.ThreadDef.{ThreadDef}
use Rattle.object_program.specs.Program.{ProgramText, objects_total}
use Rattle.object_program.specs.Valid.{IsProgram}
use Rattle.plain_machine.specs.Running.{first_state}
use Rattle.plain_machine.specs.Machine.{PlainMachine, new_machine, take}
use Rattle.plain_machine.specs.Legal.{after_all}
use Rattle.plain_machine.proofs.After.{length_after}
use Rattle.machine_laws.specs.Work.{work_of, work_in, work_left}
use Rattle.machine_laws.specs.Reached.{IsReached}
use Rattle.machine_laws.proofs.ReachedAsked.{taken, taken_at}
use Rattle.machine_laws.proofs.ReachedRunning.{RunsAll, first_run, program_runs}
use Rattle.wait_report.specs.Counts.{is_enter, is_entered}

-- a thread's work before its first entry
first_work : (p : ProgramText) (d : ThreadDef) (fuel : ℕ) → IsProgram p → RunsAll p d → work_of (first_state p d fuel) ≤ 2 * fuel + 1
first_work p d fuel h all =
    let run = first_run p d fuel h all in
    let none = sum_by-replicate (λ (x : ℕ). x) (objects_total p) 0 in
    omega (arith, run.fuel_falls, run.one_entry, ap sum run.holds_stay, none)

works : (p : ProgramText) (fuel : ℕ) (ds : List ThreadDef) → IsProgram p → AllByRecursion (RunsAll p) ds
    → work_in (map (λ d. first_state p d fuel) ds) ≤ length ds * (2 * fuel + 1)
works p fuel [] h all = omega arith
works p fuel (d ∷ ds) h all = omega (arith, first_work p d fuel h all.0, works p fuel ds h all.1)

few_works : (p : ProgramText) (fuel : ℕ) → IsProgram p → fuel < 2 ^ 32 → work_left (new_machine p fuel) < 2 ^ 64
few_works p fuel h small =
    let all = works p fuel p.threads h (program_runs p h) in
    let most : length p.threads * (2 * fuel + 1) ≤ most_threads * (2 * fuel + 1) = mul-le-mul_right (2 * fuel + 1) h.threads_few in
    omega (arith, all, most)

-- what each entry does, as laws say it
pub record UsesWork : Type 0 where
  pub reached : (m n : PlainMachine) (t : ℕ) (e : Entry) → IsReached m → take m t e ≡ Some n → IsReached n
  pub less : (m n : PlainMachine) (t : ℕ) (e : Entry) → IsReached m → take m t e ≡ Some n → work_left n < work_left m

work_bounds : (m : PlainMachine) (xs : List (ℕ × Logged)) → UsesWork → IsReached m → IsSome (after_all m xs) → length xs ≤ work_left m
work_bounds m [] laws reached some = omega arith
work_bounds m (x ∷ xs) laws reached some = by_taking (take m x.0 x.1.entry) refl some (λ n. work_bounds n xs laws) where
  by_taking : (r : Option PlainMachine) → take m x.0 x.1.entry ≡ r → IsSome (option_and_then (λ n. after_all n xs) r)
      → ((n : PlainMachine) → IsReached n → IsSome (after_all n xs) → length xs ≤ work_left n) → length (x ∷ xs) ≤ work_left m
  by_taking None at some rest = absurd (cc some)
  by_taking (Some n) at some rest =
      let few = rest n (laws.reached m n x.0 x.1.entry reached at) some in
      omega (arith, few, laws.less m n x.0 x.1.entry reached at)

-- what a machine takes has fewer entries than a number of 64 bits counts
pub few_entries : (p : ProgramText) (fuel : ℕ) (xs : List (ℕ × Logged)) → UsesWork → IsProgram p → fuel < 2 ^ 32
    → IsReached (new_machine p fuel) → IsSome (after_all (new_machine p fuel) xs) → length xs < 2 ^ 64
few_entries p fuel xs laws h small reached some = omega (arith, few_works p fuel h small, work_bounds (new_machine p fuel) xs laws reached some)

-- the objects take what the machine takes
pub objects_take : (m : PlainMachine) (xs : List (ℕ × Logged)) → IsSome (after_all m xs) → IsSome (take_all m.objects xs)
objects_take m [] some = refl
objects_take m (x ∷ xs) some = by_taking (take m x.0 x.1.entry) refl some (λ n. objects_take n xs) where
  by_taking : (r : Option PlainMachine) → take m x.0 x.1.entry ≡ r → IsSome (option_and_then (λ n. after_all n xs) r)
      → ((n : PlainMachine) → IsSome (after_all n xs) → IsSome (take_all n.objects xs)) → IsSome (take_all m.objects (x ∷ xs))
  by_taking None at some rest = absurd (cc some)
  by_taking (Some n) at some rest =
      let r = taken m x.0 x.1.entry n at in
      let same : r.objects ≡ n.objects = ap (λ (z : PlainMachine). z.objects) r.is in
      rw r.takes (subst (λ (objects : List PlainObject). IsSome (take_all objects xs)) (sym same) (rest n some))

-- an enter that the objects take is of one of them
entered_within : (objects after : List PlainObject) (t o : ℕ) (e : Entry) → take_entry objects t e ≡ Some after → length objects ≤ o → is_enter o e ≡ false
entered_within objects after t o (Enter k path) h past = by_test (k == o) refl where
  by_test : (b : Bool) → (k == o) ≡ b → b ≡ false
  by_test true e =
      let r = taken_at objects k t (Enter k path) after h in
      absurd (omega (arith, eqb-true k o e, slice_get_within objects k r.x r.there, past))
  by_test false e = refl
entered_within objects after t o e h past = refl

-- no other object is entered
pub none_entered : (objects : List PlainObject) (xs : List (ℕ × Logged)) (o : ℕ) → IsSome (take_all objects xs) → length objects ≤ o → is_entered xs o ≡ false
none_entered objects [] o some past = refl
none_entered objects (x ∷ xs) o some past = by_taking (take_entry objects x.0 x.1.entry) refl some (λ after. none_entered after xs o) where
  by_taking : (r : Option (List PlainObject)) → take_entry objects x.0 x.1.entry ≡ r → IsSome (option_and_then (λ after. take_all after xs) r)
      → ((after : List PlainObject) → IsSome (take_all after xs) → length after ≤ o → is_entered xs o ≡ false) → is_entered (x ∷ xs) o ≡ false
  by_taking None at some rest = absurd (cc some)
  by_taking (Some after) at some rest =
      rw (entered_within objects after x.0 o x.1.entry at past) (rest after some (omega (arith, length_after objects after x.0 x.1.entry at, past)))
