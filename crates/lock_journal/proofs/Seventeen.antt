-- Seventeen logs: where the last is empty they can be legal, and where it isn't they aren't of sixteen threads.
use Rattle.std.proofs.Common.{◌≡◌, ◌≤◌, ℕ, zero, suc, List, [], ◌∷◌, drop, length, slice_get, Some, refl, arith, rules, lit<}
use Rattle.std.proofs.lemmas.Option.{none-some, same_Some}
use Rattle.std.specs.List.{AllByRecursion}
use Rattle.object_program.specs.Valid.{IsProgram}
use Rattle.plain_machine.specs.Legal.{IsLegal}
use Rattle.plain_machine.specs.Running.{run_on}
use Rattle.plain_monitor.specs.Limits.{most_threads}
use Rattle.plain_monitor.specs.declared.entry.Logged.{Logged}
use Rattle.lock_journal.specs.Examples.{printer, seventeen_logs}
use Rattle.lock_journal.specs.Merging.{AreOfSixteen}

-- AN ENTRY TOO MUCH
not_empty : (logs : List (List Logged)) (t : ℕ) (l : Logged) (log : List Logged) → slice_get logs t ≡ Some (l ∷ log)
    → AllByRecursion (λ x. x ≡ []) logs → ⊥
not_empty [] t l log at all = none-some (l ∷ log) at
not_empty (x ∷ logs) zero l log at all =
    let same : x ≡ l ∷ log = same_Some x (l ∷ log) at in
    let empty : x ≡ [] = all.0 in
    absurd (cc (same, empty))
not_empty (x ∷ logs) (suc t) l log at all = not_empty logs t l log at all.1

after : (n : ℕ) (logs : List (List Logged)) (t : ℕ) (l : Logged) (log : List Logged) → n ≤ t → slice_get logs t ≡ Some (l ∷ log)
    → AllByRecursion (λ x. x ≡ []) (drop n logs) → ⊥
after zero logs t l log past at all = not_empty logs t l log at all
after (suc n) [] t l log past at all = none-some (l ∷ log) at
after (suc n) (x ∷ logs) zero l log past at all = absurd (omega (arith, past))
after (suc n) (x ∷ logs) (suc t) l log past at all = after n logs t l log (omega (arith, past)) at all

pub not_of_sixteen : (logs : List (List Logged)) (t : ℕ) (l : Logged) (log : List Logged) → most_threads ≤ t
    → slice_get logs t ≡ Some (l ∷ log) → AreOfSixteen logs → ⊥
not_of_sixteen logs t l log past at all = after 16 logs t l log past at all

-- LEGAL LOGS
is_program : IsProgram printer
is_program = record {
  class_names = tt;
  class_slots = tt;
  classes_few = omega arith;
  object_names = tt;
  objects = tt;
  objects_few = omega arith;
  thread_names = search;
  threads = (
    record {
      locals = search;
      locals_few = omega arith;
      labels = tt;
      targets = tt;
      code = search (arith, lit<);
      code_few = omega arith;
      ends = search rules;
    },
    tt,
  );
  threads_some = omega arith;
  threads_few = omega arith;
}

is_legal : IsLegal printer 8 seventeen_logs
unfolding run_on
is_legal = record { rises = search (arith, lit<); taken = refl }

pub can_be_legal : IsProgram printer × IsLegal printer 8 seventeen_logs × (length seventeen_logs ≡ 17)
can_be_legal = (is_program, is_legal, refl)
