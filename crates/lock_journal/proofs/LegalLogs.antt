-- Legal logs have entries of the program's threads alone.
use Rattle.std.proofs.Common.{◌≡◌, ℕ, ◌<◌, ◌≤◌, ◌==◌, false, List, [], ◌∷◌, length, slice_get, slice_set}
use Rattle.std.proofs.Common.{Option, Some, None, IsSome, option_and_then, refl, ap, sym, ◌∙◌, arith}
use Rattle.std.proofs.lemmas.Bool.Decides.{nat_tests}
use Rattle.std.proofs.lemmas.List.{length-map, length-set}
use Rattle.std.proofs.lemmas.Option.{same_Some, slice_get_within}
use Rattle.plain_monitor.specs.Limits.{most_threads}
use Rattle.plain_monitor.specs.declared.entry.Logged.{Logged}
use Rattle.plain_monitor.specs.declared.entry.Entry.{Entry}
use Rattle.plain_monitor.specs.Objects.{PlainObject, take_entry}
use Rattle.plain_monitor.specs.Order.{order, of_thread}
use Rattle.plain_monitor.proofs.Threads.{thread_kept}
use Rattle.object_program.specs.Program.{ProgramText}
use Rattle.object_program.specs.Valid.{IsProgram}
use Rattle.plain_machine.specs.Thread.{ThreadState}
use Rattle.plain_machine.specs.Asking.{thread_after}
use Rattle.plain_machine.specs.Machine.{PlainMachine, code_of, made_after_entry, moved, new_machine, take}
use Rattle.plain_machine.specs.Legal.{IsLegal, after_all}
use Rattle.lock_journal.specs.Merging.{AreOfSixteen}
use Rattle.lock_journal.proofs.Sixteen.{empty_after}

-- thread t of m made an entry, and n has as many threads
record IsOfThread (m n : PlainMachine) (t : ℕ) : Type 0 where
  pub thread : t < length m.threads
  pub threads : length n.threads ≡ length m.threads

-- what moves on keeps the number of threads
as_many : (m n : PlainMachine) (t : ℕ) (after : Option ThreadState) (made : Option (List (List ℕ))) (objects : Option (List PlainObject))
    → moved m t after made objects ≡ Some n
    → length n.threads ≡ length m.threads
as_many m n t None made objects h = absurd (cc h)
as_many m n t (Some s) None objects h = absurd (cc h)
as_many m n t (Some s) (Some made) None h = absurd (cc h)
as_many m n t (Some s) (Some made) (Some objects) h =
    let same : record m { objects = objects; made = made; threads = slice_set m.threads t s } ≡ n = same_Some _ n h in
    sym (ap (λ (k : PlainMachine). length k.threads) same) ∙ length-set m.threads t s

-- a machine takes an entry of one of its threads alone
own_thread : (m n : PlainMachine) (t : ℕ) (e : Entry) → take m t e ≡ Some n → IsOfThread m n t
own_thread m n t e h = by_thread (slice_get m.threads t) refl h where
  by_thread : (r : Option ThreadState) → slice_get m.threads t ≡ r
      → option_and_then (λ s. moved m t (thread_after m.program (code_of m.program t) s e)
      (made_after_entry m t e) (take_entry m.objects t e)) r ≡ Some n → IsOfThread m n t
  by_thread None at h = absurd (cc h)
  by_thread (Some s) at h = record {
    thread = slice_get_within m.threads t s at;
    threads = as_many m n t (thread_after m.program (code_of m.program t) s e) (made_after_entry m t e) (take_entry m.objects t e) h;
  }

-- among entries that a machine takes there is none of a thread that it doesn't have
none_of_others : (m : PlainMachine) (t : ℕ) (xs : List (ℕ × Logged)) → length m.threads ≤ t → IsSome (after_all m xs) → of_thread t xs ≡ []
none_of_others m t [] past some = refl
none_of_others m t (x ∷ xs) past some = by_taking (take m x.0 x.1.entry) refl some (λ n. none_of_others n t xs) where
  by_taking : (r : Option PlainMachine) → take m x.0 x.1.entry ≡ r → IsSome (option_and_then (λ n. after_all n xs) r)
      → ((n : PlainMachine) → length n.threads ≤ t → IsSome (after_all n xs) → of_thread t xs ≡ []) → of_thread t (x ∷ xs) ≡ []
  by_taking None at some rest = absurd (cc some)
  by_taking (Some n) at some rest =
      let own = own_thread m n x.0 x.1.entry at in
      let other : (x.0 == t) ≡ false = grind (arith, nat_tests, own.thread, past) in
      rw other (rest n (omega (arith, own.threads, past)) some)

-- so the logs after the sixteenth are empty
pub legal_of_sixteen : (p : ProgramText) (fuel : ℕ) (logs : List (List Logged)) → IsProgram p → IsLegal p fuel logs → AreOfSixteen logs
legal_of_sixteen p fuel logs valid legal =
    let few = valid.threads_few in
    let threads : length (new_machine p fuel).threads ≡ length p.threads = length-map p.threads _ in
    empty_after most_threads logs (λ t past.
    sym (thread_kept logs t legal.rises) ∙ none_of_others (new_machine p fuel) t (order logs) (omega (arith, few, threads, past)) legal.taken)
