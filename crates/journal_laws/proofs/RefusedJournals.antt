-- Entries that can't be told, and answers that aren't true of a journal.
use Rattle.std.proofs.Common.{◌≡◌, ◌≢◌, ℕ, ◌<◌, ◌≤◌, ◌^◌, not, true, List, [], ◌∷◌, length, map, None}
use Rattle.std.proofs.Common.{refl, sym, ◌∙◌, arith, Ok}
use Rattle.std.specs.List.{AllByRecursion, list_all}
use Rattle.std.proofs.lemmas.List.{length-append}
use Rattle.bias_check.specs.declared.answer.Checked.{Checked}
use Rattle.bias_check.specs.declared.answer.Checked.TheVariants.{Legal, BadHash}
use Rattle.bias_check.specs.declared.answer.Reached.{Reached}
use Rattle.bias_check.specs.declared.answer.Reached.TheVariants.{Ended, Stuck}
use Rattle.bias_check.specs.Answer.{IsTrueOf, state_of}
use Rattle.bias_check.specs.Lines.{numbers_total}
use Rattle.bias_check.specs.Printed.{IsTellable, journal_of}
use Rattle.bias_check.proofs.JournalsRun.{journal_run}
use Rattle.bias_check.proofs.TrueAnswers.{found_only}
use Rattle.hash_laws.specs.HashExample.{hash_end, hash_fuel, hash_logs, hash_program}
use Rattle.hash_laws.proofs.HashExample.{fit, legal, program, stamps, under}
use Rattle.lock_journal.specs.RunText.{journal_line, text_of_lines}
use Rattle.object_program.specs.Program.{ProgramText}
use Rattle.object_program.specs.Valid.{IsProgram}
use Rattle.plain_machine.specs.Machine.{PlainMachine, is_live, is_stuck}
use Rattle.plain_monitor.specs.declared.entry.Entry.{Entry}
use Rattle.plain_monitor.specs.declared.entry.Entry.TheVariants.{Exit, Hash}
use Rattle.plain_monitor.specs.declared.entry.Logged.{Logged}
use Rattle.plain_monitor.specs.Order.{order}
use Rattle.journal_laws.proofs.EntriesTold.{all_tellable}
use Rattle.journal_laws.proofs.LegalJournals.{ended_state, legal_journal, stuck_state}

-- STAMPS AND ENTRIES
pub above : (n : ℕ) (e : Entry) → 2 ≤ n
    → AllByRecursion (λ (x : ℕ × Logged). x.1.stamp ≤ length (order ((record { stamp = n; entry = e } ∷ []) ∷ [])))
    (order ((record { stamp = n; entry = e } ∷ []) ∷ [])) → ⊥
above n e more all = let here : n ≤ 1 = all.0 in omega (arith, more, here)

pub no_object : (p : ProgramText) (o : ℕ) → numbers_total p ≤ o
    → AllByRecursion (IsTellable p) (order ((record { stamp = 1; entry = Exit o } ∷ []) ∷ [])) → ⊥
no_object p o more all = let here : o < numbers_total p = all.0.entry in omega (arith, more, here)

pub no_hash : (p : ProgramText) (v : ℕ) → 2 ^ 32 ≤ v
    → AllByRecursion (IsTellable p) (order ((record { stamp = 1; entry = Hash 0 v None } ∷ []) ∷ [])) → ⊥
no_hash p v more all = let here : v < 2 ^ 32 = all.0.entry.1 in omega (arith, more, here)

pub no_thread : (e : Entry) → AllByRecursion (IsTellable hash_program) (order ([] ∷ [] ∷ (record { stamp = 1; entry = e } ∷ []) ∷ [])) → ⊥
no_thread e all = let here : 2 < 2 = all.0.thread in omega (arith, here)

pub no_stamp : (p : ProgramText) (n : ℕ) (e : Entry) → 2 ^ 46 ≤ n
    → AllByRecursion (IsTellable p) (order ((record { stamp = n; entry = e } ∷ []) ∷ [])) → ⊥
no_stamp p n e more all = let here : n < 2 ^ 46 = all.0.below in omega (arith, more, here)

-- ANSWERS. Two that are true of the same lines are one.
one_answer : (p : ProgramText) (fuel start : ℕ) (lines : List (List ℕ)) (a b : Checked) → IsProgram p
    → IsTrueOf p fuel start lines (Ok a) → IsTrueOf p fuel start lines (Ok b) → a ≡ b
one_answer p fuel start lines a b is first second =
    let same = sym (found_only p fuel start lines (Ok a) is first (λ h. cc)) ∙ found_only p fuel start lines (Ok b) is second (λ h. cc) in cc

abbrev lines : List (List ℕ)
lines = journal_of hash_program hash_logs

true_answer : IsTrueOf hash_program hash_fuel 0 lines (Ok (Legal 6 Ended))
true_answer = legal_journal hash_program hash_fuel 0 hash_logs hash_end program (omega arith) legal stamps fit under

elsewhere : IsTrueOf hash_program hash_fuel 1 lines (Ok (BadHash 0))
elsewhere =
    record {
      entries = order hash_logs;
      machine = hash_end;
      run = journal_run hash_program hash_fuel hash_logs hash_end legal.rises under
          (all_tellable hash_program hash_fuel 0 hash_logs program (omega arith) legal stamps fit);
      bad = refl;
      least = λ o below. absurd (omega (arith, below));
    }

same_legal : (n k : ℕ) (a b : Reached) → Legal n a ≡ Legal k b → (n ≡ k) × (a ≡ b)
same_legal n k a b same = (cc, cc)

not_bad : (n o : ℕ) (a : Reached) → Legal n a ≡ BadHash o → ⊥
not_bad n o a same = cc

pub other_count : (n : ℕ) (state : Reached) → n ≢ 6 → IsTrueOf hash_program hash_fuel 0 lines (Ok (Legal n state)) → ⊥
other_count n state other answer =
    other (same_legal n 6 state Ended (one_answer hash_program hash_fuel 0 lines (Legal n state) (Legal 6 Ended) program answer true_answer)).0

pub other_state : (n : ℕ) (state : Reached) → state ≢ Ended → IsTrueOf hash_program hash_fuel 0 lines (Ok (Legal n state)) → ⊥
other_state n state other answer =
    other (same_legal n 6 state Ended (one_answer hash_program hash_fuel 0 lines (Legal n state) (Legal 6 Ended) program answer true_answer)).1

pub other_start : (n : ℕ) (state : Reached) → IsTrueOf hash_program hash_fuel 1 lines (Ok (Legal n state)) → ⊥
other_start n state answer =
    not_bad n 0 state (one_answer hash_program hash_fuel 1 lines (Legal n state) (BadHash 0) program answer elsewhere)

-- LENGTHS. Each line has a byte at least.
lines_long : (p : ProgramText) (xs : List (ℕ × Logged)) → length xs ≤ length (text_of_lines (map (journal_line p) xs))
lines_long p [] = omega arith
lines_long p (x ∷ xs) =
    let sum = length-append (journal_line p x) (text_of_lines (map (journal_line p) xs)) in
    let rest = lines_long p xs in
    omega (arith, sum, rest)

pub too_long : (p : ProgramText) (logs : List (List Logged)) → 2 ^ 32 ≤ length (order logs)
    → length (text_of_lines (journal_of p logs)) < 2 ^ 32 → ⊥
too_long p logs many few = let long = lines_long p (order logs) in omega (arith, long, many, few)

-- STATES
pub not_ended : (m : PlainMachine) → is_stuck m ≡ true → state_of m ≡ Ended → ⊥
not_ended m stuck ended = let is : Stuck ≡ Ended = sym (stuck_state m stuck) ∙ ended in cc

pub not_stuck : (m : PlainMachine) → list_all (λ s. not (is_live s)) m.threads ≡ true → state_of m ≡ Stuck → ⊥
not_stuck m over stuck = let is : Ended ≡ Stuck = sym (ended_state m over) ∙ stuck in cc
