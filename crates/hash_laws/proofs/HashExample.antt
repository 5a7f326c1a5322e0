-- The example of two threads that ask for one hash: it is a program, and its logs are those of a run.
use Rattle.std.proofs.Common.{◌≡◌, ℕ, zero, suc, ◌==◌, Bool, ◌||◌, true, false, List, [], ◌∷◌, ◌++◌, Some, IsSome, refl, ap, subst, arith}
use Rattle.std.specs.List.{list_any}
use Rattle.std.proofs.lemmas.Bool.Decides.{nat_tests}
use Rattle.core_law.specs.Draws.{HasDraws}
use Rattle.core_world.specs.Clauses.Draws.{AreDraws, first_draw, all_draws}
use Rattle.hash_laws.specs.HashExample.{hash_end, hash_fuel, hash_logs, hash_program, hashing_thread}
use Rattle.hash_laws.proofs.LegalHashes.{legal_hashes_fit}
use Rattle.lock_journal.specs.Hashes.{hash_fits, is_draw}
use Rattle.object_program.specs.Valid.{IsProgram, IsThread}
use Rattle.plain_history.specs.EnterPaths.{has_hash}
use Rattle.plain_history.specs.ExactStamps.{IsExactStamp, StampsAreExact}
use Rattle.plain_history.specs.FirstDraws.{DrawsComeFirst}
use Rattle.plain_machine.specs.Legal.{IsLegal, machine_after}
use Rattle.plain_machine.specs.Running.{run_on}
use Rattle.plain_monitor.specs.declared.entry.Entry.TheVariants.{Hash}
use Rattle.plain_monitor.specs.declared.entry.Logged.{Logged}
use Rattle.plain_monitor.specs.History.{last_above, log_of}
use Rattle.plain_monitor.specs.Order.{order}

-- THE MACHINE
hashing : (letter : ℕ) → IsThread 1 1 (hashing_thread letter)
hashing letter =
    record {
      locals = (refl, refl, (refl, refl, tt));
      locals_few = omega arith;
      labels = tt;
      targets = tt;
      code = ((omega arith, omega arith), ((omega arith, omega arith), (omega arith, (tt, tt))));
      code_few = omega arith;
      ends = ((λ h. cc), ((λ h. cc), ((λ h. cc), refl)));
    }

pub program : IsProgram hash_program
program =
    record {
      class_names = (refl, refl, tt);
      class_slots = (omega arith, tt);
      classes_few = omega arith;
      object_names = (refl, refl, tt);
      objects = ((omega arith, refl, omega arith, λ h. refl), tt);
      objects_few = omega arith;
      thread_names = (refl, refl, (refl, refl, tt));
      threads = (hashing 116, (hashing 117, tt));
      threads_some = omega arith;
      threads_few = omega arith;
    }

pub under : machine_after hash_program hash_fuel hash_logs ≡ Some hash_end
unfolding run_on
under = refl

taken : IsSome (machine_after hash_program hash_fuel hash_logs)
unfolding run_on
taken = refl

pub legal : IsLegal hash_program hash_fuel hash_logs
legal =
    record {
      rises = ((omega arith, (omega arith, (omega arith, tt))), ((omega arith, (omega arith, (omega arith, tt))), tt));
      taken = taken;
    }

-- DRAWS
drawn : (t : ℕ) → AreDraws (first_draw 0 t) 0 (log_of hash_logs t)
drawn zero = ((refl, refl), (tt, (tt, tt)))
drawn (suc zero) = (tt, (tt, (tt, tt)))
drawn (suc (suc t)) = tt

one_drawn : (o t : ℕ) → has_hash o (log_of hash_logs t) ≡ true → all_draws o hash_logs ≡ 1
one_drawn zero t has = refl
one_drawn (suc o) zero has =
    let other : (0 == suc o) ≡ false = grind (arith, nat_tests) in let none = simp other at has in absurd cc
one_drawn (suc o) (suc zero) has =
    let other : (0 == suc o) ≡ false = grind (arith, nat_tests) in let none = simp other at has in absurd cc
one_drawn (suc o) (suc (suc t)) has = absurd cc

none_at : (f : Logged → Bool) (before : List Logged) (l : Logged) (later : List Logged) → list_any f (before ++ l ∷ later) ≡ false → f l ≡ false
none_at f [] l later none = by_test (f l) none
  where
    by_test : (b : Bool) → b || list_any f later ≡ false → b ≡ false
    by_test true h = h
    by_test false h = refl
none_at f (k ∷ before) l later none = none_at f before l later (by_test (f k) none)
  where
    by_test : (b : Bool) → b || list_any f (before ++ l ∷ later) ≡ false → list_any f (before ++ l ∷ later) ≡ false
    by_test true h = absurd cc
    by_test false h = h

-- only the first entry of a log may be a draw
only_first : (k : Logged) (log : List Logged) → list_any (λ l. is_draw l.entry) log ≡ false
    → (o value number : ℕ) (before : List Logged) (l : Logged) (later : List Logged) → k ∷ log ≡ before ++ l ∷ later
    → l.entry ≡ Hash o value (Some number) → has_hash o before ≡ false
only_first k log none o value number [] l later split is = refl
only_first k log none o value number (b ∷ before) l later split is =
    let rest : log ≡ before ++ l ∷ later = cc in
    let not_draw = none_at (λ (x : Logged). is_draw x.entry) before l later
    (subst (λ (ls : List Logged). list_any (λ (x : Logged). is_draw x.entry) ls ≡ false) rest none) in
    let draw = ap is_draw is in
    absurd cc

pub first : DrawsComeFirst hash_logs
first zero o value number before l later split is = only_first _ _ refl o value number before l later split is
first (suc zero) o value number before l later split is = only_first _ _ refl o value number before l later split is
first (suc (suc t)) o value number [] l later split is = refl
first (suc (suc t)) o value number (b ∷ before) l later split is = absurd cc

pub draws : HasDraws 0 hash_logs
draws = record { drawn = drawn; one = one_drawn; first = first }

pub fit : (o : ℕ) → hash_fits 0 (order hash_logs) o ≡ true
fit = legal_hashes_fit hash_program hash_fuel 0 hash_logs legal draws

-- STAMPS. What holds of each entry of a log, by its place in it.
abbrev AreExactFrom : List (List Logged) → ℕ → List Logged → Type 0
AreExactFrom logs last [] = Unit {0}
AreExactFrom logs last (l ∷ log) = IsExactStamp logs last l.entry l.stamp × AreExactFrom logs l.stamp log

exact_from : (logs : List (List Logged)) (last : ℕ) (log : List Logged) → AreExactFrom logs last log
    → (before : List Logged) (l : Logged) (later : List Logged) → log ≡ before ++ l ∷ later → IsExactStamp logs (last_above last before) l.entry l.stamp
exact_from logs last [] exact [] l later split = cc
exact_from logs last [] exact (k ∷ before) l later split = cc
exact_from logs last (x ∷ log) exact [] l later split =
    let same : x ≡ l = cc in subst (λ (y : Logged). IsExactStamp logs last y.entry y.stamp) same exact.0
exact_from logs last (x ∷ log) exact (k ∷ before) l later split =
    let same : x ≡ k = cc in
    let rest : log ≡ before ++ l ∷ later = cc in
    subst (λ (y : Logged). IsExactStamp logs (last_above y.stamp before) l.entry l.stamp) same (exact_from logs x.stamp log exact.1 before l later rest)

exact_at : (t : ℕ) → AreExactFrom hash_logs 0 (log_of hash_logs t)
exact_at zero = (refl, (refl, (refl, tt)))
exact_at (suc zero) = (refl, (refl, (refl, tt)))
exact_at (suc (suc t)) = tt

pub stamps : StampsAreExact hash_logs
stamps t before l later split = exact_from hash_logs 0 (log_of hash_logs t) (exact_at t) before l later split
