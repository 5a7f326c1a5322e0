-- Hashes that aren't draws.
use Rattle.std.proofs.Common.{◌≡◌, ℕ, zero, suc, ◌==◌, ◌&&◌, ◌||◌, Bool, true, false, List, [], ◌∷◌, Some, None, IsSome, refl, arith}
use Rattle.std.proofs.lemmas.Bool.Decides.{nat_tests}
use Rattle.core_law.specs.Draws.{HasDraws}
use Rattle.hash_laws.specs.HashExample.{first_hash, hash_fuel, hash_program, hashing_thread}
use Rattle.lock_journal.specs.Hashes.{hash_fits}
use Rattle.object_program.specs.Program.{ProgramText}
use Rattle.object_program.specs.Valid.{IsProgram}
use Rattle.object_program.specs.declared.program.Code.TheVariants as code
use Rattle.plain_history.specs.FirstDraws.{DrawsComeFirst}
use Rattle.plain_machine.specs.Legal.{IsLegal, machine_after}
use Rattle.plain_machine.specs.Running.{run_on}
use Rattle.plain_monitor.specs.declared.entry.Entry.TheVariants.{Hash}
use Rattle.plain_monitor.specs.declared.entry.Logged.{Logged}
use Rattle.plain_monitor.specs.Order.{order}

-- one too high
abbrev beside : List (List Logged)
beside = (record { stamp = 1; entry = Hash 0 273327013 (Some 1) } ∷ []) ∷ []

pub unfit : hash_fits 0 (order beside) 0 ≡ true → ⊥
unfit h = cc

pub undrawn : HasDraws 0 beside → ⊥
undrawn has = let value = (has.drawn 0).0.1 in omega (arith, value)

-- two draws
abbrev twice : ℕ → ℕ → ℕ → ℕ → List (List Logged)
twice v w m n = (record { stamp = 1; entry = Hash 0 v (Some m) } ∷ []) ∷ (record { stamp = 1; entry = Hash 0 w (Some n) } ∷ []) ∷ []

pub unfit_twice : (start v w m n : ℕ) → hash_fits start (order (twice v w m n)) 0 ≡ true → ⊥
unfit_twice start v w m n h = by_test _ _ h
  where
    by_test : (a c : Bool) → false || (a && (2 == 1) && c) ≡ true → ⊥
    by_test true c h = cc
    by_test false c h = cc

pub drawn_twice : (start v w m n : ℕ) → HasDraws start (twice v w m n) → ⊥
drawn_twice start v w m n has = let two : 2 ≡ 1 = has.one 0 0 refl in omega (arith, two)

-- a draw that comes late
abbrev found : ℕ → ℕ → List (List Logged)
found v n = (record { stamp = 1; entry = Hash 0 v None } ∷ record { stamp = 2; entry = Hash 0 v (Some n) } ∷ []) ∷ []

-- a thread asks for the hash twice
abbrev asking_twice : ProgramText
asking_twice =
    record hash_program {
      threads = record (hashing_thread 116) { code = code.Ref 0 0 ∷ code.Hash 1 0 ∷ code.Hash 1 0 ∷ code.End ∷ [] } ∷ [];
    }

asks_twice : IsProgram asking_twice
asks_twice =
    record {
      class_names = (refl, refl, tt);
      class_slots = (omega arith, tt);
      classes_few = omega arith;
      object_names = (refl, refl, tt);
      objects = ((omega arith, refl, omega arith, λ h. refl), tt);
      objects_few = omega arith;
      thread_names = (refl, refl, tt);
      threads = (
        record {
          locals = (refl, refl, (refl, refl, tt));
          locals_few = omega arith;
          labels = tt;
          targets = tt;
          code = ((omega arith, omega arith), ((omega arith, omega arith), ((omega arith, omega arith), (tt, tt))));
          code_few = omega arith;
          ends = ((λ h. cc), ((λ h. cc), ((λ h. cc), refl)));
        },
        tt,
      );
      threads_some = omega arith;
      threads_few = omega arith;
    }

found_taken : IsSome (machine_after asking_twice hash_fuel (found first_hash 1))
unfolding run_on
found_taken = refl

pub found_legal : (p : ProgramText) × IsProgram p × IsLegal p hash_fuel (found first_hash 1)
found_legal = (asking_twice, asks_twice, record { rises = ((omega arith, (omega arith, tt)), tt); taken = found_taken })

pub found_fits : (o : ℕ) → hash_fits 0 (order (found first_hash 1)) o ≡ true
found_fits zero = refl
found_fits (suc o) = let other : (0 == suc o) ≡ false = grind (arith, nat_tests) in simp other

pub found_first : (v n : ℕ) → DrawsComeFirst (found v n) → ⊥
found_first v n first =
    let none : true ≡ false =
    first 0 0 v n (record { stamp = 1; entry = Hash 0 v None } ∷ []) (record { stamp = 2; entry = Hash 0 v (Some n) }) [] refl refl in
    cc

pub drawn_late : (start v n : ℕ) → HasDraws start (found v n) → ⊥
drawn_late start v n has = found_first v n has.first
