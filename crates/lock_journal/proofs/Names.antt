-- How long a program's names are, and how objects are written.
use Rattle.std.proofs.Common.{◌≡◌, ℕ, zero, suc, ◌-◌, ◌/◌, ◌%◌, ◌<◌, ◌≤◌, true, false, List, [], ◌∷◌, ◌++◌, length, map, refl, ap, arith, codes, Some, IsTrue}
use Rattle.std.specs.Prelude.{nat_lt, slice_get, decimal}
use Rattle.std.proofs.lemmas.Bool.Decides.{nat_tests}
use Rattle.object_program.specs.Name.{is_name}
use Rattle.plain_monitor.specs.Limits.{most_made}
use Rattle.object_program.specs.Program.{ProgramText, declared_total}
use Rattle.object_program.specs.Valid.{AreNames}
use Rattle.plain_machine.proofs.NeededObjects.{first_is_total}
use Rattle.lock_journal.specs.Words.{declared_text, thread_text, object_text}

length_name : (name : List ℕ) → IsTrue (is_name name) → length name ≤ 32
length_name [] h = omega arith
length_name (b ∷ bs) h = grind (arith, nat_tests)

-- the name of the item at a place, where the names are names
pub length_name_at : {A : Type 0} (name : A → List ℕ) (xs : List A) (n : ℕ) (x : A) → AreNames (map name xs) → slice_get xs n ≡ Some x → length (name x) ≤ 32
length_name_at name [] n x h e = absurd cc
length_name_at name (y ∷ ys) zero x h e =
    let same : y ≡ x = cc in
    rw (← same) (length_name (name y) h.0)
length_name_at name (y ∷ ys) (suc n) x h e = length_name_at name ys n x h.2 e

-- a declared object is written as one, and each other as a thread's
pub declared_is : (p : ProgramText) (o : ℕ) → o < declared_total p → object_text p o ≡ declared_text p o
declared_is p o h = let below : nat_lt o (declared_total p) ≡ true = grind (arith, nat_tests, h) in rw below refl

pub made_is : (p : ProgramText) (o : ℕ) → declared_total p ≤ o
    → object_text p o ≡ thread_text p ((o - declared_total p) / most_made) ++ codes "." ++ decimal ((o - declared_total p) % most_made)
made_is p o h =
    let late : nat_lt o (declared_total p) ≡ false = grind (arith, nat_tests, h) in
    rw late (ap (λ (n : ℕ). thread_text p ((o - n) / most_made) ++ codes "." ++ decimal ((o - n) % most_made)) (first_is_total p.objects))
