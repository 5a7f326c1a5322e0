-- The array of a name.
use Rattle.std.proofs.Common.{◌≡◌, ℕ, ◌≤◌, ◌&&◌, ◌||◌, Bool, true, false, List, [], ◌∷◌, ◌++◌, length, drop, replicate, refl, arith, nat_le, length-append}
use Rattle.std.specs.List.{list_all}
use Rattle.std.proofs.lemmas.Bool.Decides.{nat_tests}
use Rattle.std.proofs.lemmas.List.{take_at, drop_at, drop-replicate}
use Rattle.object_program.specs.Name.{is_letter, is_digit, is_name}
use Rattle.object_program.specs.NameView.{IsKept}

and_right : (a b : Bool) → (a && b) ≡ true → b ≡ true
and_right true b h = h
and_right false b h = cc

pub name_short : (bs : List ℕ) → is_name bs ≡ true → length bs ≤ 32
name_short [] h = absurd (cc h)
name_short (b ∷ bs) h =
    let k : nat_le (length bs) 31 ≡ true = and_right (is_letter b && list_all (λ c. is_letter c || is_digit c) bs) (nat_le (length bs) 31) h in
    grind (arith, nat_tests)

pub name_kept : (bs : List ℕ) → is_name bs ≡ true → IsKept (record { bytes = bs ++ drop (length bs) (replicate 32 0); length = length bs })
name_kept bs h = record {
  within = omega (arith, length-append bs (drop (length bs) (replicate 32 0)));
  name = rw (take_at bs (drop (length bs) (replicate 32 0)) (length bs) refl) h;
  rest = rw (drop_at bs (drop (length bs) (replicate 32 0)) (length bs) refl) (drop-replicate (length bs) 32 0);
}
