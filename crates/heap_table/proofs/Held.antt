-- Hold words of which only the first are in use, and the objects that they name.
use Rattle.std.proofs.Common.{◌≡◌, ◌≢◌, ℕ, zero, suc, ◌+◌, ◌*◌, ◌/◌, ◌%◌, ◌^◌, ◌<◌, ◌≤◌, ◌==◌, ◌&&◌, nat_lt, nat_le, eq-eqb, ne_eqb}
use Rattle.std.proofs.Common.{List, [], ◌∷◌, length, get_or, take, replicate, Bool, true, false, refl, sym, ap, ◌∙◌, arith}
use Rattle.std.proofs.lemmas.Bool.{cond_both, false≢true}
use Rattle.std.proofs.lemmas.Bool.Decides.{nat_tests}
use Rattle.std.proofs.lemmas.List.Sums.{position_or_len_is, fails_before_first}
use Rattle.std.specs.List.{position_or_len}
use Rattle.mark_word.specs.Hold.{read_hold}
use Rattle.core_world.specs.Locks.{count_where, hold_count}
use Rattle.core_world.specs.Threads.Stages.{one_if}
use Rattle.core_world.specs.Words.Forms.{names, names_form}
use Rattle.heap_table.specs.Held.{IsEmptyFrom}

abbrev IsEmpty : ℕ → ℕ → Type 0
IsEmpty n i = let zeros : List ℕ = replicate n 0 in let word : ℕ = get_or zeros i 0 in word ≡ 0

-- no hold word is in use
pub none_used : (n i : ℕ) → IsEmpty n i
none_used zero i = refl
none_used (suc n) zero = refl
none_used (suc n) (suc i) = none_used n i

-- a test that fails of the empty word is asked only of the words in use
pub number_used : (test : ℕ → Bool) (p n : ℕ) (xs : List ℕ) → test 0 ≡ false → IsEmptyFrom n xs
    → count_where (λ q h. test h) p (take n xs) ≡ count_where (λ q h. test h) p xs
number_used test p zero [] fails empty = refl
number_used test p (suc n) [] fails empty = refl
number_used test p zero (x ∷ xs) fails empty =
    let none : x ≡ 0 = empty 0 (omega arith) in
    let rest = number_used test (p + 1) zero xs fails (λ i l. empty (suc i) (omega (arith, l))) in
    let first = ap one_if (ap test none ∙ fails) in
    omega (arith, rest, first)
number_used test p (suc n) (x ∷ xs) fails empty = ap (λ c. one_if (test x) + c) (number_used test (p + 1) n xs fails (λ i l. empty (suc i) (omega (arith, l))))

-- a word that no place in use has: the empty word stands after them, and any other nowhere
pub unused : (word n : ℕ) (xs : List ℕ) → n ≤ length xs → IsEmptyFrom n xs
    → ((k : ℕ) → k < n → (get_or xs k 0 == word) ≡ false) → word ≡ 0 → position_or_len (λ h. h == word) xs ≡ n
unused word n xs within empty none zero_is = position_or_len_is (λ h. h == word) xs n 0 within none (λ l. eq-eqb _ _ (empty n (omega arith) ∙ sym zero_is))

pub nowhere : (word n : ℕ) (xs : List ℕ) → IsEmptyFrom n xs → ((k : ℕ) → k < n → (get_or xs k 0 == word) ≡ false)
    → word ≢ 0 → position_or_len (λ h. h == word) xs ≡ length xs
nowhere word n xs empty none nonzero =
    position_or_len_is (λ h. h == word) xs (length xs) 0 (omega arith) (λ k l. after k (nat_lt k n) refl) (λ l. absurd (omega (arith, l)))
  where
    after : (k : ℕ) (b : Bool) → nat_lt k n ≡ b → (get_or xs k 0 == word) ≡ false
    after k true e = none k (grind (arith, nat_tests))
    after k false e = let l : n ≤ k = grind (arith, nat_tests) in ne_eqb _ _ (λ same. nonzero (sym same ∙ empty k l))

-- the lowest empty place is no later than the one past the last in use
pub place_left : (n : ℕ) (xs : List ℕ) → IsEmptyFrom n xs → position_or_len (λ h. h == 0) xs ≤ n
place_left n xs empty = told (nat_lt n (position_or_len (λ h. h == 0) xs)) refl
  where
    told : (b : Bool) → nat_lt n (position_or_len (λ h. h == 0) xs) ≡ b → position_or_len (λ h. h == 0) xs ≤ n
    told true e =
        let before : n < position_or_len (λ h. h == 0) xs = grind (arith, nat_tests) in
        let nonzero = fails_before_first (λ h. h == 0) xs n 0 before in
        let zero : (get_or xs n 0 == 0) ≡ true = eq-eqb _ _ (empty n (omega arith)) in
        absurd (false≢true (sym nonzero ∙ zero))
    told false e = grind (arith, nat_tests)

-- an empty word names no object
pub none_named : (o : ℕ) → names o 0 ≡ false
unfolding read_hold
none_named o = refl

-- where no word is in use, none names the object
pub none_held : (o n : ℕ) (xs : List ℕ) → n ≡ 0 → IsEmptyFrom n xs → hold_count o xs ≡ 0
none_held o n xs none empty = sym (number_used (λ h. names o h) 0 0 xs (none_named o) (λ i l. empty i (omega (arith, none))))

abbrev pub IsNamed : ℕ → ℕ → Bool
IsNamed o word = (nat_lt o 32768 && nat_lt ((o + 1) * 128) word) && nat_le word ((o + 1) * 128 + 64)

-- a word names the object whose number, raised by one, stands in it above a depth from 1 to 64
pub named_as : (o word : ℕ) → IsNamed o word ≡ names o word
unfolding read_hold
named_as o word =
    cond_both (word == 0) _ _ (λ f. IsNamed o word ≡ names_form f o) (λ h. grind (arith, nat_tests)) (λ _.
    cond_both (nat_lt 0 (word / 128) && nat_lt (word / 128) (2 ^ 15 + 1) && nat_lt 0 (word % 128) && nat_lt (word % 128) 65) _ _
    (λ f. IsNamed o word ≡ names_form f o)
    (λ h. grind (arith, nat_tests)) (λ h. grind (arith, nat_tests)))
