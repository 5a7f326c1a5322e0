-- A value is read from a word exactly where the word spells it.
use Rattle.std.proofs.Common.{◌≡◌, ℕ, ◌+◌, ◌*◌, ◌/◌, ◌%◌, ◌^◌, ◌<◌, ◌==◌, ◌&&◌, nat_lt, nat_abs, true, ℤ}
use Rattle.std.proofs.Common.{pos, negsuc, ◌+ℤ◌, ◌-ℤ◌, ◌≤ℤ◌, Option, Some, IfSome, refl, arith, eqb-true}
use Rattle.std.proofs.lemmas.Bool.{cond_both}
use Rattle.std.proofs.lemmas.Bool.Decides.{nat_tests}
use Rattle.std.proofs.lemmas.Int.{ints}
use Rattle.std.proofs.lemmas.Option.{MatchOption-at_some}
use Rattle.std.specs.Bool.{⊤}
use Rattle.plain_monitor.specs.Numbers.{IsInRange}
use Rattle.plain_monitor.specs.declared.entry.Value.{Value}
use Rattle.plain_monitor.specs.declared.entry.Value.TheVariants.{Nil, Int, Ref}
use Rattle.plain_monitor.specs.ValueWords.{IsSpellable, SpellsValue, word_of, read_value}

-- a number that is no less than 0 is its absolute value
absolute : (z : ℤ) → pos 0 ≤ℤ z → pos (nat_abs z) ≡ z
absolute (pos n) h = refl
absolute (negsuc n) h = absurd (omega (arith, ints))

-- a number in range, raised, is no less than 0 and below 2^62
raised : (i : ℤ) → IsInRange i → (pos (nat_abs (i +ℤ pos (2 ^ 61))) ≡ i +ℤ pos (2 ^ 61)) × (nat_abs (i +ℤ pos (2 ^ 61)) < 2 ^ 62)
raised i h =
    let is = absolute (i +ℤ pos (2 ^ 61)) (omega (arith, ints)) in
    (is, omega (arith, ints))

-- a value in range has its word
pub word_of-spells : (v : Value) → IsSpellable v → SpellsValue v (word_of v)
word_of-spells Nil h = (h, refl)
word_of-spells (Int i) h = let up = raised i h in (h, omega (arith, ints))
word_of-spells (Ref o) h = (h, refl)

-- a value has no other word
pub word_of-only : (v : Value) (word : ℕ) → SpellsValue v word → word ≡ word_of v
word_of-only Nil word h = h.1
word_of-only (Int i) word h = let up = raised i h.0 in let e = h.1 in omega (arith, ints)
word_of-only (Ref o) word h = h.1

-- the word of a number reads as that number
number_read : (n : ℕ) (i : ℤ) → pos n ≡ i +ℤ pos (2 ^ 61) → n < 2 ^ 62 → read_value (n * 4 + 1) ≡ Some (Int i)
unfolding read_value
number_read n i e h =
    let back : pos ((n * 4 + 1) / 4) -ℤ pos (2 ^ 61) ≡ i = omega (arith, ints) in
    grind (arith, nat_tests)

-- a value in range is read back from its word
pub read_value-word_of : (v : Value) → IsSpellable v → read_value (word_of v) ≡ Some v
unfolding read_value
read_value-word_of Nil h = refl
read_value-word_of (Int i) h = let up = raised i h in number_read (nat_abs (i +ℤ pos (2 ^ 61))) i up.0 up.1
read_value-word_of (Ref o) h = grind (arith, nat_tests)

-- the word spells what is read from it, if anything
abbrev IsSpelled : ℕ → Option Value → Type 0
IsSpelled word o = IfSome o (λ v. SpellsValue v word)

-- a number's word spells the number that is read from it
number_spelled : (word : ℕ) → ((word % 4 == 1) && nat_lt word (2 ^ 64)) ≡ true → SpellsValue (Int (pos (word / 4) -ℤ pos (2 ^ 61))) word
number_spelled word h =
    let parts : (word % 4 ≡ 1) × (word < 2 ^ 64) = grind (arith, nat_tests) in
    ((omega (arith, ints), omega (arith, ints)), omega (arith, ints))

-- a word spells what is read from it, test by test
is_spelled : (word : ℕ) → IsSpelled word (read_value word)
unfolding read_value
is_spelled word =
    cond_both (word == 0) _ _ (IsSpelled word) (λ h. (tt, eqb-true word 0 h)) (λ _.
    cond_both ((word % 4 == 1) && nat_lt word (2 ^ 64)) _ _ (IsSpelled word) (number_spelled word) (λ _.
    cond_both ((word % 4 == 2) && nat_lt (word / 4) (2 ^ 15)) _ _ (IsSpelled word) (λ h. grind (arith, nat_tests)) (λ _. tt)))

-- a word spells the value that is read from it
pub read_value-spells : (word : ℕ) (v : Value) → read_value word ≡ Some v → SpellsValue v word
read_value-spells word v e = MatchOption-at_some ⊤ (λ value. SpellsValue value word) v e (is_spelled word)
