-- Words with a dot, and words without one.
use Rattle.std.proofs.Common.{◌≡◌, ℕ, ◌+◌, ◌%◌, ◌/◌, ◌<◌, ◌≤◌, ◌^◌, ◌==◌, ◌||◌, Bool, true, false, not, List, [], ◌∷◌}
use Rattle.std.proofs.Common.{◌++◌, length, refl, sym, ◌∙◌, ap, arith, append-nil, length-append, Some, None}
use Rattle.std.specs.Prelude.{decimal, nat_lt, position}
use Rattle.std.specs.List.{list_all, position_or_len}
use Rattle.std.proofs.lemmas.Bool.{and_parts}
use Rattle.std.proofs.lemmas.Bool.Decides.{nat_tests}
use Rattle.std.proofs.lemmas.Fmt.{decimal_by_steps}
use Rattle.object_program.specs.Name.{is_letter, is_digit, is_name}
use Rattle.bias_check.proofs.ObjectsRead.{name_bytes}

-- a text without a dot
abbrev pub dotless : List ℕ → Bool
dotless w = list_all (λ b. not (b == 46)) w

no_dot_here : (b : ℕ) → not (b == 46) ≡ true → (b == 46) ≡ false
no_dot_here b h = grind (arith, nat_tests)

dot_past : (w rest : List ℕ) → dotless w ≡ true → position_or_len (λ b. b == 46) (w ++ rest) ≡ length w + position_or_len (λ b. b == 46) rest
dot_past [] rest h = omega arith
dot_past (b ∷ bs) rest h =
    let parts = and_parts (not (b == 46)) (dotless bs) h in
    rw (no_dot_here b parts.0, dot_past bs rest parts.1) (omega arith)

pub no_dot : (w : List ℕ) → dotless w ≡ true → position (λ b. b == 46) w ≡ None
no_dot w h =
    let at : position_or_len (λ b. b == 46) (w ++ []) ≡ length w + 0 = dot_past w [] h in
    let same : position_or_len (λ b. b == 46) w ≡ length w + 0 = ap (position_or_len (λ b. b == 46)) (sym (append-nil w)) ∙ at in
    let not_less : nat_lt (position_or_len (λ b. b == 46) w) (length w) ≡ false = grind (arith, nat_tests) in
    rw not_less refl

pub first_dot : (w rest : List ℕ) → dotless w ≡ true → position (λ b. b == 46) (w ++ 46 ∷ rest) ≡ Some (length w)
first_dot w rest h =
    let at : position_or_len (λ b. b == 46) (w ++ 46 ∷ rest) ≡ length w + 0 = dot_past w (46 ∷ rest) h in
    let same : position_or_len (λ b. b == 46) (w ++ 46 ∷ rest) ≡ length w = at ∙ omega arith in
    let less : nat_lt (length w) (length (w ++ 46 ∷ rest)) ≡ true = let n = length-append w (46 ∷ rest) in grind (arith, nat_tests) in
    rw (same, less) refl

pub dotless_append : (a b : List ℕ) → dotless a ≡ true → dotless b ≡ true → dotless (a ++ b) ≡ true
dotless_append [] b h k = k
dotless_append (x ∷ xs) b h k =
    let parts = and_parts (not (x == 46)) (dotless xs) h in rw parts.0 (dotless_append xs b parts.1 k)

-- names have no dot
name_byte : (b : ℕ) → (is_letter b || is_digit b) ≡ true → not (b == 46) ≡ true
name_byte b h = grind (arith, nat_tests)

bytes_dotless : (bs : List ℕ) → list_all (λ c. is_letter c || is_digit c) bs ≡ true → dotless bs ≡ true
bytes_dotless [] h = refl
bytes_dotless (b ∷ bs) h =
    let parts = and_parts (is_letter b || is_digit b) (list_all (λ c. is_letter c || is_digit c) bs) h in
    rw (name_byte b parts.0) (bytes_dotless bs parts.1)

pub name_dotless : (name : List ℕ) → is_name name ≡ true → dotless name ≡ true
name_dotless name h = bytes_dotless name (name_bytes name h)

-- numbers have none
abbrev IsDotless : ℕ → List ℕ → Type 0
IsDotless n ds = dotless ds ≡ true

digit_dotless : (d : ℕ) → d < 10 → not (48 + d == 46) ≡ true
digit_dotless d h = grind (arith, nat_tests)

one_digit : (n : ℕ) → n < 10 → IsDotless n ((48 + n) ∷ [])
one_digit n h = rw (digit_dotless n h) refl

more_digits : (n : ℕ) (ds : List ℕ) → 10 ≤ n → IsDotless (n / 10) ds → IsDotless n (ds ++ (48 + n % 10) ∷ [])
more_digits n ds h k = dotless_append ds ((48 + n % 10) ∷ []) k (one_digit (n % 10) (omega arith))

pub decimal_dotless : (n : ℕ) → n < 2 ^ 64 → dotless (decimal n) ≡ true
decimal_dotless n h = decimal_by_steps IsDotless one_digit more_digits n h
