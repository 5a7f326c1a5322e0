-- Texts cut at a byte.
use Rattle.std.proofs.Common.{◌≡◌, ℕ, suc, ◌+◌, ◌<◌, ◌≤◌, ◌==◌, nat_lt, cond, if◌then◌else◌, List, [], ◌∷◌}
use Rattle.std.proofs.Common.{◌++◌, length, take, drop, refl, ap, ◌∙◌, arith, Bool, true, false, Some, None}
use Rattle.std.specs.Prelude.{option_map, position}
use Rattle.std.specs.List.{position_or_len}
use Rattle.std.proofs.lemmas.Bool.Decides.{nat_tests}
use Rattle.bias_check.specs.inner.Words.{before_last, unended}
use Rattle.bias_check.specs.Lines.{lines_of}
use Rattle.bias_check.specs.inner.Table.{unbracketed}

cons_if : (x c b : ℕ) (front : List ℕ) (t : Bool) → option_map (λ bs. x ∷ bs) (if t then Some front else None) ≡ (if t then Some (x ∷ front) else None)
cons_if x c b front true = refl
cons_if x c b front false = refl

-- what stands before the last byte
pub last_byte : (c : ℕ) (front : List ℕ) (b : ℕ) → before_last c (front ++ b ∷ []) ≡ (if b == c then Some front else None)
last_byte c [] b = refl
last_byte c (x ∷ []) b = cons_if x c b [] (b == c)
last_byte c (x ∷ y ∷ ys) b = ap (λ o. option_map (λ bs. x ∷ bs) o) (last_byte c (y ∷ ys) b) ∙ cons_if x c b (y ∷ ys) (b == c)

pub unended_last : (line front : List ℕ) (b : ℕ) → line ≡ front ++ b ∷ [] → unended line ≡ (if b == 10 then Some front else None)
unended_last line front b e = rw e (last_byte 10 front b)

pub unbracketed_last : (line front : List ℕ) (b : ℕ) → line ≡ front ++ b ∷ [] → unbracketed line ≡ (if b == 93 then Some front else None)
unbracketed_last line front b e = rw e (last_byte 93 front b)

-- the first line of a text
cut_line_at : (b : ℕ) (bs : List ℕ) (t : Bool) → (b == 10) ≡ t → position_or_len (λ b. b == 10) (b ∷ bs) < length (b ∷ bs)
    → (position_or_len (λ b. b == 10) bs < length bs
    → lines_of bs ≡ take (position_or_len (λ b. b == 10) bs + 1) bs ∷ lines_of (drop (position_or_len (λ b. b == 10) bs + 1) bs))
    → lines_of (b ∷ bs) ≡ take (position_or_len (λ b. b == 10) (b ∷ bs) + 1) (b ∷ bs) ∷ lines_of (drop (position_or_len (λ b. b == 10) (b ∷ bs) + 1) (b ∷ bs))
cut_line_at b bs true e h ih = rw e refl
cut_line_at b bs false e h ih =
    let k = rw e at h in
    let n = position_or_len (λ b. b == 10) bs in
    let s : 1 + n + 1 ≡ suc (n + 1) = omega arith in
    rw (e, s, ih (omega (arith, k))) refl

cut_line : (text : List ℕ) → position_or_len (λ b. b == 10) text < length text
    → lines_of text ≡ take (position_or_len (λ b. b == 10) text + 1) text ∷ lines_of (drop (position_or_len (λ b. b == 10) text + 1) text)
cut_line [] h = absurd (omega (arith, h))
cut_line (b ∷ bs) h = cut_line_at b bs (b == 10) refl h (cut_line bs)

uncut_line_at : (b : ℕ) (bs : List ℕ) (t : Bool) → (b == 10) ≡ t → length (b ∷ bs) ≤ position_or_len (λ b. b == 10) (b ∷ bs)
    → (1 ≤ length bs → length bs ≤ position_or_len (λ b. b == 10) bs → lines_of bs ≡ bs ∷ []) → lines_of (b ∷ bs) ≡ (b ∷ bs) ∷ []
uncut_line_at b bs true e h ih = let k = rw e at h in absurd (omega (arith, k))
uncut_line_at b [] false e h ih = rw e refl
uncut_line_at b (d ∷ ds) false e h ih = let k = rw e at h in rw (e, ih (omega arith) (omega (arith, k))) refl

uncut_line : (text : List ℕ) → 1 ≤ length text → length text ≤ position_or_len (λ b. b == 10) text → lines_of text ≡ text ∷ []
uncut_line [] h k = absurd (omega (arith, h))
uncut_line (b ∷ bs) h k = uncut_line_at b bs (b == 10) refl k (uncut_line bs)

none_by : (b : Bool) (n m : ℕ) → nat_lt n m ≡ b → None ≡ cond b (Some n) None → m ≤ n
none_by true n m e h = absurd (cc h)
none_by false n m e h = grind (arith, nat_tests)

pub record IsFirst (n m i : ℕ) : Type 0 where
  pub same : i ≡ n
  pub less : n < m

some_by : (b : Bool) (n m i : ℕ) → nat_lt n m ≡ b → Some i ≡ cond b (Some n) None → IsFirst n m i
some_by true n m i e h = record { same = (cc); less = grind (arith, nat_tests) }
some_by false n m i e h = absurd (cc h)

-- the first of what passes stands at this place
pub first_at : {X : Type 0} (p : X → Bool) (xs : List X) (i : ℕ) → Some i ≡ position p xs → IsFirst (position_or_len p xs) (length xs) i
first_at p xs i h = some_by (nat_lt (position_or_len p xs) (length xs)) (position_or_len p xs) (length xs) i refl h

pub none_at : {X : Type 0} (p : X → Bool) (xs : List X) → None ≡ position p xs → length xs ≤ position_or_len p xs
none_at p xs h = none_by (nat_lt (position_or_len p xs) (length xs)) (position_or_len p xs) (length xs) refl h

pub one_line : (text : List ℕ) → 1 ≤ length text → None ≡ position (λ b. b == 10) text → lines_of text ≡ text ∷ []
one_line text some h = uncut_line text some (none_at (λ b. b == 10) text h)

pub first_line : (text : List ℕ) (i : ℕ) → Some i ≡ position (λ b. b == 10) text → lines_of text ≡ take (i + 1) text ∷ lines_of (drop (i + 1) text)
first_line text i h = let t = first_at (λ b. b == 10) text i h in rw t.same (cut_line text t.less)

-- an empty text has no lines
pub no_lines : (text : List ℕ) → length text ≡ 0 → lines_of text ≡ []
no_lines [] h = refl
no_lines (b ∷ bs) h = absurd (omega (arith, h))
