-- A list cut at the first element that passes a test.
use Rattle.std.proofs.Common.{◌≡◌, ℕ, ◌+◌, ◌<◌, ◌≤◌, ◌==◌, Bool, true, false, not, cond, if◌then◌else◌, ltb, List, [], ◌∷◌, ◌++◌, length}
use Rattle.std.proofs.Common.{take, drop, filter, map, refl, ap, ◌∙◌, arith, Some, None, get_or, length-drop, add-one, drop-cons}
use Rattle.std.specs.Prelude.{position}
use Rattle.std.specs.List.{slice_split, position_or_len, before_first}
use Rattle.std.proofs.lemmas.List.{length-map}
use Rattle.std.proofs.lemmas.List.Sums.{count_by-le-length}
use Rattle.std.proofs.lemmas.List.Splits.{slice_split_first, length-slice_split}
use Rattle.std.proofs.lemmas.Bool.Decides.{nat_tests}
use Rattle.std.proofs.lemmas.Grind.{common_steps}
use Rattle.program_syntax.specs.Text.{raw_lines, without_return, is_blank, is_empty}
use Rattle.program_syntax.specs.Refusal.{lines_of}
use Rattle.program_syntax.specs.Left.{words_in}
use Rattle.program_syntax.specs.inner.Left.{words_from}

none_by : (b : Bool) (n m : ℕ) → ltb n m ≡ b → None ≡ cond b (Some n) None → m ≤ n
none_by true n m e h = absurd (cc h)
none_by false n m e h = grind (arith, nat_tests)

pub record IsFirst (n m i : ℕ) : Type 0 where
  pub same : i ≡ n
  pub less : n < m

some_by : (b : Bool) (n m i : ℕ) → ltb n m ≡ b → Some i ≡ cond b (Some n) None → IsFirst n m i
some_by true n m i e h = record { same = (cc); less = grind (arith, nat_tests) }
some_by false n m i e h = absurd (cc h)

uncut_at : {X : Type 0} (p : X → Bool) (x : X) (xs : List X) (b : Bool) → p x ≡ b → length (x ∷ xs) ≤ position_or_len p (x ∷ xs)
    → (length xs ≤ position_or_len p xs → slice_split p xs ≡ xs ∷ []) → slice_split p (x ∷ xs) ≡ (x ∷ xs) ∷ []
uncut_at p x xs true e h ih = let k = rw e at h in absurd (omega arith)
uncut_at p x xs false e h ih = let k = rw e at h in rw (e, ih (omega arith)) refl

uncut : {X : Type 0} (p : X → Bool) (xs : List X) → length xs ≤ position_or_len p xs → slice_split p xs ≡ xs ∷ []
uncut p [] h = refl
uncut p (x ∷ xs) h = uncut_at p x xs (p x) refl h (uncut p xs)

pub cut_none : {X : Type 0} (p : X → Bool) (xs : List X) → None ≡ position p xs → slice_split p xs ≡ xs ∷ []
cut_none p xs h =
    uncut p xs (none_by (ltb (position_or_len p xs) (length xs)) (position_or_len p xs) (length xs) refl h)

pub cut_some : {X : Type 0} (p : X → Bool) (xs : List X) (i : ℕ) (d : X) → Some i ≡ position p xs
    → slice_split p xs ≡ take i xs ∷ slice_split p (drop (i + 1) xs)
cut_some p xs i d h =
    let t = some_by (ltb (position_or_len p xs) (length xs)) (position_or_len p xs) (length xs) i refl h in
    rw t.same (slice_split_first p xs d t.less)

pub before_none : {X : Type 0} (p : X → Bool) (xs : List X) → None ≡ position p xs → before_first p xs ≡ xs
before_none p xs h =
    let e = none_by (ltb (position_or_len p xs) (length xs)) (position_or_len p xs) (length xs) refl h in
    grind (arith, common_steps)

pub before_some : {X : Type 0} (p : X → Bool) (xs : List X) (i : ℕ) → Some i ≡ position p xs → before_first p xs ≡ take i xs
before_some p xs i h =
    let t = some_by (ltb (position_or_len p xs) (length xs)) (position_or_len p xs) (length xs) i refl h in
    rw t.same refl

part_cases : (part : List ℕ) (ws : List (List ℕ)) → (if not (is_empty part) then part ∷ ws else ws) ≡ (if length part == 0 then ws else part ∷ ws)
part_cases [] ws = refl
part_cases (b ∷ bs) ws = grind (arith, nat_tests)

words_cut : (text part : List ℕ) (parts : List (List ℕ)) → slice_split is_blank text ≡ part ∷ parts
    → words_in text ≡ (if length part == 0 then filter (λ w. not (is_empty w)) parts else part ∷ filter (λ w. not (is_empty w)) parts)
words_cut text part parts e = rw e (part_cases part (filter (λ w. not (is_empty w)) parts))

pub words_none : (text : List ℕ) → None ≡ position is_blank text → words_in text ≡ words_from text None
words_none text h = words_cut text text [] (cut_none is_blank text h)

pub words_some : (text : List ℕ) (i : ℕ) → Some i ≡ position is_blank text → words_in text ≡ words_from (take i text) (Some (drop (i + 1) text))
words_some text i h = words_cut text (take i text) (slice_split is_blank (drop (i + 1) text)) (cut_some is_blank text i 0 h)

-- a carriage return at the end
cons_if : (x : ℕ) (c : Bool) (a b : List ℕ) → x ∷ (if c then a else b) ≡ (if c then x ∷ a else x ∷ b)
cons_if x true a b = refl
cons_if x false a b = refl

return_after : (front : List ℕ) (b : ℕ) → without_return (front ++ b ∷ []) ≡ (if b == 13 then front else front ++ b ∷ [])
return_after [] b = refl
return_after (x ∷ []) b = cons_if x (b == 13) [] (b ∷ [])
return_after (x ∷ y ∷ ys) b = ap (λ zs. x ∷ zs) (return_after (y ∷ ys) b) ∙ cons_if x (b == 13) (y ∷ ys) ((y ∷ ys) ++ b ∷ [])

pub without_return_last : (line front : List ℕ) (b : ℕ) → line ≡ front ++ b ∷ [] → without_return line ≡ (if b == 13 then front else line)
without_return_last line front b e = rw e (return_after front b)

pub without_return_empty : (line : List ℕ) → length line ≡ 0 → without_return line ≡ line
without_return_empty [] h = refl
without_return_empty (b ∷ bs) h = absurd (omega arith)

-- the first line of a text
pub first_none : (text line : List ℕ) → None ≡ position (λ b. b == 10) text → line ≡ without_return text → lines_of text ≡ line ∷ []
first_none text line h same = rw same (ap (map without_return) (cut_none (λ b. b == 10) text h))

pub first_some : (text line : List ℕ) (i : ℕ) → Some i ≡ position (λ b. b == 10) text → line ≡ without_return (take i text)
    → lines_of text ≡ line ∷ lines_of (drop (i + 1) text)
first_some text line i h same = rw same (ap (map without_return) (cut_some (λ b. b == 10) text i 0 h))

-- a text has at most one line more than it has bytes
pub lines_few : (text : List ℕ) (n : ℕ) → length text ≤ n → length (lines_of text) ≤ n + 1
lines_few text n h =
    let feed : ℕ → Bool = λ b. b == 10 in
    omega (arith, length-map (raw_lines text) without_return, length-slice_split feed text, count_by-le-length feed text)

-- one more element is passed
pub drop-tail : {X : Type 0} (xs : List X) (n : ℕ) (x : X) (rest : List X) → x ∷ rest ≡ drop n xs → rest ≡ drop (n + 1) xs
drop-tail xs n x rest e =
    let some : n < length xs = omega (arith, ap length e, length-drop n xs) in
    let cut : drop n xs ≡ get_or xs n x ∷ drop (n + 1) xs = rw add-one (drop-cons xs n x some) in
    cc
