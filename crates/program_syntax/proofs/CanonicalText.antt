-- The lines of a canonical text, and their words.
use Rattle.std.proofs.Common.{◌≡◌, ℕ, ◌==◌, ◌&&◌, Bool, true, false, not, List, [], ◌∷◌, ◌++◌, map, refl, ap, ◌∙◌, arith, nat_le, append_assoc, one-add}
use Rattle.std.specs.Prelude.{filter}
use Rattle.std.specs.List.{AllByRecursion, list_all, flat_map, join_with_byte, slice_split, before_first}
use Rattle.std.proofs.lemmas.Bool.{and_parts}
use Rattle.std.proofs.lemmas.Bool.Decides.{nat_tests}
use Rattle.std.proofs.lemmas.List.Elements.{All-from_recursion}
use Rattle.std.proofs.lemmas.List.Splits.{slice_split_at, slice_split_none}
use Rattle.program_syntax.specs.Text.{raw_lines, without_return, is_text_byte, is_blank, is_empty, words_of}
use Rattle.program_syntax.specs.Refusal.{lines_of}
use Rattle.program_syntax.specs.Canonical.{line_text}

-- a printing byte that is no blank and starts no comment
abbrev pub is_word_byte : ℕ → Bool
is_word_byte b = nat_le 33 b && nat_le b 126 && not (b == 35)

-- a word that a line may have
abbrev pub is_word : List ℕ → Bool
is_word w = not (is_empty w) && list_all is_word_byte w

abbrev pub AreWords : List (List ℕ) → Type 0
AreWords ws = AllByRecursion (λ w. is_word w ≡ true) ws

-- a line of words, and its text without a line feed
abbrev pub line_of : List (List ℕ) → List ℕ
line_of ws = join_with_byte 32 ws

each_byte : (P : ℕ → Type 0) (bs : List ℕ) → ((b : ℕ) → is_word_byte b ≡ true → P b) → list_all is_word_byte bs ≡ true → AllByRecursion P bs
each_byte P [] f h = tt
each_byte P (b ∷ bs) f h =
    let parts = and_parts (is_word_byte b) (list_all is_word_byte bs) h in (f b parts.0, each_byte P bs f parts.1)

word_bytes : (P : ℕ → Type 0) (w : List ℕ) → ((b : ℕ) → is_word_byte b ≡ true → P b) → is_word w ≡ true → AllByRecursion P w
word_bytes P w f h = each_byte P w f (and_parts (not (is_empty w)) (list_all is_word_byte w) h).1

all_after : (P : ℕ → Type 0) (xs ys : List ℕ) → AllByRecursion P xs → AllByRecursion P ys → AllByRecursion P (xs ++ ys)
all_after P [] ys h k = k
all_after P (x ∷ xs) ys h k = (h.0, all_after P xs ys h.1 k)

-- what holds of a space and of the bytes of words holds of all bytes of the line
line_bytes : (P : ℕ → Type 0) (ws : List (List ℕ)) → P 32 → ((b : ℕ) → is_word_byte b ≡ true → P b) → AreWords ws → AllByRecursion P (line_of ws)
line_bytes P [] s f h = tt
line_bytes P (w ∷ []) s f h = word_bytes P w f h.0
line_bytes P (w ∷ v ∷ ws) s f h = all_after P w (32 ∷ line_of (v ∷ ws)) (word_bytes P w f h.0) (s, line_bytes P (v ∷ ws) s f h.1)

passes_all : (p : ℕ → Bool) (bs : List ℕ) → AllByRecursion (λ b. p b ≡ true) bs → list_all p bs ≡ true
passes_all p [] h = refl
passes_all p (b ∷ bs) h = rw h.0 (passes_all p bs h.1)

text_byte : (b : ℕ) → is_word_byte b ≡ true → is_text_byte b ≡ true
text_byte b h = grind (arith, nat_tests)

pub line_bytes_allowed : (ws : List (List ℕ)) → AreWords ws → list_all is_text_byte (line_of ws) ≡ true
line_bytes_allowed ws h = passes_all is_text_byte (line_of ws) (line_bytes (λ b. is_text_byte b ≡ true) ws refl text_byte h)

-- no carriage return to drop
no_return : (bs : List ℕ) → AllByRecursion (λ b. (b == 13) ≡ false) bs → without_return bs ≡ bs
no_return [] h = refl
no_return (b ∷ []) h = rw h.0 refl
no_return (b ∷ c ∷ bs) h = ap (λ xs. b ∷ xs) (no_return (c ∷ bs) h.1)

not_return : (b : ℕ) → is_word_byte b ≡ true → (b == 13) ≡ false
not_return b h = grind (arith, nat_tests)

line_without_return : (ws : List (List ℕ)) → AreWords ws → without_return (line_of ws) ≡ line_of ws
line_without_return ws h = no_return (line_of ws) (line_bytes (λ b. (b == 13) ≡ false) ws refl not_return h)

-- no comment to leave out
no_comment : (bs : List ℕ) → AllByRecursion (λ b. (b == 35) ≡ false) bs → before_first (λ b. b == 35) bs ≡ bs
no_comment [] h = refl
no_comment (b ∷ bs) h = rw (h.0, one-add) (ap (λ xs. b ∷ xs) (no_comment bs h.1))

not_sign : (b : ℕ) → is_word_byte b ≡ true → (b == 35) ≡ false
not_sign b h = grind (arith, nat_tests)

not_blank : (b : ℕ) → is_word_byte b ≡ true → is_blank b ≡ false
not_blank b h = grind (arith, nat_tests)

-- the words between blanks
not_empty : (w : List ℕ) → is_word w ≡ true → not (is_empty w) ≡ true
not_empty w h = (and_parts (not (is_empty w)) (list_all is_word_byte w) h).0

kept_words : (ws : List (List ℕ)) → AreWords ws → filter (λ w. not (is_empty w)) ws ≡ ws
kept_words [] h = refl
kept_words (w ∷ ws) h = rw (not_empty w h.0) (ap (λ xs. w ∷ xs) (kept_words ws h.1))

without_blanks : (w : List ℕ) → is_word w ≡ true → AllByRecursion (λ b. is_blank b ≡ false) w
without_blanks w h = word_bytes (λ b. is_blank b ≡ false) w not_blank h

split_words : (w : List ℕ) (ws : List (List ℕ)) → AreWords (w ∷ ws) → slice_split is_blank (line_of (w ∷ ws)) ≡ w ∷ ws
split_words w [] h =
    slice_split_none is_blank w (All-from_recursion (λ b. is_blank b ≡ false) w (without_blanks w h.0))
split_words w (v ∷ ws) h =
    slice_split_at is_blank w 32 (line_of (v ∷ ws)) (All-from_recursion (λ b. is_blank b ≡ false) w (without_blanks w h.0)) refl
    ∙ ap (λ xs. w ∷ xs) (split_words v ws h.1)

-- the words of a line that is written are the words
pub words_of_line : (ws : List (List ℕ)) → AreWords ws → words_of (line_of ws) ≡ ws
words_of_line [] h = refl
words_of_line (w ∷ ws) h =
    ap (λ line. filter (λ w. not (is_empty w)) (slice_split is_blank line))
    (no_comment (line_of (w ∷ ws)) (line_bytes (λ b. (b == 35) ≡ false) (w ∷ ws) refl not_sign h))
    ∙ ap (λ parts. filter (λ w. not (is_empty w)) parts) (split_words w ws h)
    ∙ kept_words (w ∷ ws) h

-- the lines of a text
not_feed : (b : ℕ) → is_word_byte b ≡ true → (b == 10) ≡ false
not_feed b h = grind (arith, nat_tests)

abbrev pub AreLines : List (List (List ℕ)) → Type 0
AreLines lines = AllByRecursion AreWords lines

split_line : (ws : List (List ℕ)) (rest : List ℕ) → AreWords ws → raw_lines (line_of ws ++ 10 ∷ rest) ≡ line_of ws ∷ raw_lines rest
split_line ws rest h =
    slice_split_at (λ b. b == 10) (line_of ws) 10 rest
    (All-from_recursion (λ b. (b == 10) ≡ false) (line_of ws) (line_bytes (λ b. (b == 10) ≡ false) ws refl not_feed h)) refl

-- the lines of a text that is written are the lines, and the empty one after the last line feed
pub lines_of_text : (lines : List (List (List ℕ))) → AreLines lines → lines_of (flat_map line_text lines) ≡ map line_of lines ++ [] ∷ []
lines_of_text [] h = refl
lines_of_text (ws ∷ lines) h =
    ap (λ bs. map without_return (raw_lines bs)) (append_assoc (line_of ws) (10 ∷ []) (flat_map line_text lines))
    ∙ ap (λ parts. map without_return parts) (split_line ws (flat_map line_text lines) h.0)
    ∙ rw (line_without_return ws h.0) (ap (λ xs. line_of ws ∷ xs) (lines_of_text lines h.1))
