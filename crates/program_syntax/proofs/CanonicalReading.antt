-- A line of a canonical text is read as what it was written for.
use Rattle.std.proofs.Common.{◌≡◌, ℕ, ◌+◌, ◌<◌, ◌≤◌, ◌==◌, Bool, true, false, if◌then◌else◌, List}
use Rattle.std.proofs.Common.{[], ◌∷◌, ◌++◌, length, refl, ap, arith, Some, None, Ok, ℤ, pos}
use Rattle.std.specs.Prelude.{Option, decimal}
use Rattle.std.specs.Fmt.{signed_decimal}
use Rattle.std.specs.List.{list_all}
use Rattle.std.proofs.lemmas.Bool.{or_from}
use Rattle.plain_monitor.specs.Numbers.{IsInRange, least_number, greatest_number}
use Rattle.object_program.specs.Name.{is_name}
use Rattle.program_syntax.specs.Text.{is_text_byte, words_of}
use Rattle.program_syntax.specs.Number.{number_of, is_within}
use Rattle.object_program.specs.Valid.{is_among}
use Rattle.program_syntax.specs.Line.{operands_of}
use Rattle.program_syntax.specs.Reading.{Before, first_keyword, ends_section, labels_on, number_after_line, labels_ahead, after_words}
use Rattle.program_syntax.specs.Refusal.{names_before, names_known, is_bad_name, is_twice, is_undeclared, is_bad_number, some_operand}
use Rattle.program_syntax.specs.Refusal.{passes_limit, opens_unclosed, is_end, is_closed, is_in_place, keyword_cause, words_cause, read_from}
use Rattle.program_syntax.specs.declared.operand.Space.{Space}
use Rattle.program_syntax.specs.declared.operand.Operand.{Operand}
use Rattle.program_syntax.specs.declared.operand.Operand.TheVariants.{New, Known, Number}
use Rattle.object_program.specs.declared.program.LabelDef.{LabelDef}
use Rattle.program_syntax.specs.declared.keyword.Keyword.{Keyword}
use Rattle.program_syntax.proofs.CanonicalText.{AreWords, line_of, words_of_line, line_bytes_allowed}
use Rattle.program_syntax.proofs.CanonicalNumbers.{decimal_within, signed_within}

-- an operand passes each test
pub record IsGood (b : Before) (later : List (List ℕ)) (o : Operand) (w : List ℕ) : Type 0 where
  pub named : is_bad_name o w ≡ false
  pub once : is_twice b o w ≡ false
  pub declared : is_undeclared b later o w ≡ false
  pub numbered : is_bad_number o w ≡ false

abbrev pub AreGood : Before → List (List ℕ) → List Operand → List (List ℕ) → Type 0
AreGood b later [] ws = Unit {0}
AreGood b later (o ∷ os) [] = Unit {0}
AreGood b later (o ∷ os) (w ∷ ws) = IsGood b later o w × AreGood b later os ws

pub good_new : (b : Before) (later : List (List ℕ)) (s : Space) (w : List ℕ)
    → is_name w ≡ true → is_among (names_before b s) w ≡ false → IsGood b later (New s) w
good_new b later s w name new = record { named = rw name refl; once = new; declared = refl; numbered = refl }

pub good_known : (b : Before) (later : List (List ℕ)) (s : Space) (w : List ℕ)
    → is_name w ≡ true → is_among (names_known b later s) w ≡ true → IsGood b later (Known s) w
good_known b later s w name known = record { named = rw name refl; once = refl; declared = rw known refl; numbered = refl }

good_number : (b : Before) (later : List (List ℕ)) (low high : ℤ) (w : List ℕ) → is_within low high (number_of w) ≡ true → IsGood b later (Number low high) w
good_number b later low high w h = record { named = refl; once = refl; declared = refl; numbered = rw h refl }

pub good_decimal : (b : Before) (later : List (List ℕ)) (low high n : ℕ) → low ≤ n
    → n ≤ high → high < 10000 → IsGood b later (Number (pos low) (pos high)) (decimal n)
good_decimal b later low high n l h lt =
    good_number b later (pos low) (pos high) (decimal n) (decimal_within low high n l h (omega arith))

pub good_signed : (b : Before) (later : List (List ℕ)) (z : ℤ) → IsInRange z → IsGood b later (Number least_number greatest_number) (signed_decimal z)
good_signed b later z h = good_number b later least_number greatest_number (signed_decimal z) (signed_within z h)

none_fails : (b : Before) (later : List (List ℕ)) (test : Operand → List ℕ → Bool) → ((o : Operand) (w : List ℕ) → IsGood b later o w → test o w ≡ false)
    → (os : List Operand) (ws : List (List ℕ)) → AreGood b later os ws → some_operand test os ws ≡ false
none_fails b later test f [] ws h = refl
none_fails b later test f (o ∷ os) [] h = refl
none_fails b later test f (o ∷ os) (w ∷ ws) h = or_from (test o w) (some_operand test os ws) (f o w h.0) (none_fails b later test f os ws h.1)

-- a line whose keyword stands in its place, with as many good operands as it wants, within the limits
pub record IsAllowedLine (b : Before) (later ws : List (List ℕ)) (k : Keyword) : Type 0 where
  pub place : is_in_place b k ≡ true
  pub number : (length ws == length (operands_of k)) ≡ true
  pub operands : AreGood b later (operands_of k) ws
  pub limit : passes_limit b ws k ≡ false
  pub closed : opens_unclosed later k ≡ false

pub no_cause : (b : Before) (later ws : List (List ℕ)) (k : Keyword) → IsAllowedLine b later ws k → keyword_cause b later ws (Some k) ≡ None
no_cause b later ws k h =
    let names = none_fails b later is_bad_name (λ o w g. g.named) (operands_of k) ws h.operands in
    let news = none_fails b later (is_twice b) (λ o w g. g.once) (operands_of k) ws h.operands in
    let knowns = none_fails b later (is_undeclared b later) (λ o w g. g.declared) (operands_of k) ws h.operands in
    let numbers = none_fails b later is_bad_number (λ o w g. g.numbered) (operands_of k) ws h.operands in
    rw (h.place, h.number, names, news, knowns, numbers, h.limit, h.closed) refl

-- what these lines declare after a state
pub record ReadsAs (final b : Before) (lines : List (List ℕ)) : Type 0 where
  pub at : (n : ℕ) → read_from n b lines ≡ Ok final

read_line_at : (final b next : Before) (later : List (List ℕ)) (line : List ℕ) (ws : List (List ℕ)) (n : ℕ)
    → list_all is_text_byte line ≡ true → words_of line ≡ ws
    → words_cause b later ws ≡ None → after_words b later ws (first_keyword ws) ≡ next → read_from (n + 1) next later ≡ Ok final
    → read_from n b (line ∷ later) ≡ Ok final
read_line_at final b next later line ws n bytes words cause after h = rw (bytes, words, cause, after) h

pub read_line : (final b next : Before) (later ws : List (List ℕ)) → AreWords ws
    → words_cause b later ws ≡ None → after_words b later ws (first_keyword ws) ≡ next
    → ReadsAs final next later → ReadsAs final b (line_of ws ∷ later)
read_line final b next later ws words cause after h = record {
  at = λ n. read_line_at final b next later (line_of ws) ws n (line_bytes_allowed ws words) (words_of_line ws words) cause after (h.at (n + 1));
}

-- a line of these words leads from one state to another
pub record IsRead (b next : Before) (later ws : List (List ℕ)) : Type 0 where
  pub words : AreWords ws
  pub cause : words_cause b later ws ≡ None
  pub after : after_words b later ws (first_keyword ws) ≡ next

pub line_read : (final b next : Before) (later ws : List (List ℕ)) → IsRead b next later ws → ReadsAs final next later → ReadsAs final b (line_of ws ∷ later)
line_read final b next later ws is h = read_line final b next later ws is.words is.cause is.after h

-- the labels on lines that begin with this one, and whether they close their section
abbrev pub ahead_by : ℕ → List (List ℕ) → Option Keyword → List (List ℕ) → List LabelDef
ahead_by n ws keyword later = if ends_section keyword then [] else labels_on n ws keyword ++ labels_ahead (number_after_line n keyword) later

pub labels_ahead-line : (n : ℕ) (ws later : List (List ℕ)) → AreWords ws → labels_ahead n (line_of ws ∷ later) ≡ ahead_by n ws (first_keyword ws) later
labels_ahead-line n ws later h = ap (λ words. ahead_by n words (first_keyword words) later) (words_of_line ws h)

abbrev pub closed_by : Option Keyword → List (List ℕ) → Bool
closed_by keyword later = if ends_section keyword then is_end keyword else is_closed later

pub is_closed-line : (ws later : List (List ℕ)) → AreWords ws → is_closed (line_of ws ∷ later) ≡ closed_by (first_keyword ws) later
is_closed-line ws later h = ap (λ words. closed_by (first_keyword words) later) (words_of_line ws h)
