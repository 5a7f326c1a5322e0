-- A text that has a program has no line that is the marker.
use Rattle.std.proofs.Common.{◌≡◌, ℕ, zero, suc, ◌+◌, ◌==◌, Bool, true, false, if◌then◌else◌, not, List, [], ◌∷◌, ◌++◌, map}
use Rattle.std.proofs.Common.{Option, Some, None, Result, Ok, Err, slice_get, codes, refl, ap, sym, ◌∙◌, true≢false, eqb-true}
use Rattle.std.proofs.lemmas.Option.{none-some, same_Some}
use Rattle.std.proofs.lemmas.List.{append_cancel_right}
use Rattle.std.specs.List.{list_any, list_all, onto_first, slice_split}
use Rattle.object_program.specs.Program.{ProgramText}
use Rattle.program_syntax.specs.Reading.{Before, nothing, after_line}
use Rattle.program_syntax.specs.Text.{raw_lines, without_return}
use Rattle.program_syntax.specs.Refusal.{line_cause, read_on, read_from, finished, program_of}
use Rattle.program_syntax.specs.declared.error.ProgramError.{ProgramError}
use Rattle.program_syntax.specs.declared.error.RefusalCause.{RefusalCause}
use Rattle.program_syntax.specs.declared.error.RefusalCause.TheVariants.{UnknownWord}
use Rattle.bias_check.specs.Lines.{lines_of}
use Rattle.bias_check.specs.Parts.{marker, is_marker, has_journal}
use Rattle.bias_check.proofs.Spellings.{same_word}

abbrev word : List ℕ
word = codes "%journal"

abbrev terminated : List ℕ → List ℕ
terminated h = h ++ 10 ∷ []

abbrev last_line : List ℕ → List (List ℕ)
last_line [] = []
last_line (b ∷ bs) = (b ∷ bs) ∷ []

-- the lines of a text with their line feeds, as a journal has them, and without, as a program has them
record TwoWays (text : List ℕ) : Type 0 where
  heads : List (List ℕ)
  tail : List ℕ
  feedless : list_all (λ b. not (b == 10)) tail ≡ true
  with_feeds : lines_of text ≡ map terminated heads ++ last_line tail
  without : slice_split (λ b. b == 10) text ≡ heads ++ tail ∷ []

two_ways : (text : List ℕ) → TwoWays text
two_ways [] = record { heads = []; tail = []; feedless = refl; with_feeds = refl; without = refl }
two_ways (b ∷ bs) = go (b == 10) refl (two_ways bs)
  where
    longer : (heads : List (List ℕ)) (tail : List ℕ) → (b == 10) ≡ false → list_all (λ b. not (b == 10)) tail ≡ true
        → lines_of bs ≡ map terminated heads ++ last_line tail → slice_split (λ b. b == 10) bs ≡ heads ++ tail ∷ [] → TwoWays (b ∷ bs)
    longer [] [] other less feeds plain = record {
      heads = [];
      tail = b ∷ [];
      feedless = rw other refl;
      with_feeds = rw other (ap (onto_first b) feeds);
      without = rw other (ap (onto_first b) plain);
    }
    longer [] (c ∷ cs) other less feeds plain = record {
      heads = [];
      tail = b ∷ c ∷ cs;
      feedless = rw other less;
      with_feeds = rw other (ap (onto_first b) feeds);
      without = rw other (ap (onto_first b) plain);
    }
    longer (h ∷ hs) tail other less feeds plain = record {
      heads = (b ∷ h) ∷ hs;
      tail = tail;
      feedless = less;
      with_feeds = rw other (ap (onto_first b) feeds);
      without = rw other (ap (onto_first b) plain);
    }

    go : (q : Bool) → (b == 10) ≡ q → TwoWays bs → TwoWays (b ∷ bs)
    go true is t =
        let ten : b ≡ 10 = eqb-true b 10 is in
        record {
          heads = [] ∷ t.heads;
          tail = t.tail;
          feedless = t.feedless;
          with_feeds = rw is (ap (λ (n : ℕ). (n ∷ []) ∷ lines_of bs) ten ∙ ap (λ (ls : List (List ℕ)). (10 ∷ []) ∷ ls) t.with_feeds);
          without = rw is (ap (λ (ls : List (List ℕ)). [] ∷ ls) t.without);
        }
    go false is t = longer t.heads t.tail is t.feedless t.with_feeds t.without

-- the word stands among the lines
record Stands (ls : List (List ℕ)) : Type 0 where
  place : ℕ
  at : slice_get ls place ≡ Some word

later_one : (l : List ℕ) (ls : List (List ℕ)) → Stands ls → Stands (l ∷ ls)
later_one l ls s = record { place = suc s.place; at = s.at }

-- a tail without line feeds isn't the marker
not_last : (tail : List ℕ) → list_all (λ b. not (b == 10)) tail ≡ true → list_any is_marker (last_line tail) ≡ true → ⊥
not_last [] less any = absurd (cc any)
not_last (b ∷ bs) less any = by_equal (is_marker (b ∷ bs)) refl any
  where
    by_equal : (q : Bool) → is_marker (b ∷ bs) ≡ q → list_any is_marker ((b ∷ bs) ∷ []) ≡ true → ⊥
    by_equal true is h =
        let same : b ∷ bs ≡ marker = same_word (b ∷ bs) marker is in
        true≢false (sym less ∙ ap (list_all (λ b. not (b == 10))) same)
    by_equal false is h = true≢false (sym h ∙ rw is refl)

stands_in : (heads : List (List ℕ)) (tail : List ℕ) → list_all (λ b. not (b == 10)) tail ≡ true
    → list_any is_marker (map terminated heads ++ last_line tail) ≡ true → Stands (heads ++ tail ∷ [])
stands_in [] tail less any = absurd (not_last tail less any)
stands_in (h ∷ hs) tail less any = go (is_marker (terminated h)) refl any (stands_in hs tail less)
  where
    go : (q : Bool) → is_marker (terminated h) ≡ q → list_any is_marker (terminated h ∷ (map terminated hs ++ last_line tail)) ≡ true
        → (list_any is_marker (map terminated hs ++ last_line tail) ≡ true → Stands (hs ++ tail ∷ [])) → Stands (h ∷ (hs ++ tail ∷ []))
    go true is found next =
        let same : terminated h ≡ terminated word = same_word (terminated h) marker is in
        record { place = 0; at = ap (λ (l : List ℕ). Some l) (append_cancel_right h word (10 ∷ []) same) }
    go false is found next = later_one h (hs ++ tail ∷ []) (next (sym (rw is refl) ∙ found))

-- where the word stands among the lines of a program, it is refused, at its line or before it
record Refused (r : Result Before ProgramError) : Type 0 where
  why : ProgramError
  is : r ≡ Err why

unknown : (b : Before) (later : List (List ℕ)) → line_cause b later (without_return word) ≡ Some UnknownWord
unknown b later = refl

refused_at : (n k : ℕ) (b : Before) (ls : List (List ℕ)) → slice_get ls k ≡ Some word → Refused (read_from n b (map without_return ls))
refused_at n k b [] at = absurd (none-some word at)
refused_at n zero b (l ∷ ls) at =
    let later = map without_return ls in
    let here : line_cause b later (without_return l) ≡ Some UnknownWord =
    ap (λ (z : List ℕ). line_cause b later (without_return z)) (same_Some l word at) ∙ unknown b later in
    record {
      why = record { line = n; why = UnknownWord };
      is = ap (λ c. read_on c n (read_from (n + 1) (after_line b later (without_return l)) later)) here;
    }
refused_at n (suc k) b (l ∷ ls) at =
    go (line_cause b (map without_return ls) (without_return l))
    (refused_at (n + 1) k (after_line b (map without_return ls) (without_return l)) ls at)
  where
    later : List (List ℕ)
    later = map without_return ls

    go : (c : Option RefusalCause) → Refused (read_from (n + 1) (after_line b (map without_return ls) (without_return l)) (map without_return ls))
        → Refused (read_on c n (read_from (n + 1) (after_line b (map without_return ls) (without_return l)) (map without_return ls)))
    go None r = r
    go (Some why) r = record { why = record { line = n; why = why }; is = refl }

module _ (text : List ℕ) (p : ProgramText) where
  not_err : (t : Bool) (e : ProgramError) (r : Result Before ProgramError) → Refused r → (if t then Err e else finished r) ≡ Ok p → ⊥
  not_err true e r f h = absurd (cc h)
  not_err false e r f h = absurd (cc (sym (ap finished f.is) ∙ h))

  marked_is_refused : has_journal text ≡ true → program_of text ≡ Ok p → ⊥
  marked_is_refused marked has =
      let t = two_ways text in
      let s = stands_in t.heads t.tail t.feedless (sym (ap (list_any is_marker) t.with_feeds) ∙ marked) in
      let at : slice_get (raw_lines text) s.place ≡ Some word = ap (λ (ls : List (List ℕ)). slice_get ls s.place) t.without ∙ s.at in
      not_err _ _ (read_from 1 nothing (map without_return (raw_lines text))) (refused_at 1 s.place nothing (raw_lines text) at) has

  pub unmarked : program_of text ≡ Ok p → has_journal text ≡ false
  unmarked has = by (has_journal text) refl
    where
      by : (q : Bool) → has_journal text ≡ q → has_journal text ≡ false
      by true is = absurd (marked_is_refused is has)
      by false is = is
