-- A text and a journal with the marker between them split into just these two.
use Rattle.std.proofs.Common.{◌≡◌, ℕ, ◌==◌, ◌≤◌, Bool, true, false, if◌then◌else◌, List, [], ◌∷◌, ◌++◌, length}
use Rattle.std.proofs.Common.{refl, ap, sym, ◌∙◌, arith, true≢false}
use Rattle.std.specs.List.{list_any, onto_first}
use Rattle.lock_journal.specs.RunText.{text_of_lines}
use Rattle.bias_check.specs.Lines.{lines_of}
use Rattle.bias_check.specs.Parts.{marker, is_marker, before_marker, after_marker, has_journal, lines_are_terminated, ArePartsOf}

-- a text that isn't empty has a line
record HasLine (ls : List (List ℕ)) : Type 0 where
  line : List ℕ
  others : List (List ℕ)
  is : ls ≡ line ∷ others

onto_line : (b : ℕ) (ls : List (List ℕ)) → HasLine (onto_first b ls)
onto_line b [] = record { line = b ∷ []; others = []; is = refl }
onto_line b (l ∷ ls) = record { line = b ∷ l; others = ls; is = refl }

some_line : (b : ℕ) (bs : List ℕ) → HasLine (lines_of (b ∷ bs))
some_line b bs = go (b == 10)
  where
    go : (q : Bool) → HasLine (if q then (b ∷ []) ∷ lines_of bs else onto_first b (lines_of bs))
    go true = record { line = b ∷ []; others = lines_of bs; is = refl }
    go false = onto_line b (lines_of bs)

onto_append : (b : ℕ) (ls ms : List (List ℕ)) → HasLine ls → onto_first b (ls ++ ms) ≡ onto_first b ls ++ ms
onto_append b ls ms h =
    ap (λ (z : List (List ℕ)). onto_first b (z ++ ms)) h.is ∙ sym (ap (λ (z : List (List ℕ)). onto_first b z ++ ms) h.is)

-- a text whose lines are terminated is read before what follows it
lines_append : (a x : List ℕ) → lines_are_terminated a ≡ true → lines_of (a ++ x) ≡ lines_of a ++ lines_of x
lines_append [] x h = refl
lines_append (b ∷ []) x h =
    ap (λ (q : Bool). if q then (b ∷ []) ∷ lines_of x else onto_first b (lines_of x)) h
    ∙ sym (ap (λ (q : Bool). (if q then (b ∷ []) ∷ [] else onto_first b []) ++ lines_of x) h)
lines_append (b ∷ c ∷ bs) x h = go (b == 10) (lines_append (c ∷ bs) x h)
  where
    go : (q : Bool) → lines_of ((c ∷ bs) ++ x) ≡ lines_of (c ∷ bs) ++ lines_of x
        → (if q then (b ∷ []) ∷ lines_of ((c ∷ bs) ++ x) else onto_first b (lines_of ((c ∷ bs) ++ x)))
        ≡ (if q then (b ∷ []) ∷ lines_of (c ∷ bs) else onto_first b (lines_of (c ∷ bs))) ++ lines_of x
    go true e = ap (λ (ls : List (List ℕ)). (b ∷ []) ∷ ls) e
    go false e = ap (onto_first b) e ∙ onto_append b (lines_of (c ∷ bs)) (lines_of x) (some_line c bs)

text_onto : (b : ℕ) (ls : List (List ℕ)) → text_of_lines (onto_first b ls) ≡ b ∷ text_of_lines ls
text_onto b [] = refl
text_onto b (l ∷ ls) = refl

text_again : (t : List ℕ) → text_of_lines (lines_of t) ≡ t
text_again [] = refl
text_again (b ∷ bs) = go (b == 10) (text_again bs)
  where
    go : (q : Bool) → text_of_lines (lines_of bs) ≡ bs → text_of_lines (if q then (b ∷ []) ∷ lines_of bs else onto_first b (lines_of bs)) ≡ b ∷ bs
    go true e = ap (λ (z : List ℕ). b ∷ z) e
    go false e = text_onto b (lines_of bs) ∙ ap (λ (z : List ℕ). b ∷ z) e

-- where the first of these lines have no marker, and the marker follows, they are the program
record Apart (ls ms : List (List ℕ)) : Type 0 where
  before : before_marker (ls ++ marker ∷ ms) ≡ text_of_lines ls
  after : after_marker (ls ++ marker ∷ ms) ≡ ms
  marked : list_any is_marker (ls ++ marker ∷ ms) ≡ true

apart : (ls ms : List (List ℕ)) → list_any is_marker ls ≡ false → Apart ls ms
apart [] ms h = record { before = refl; after = refl; marked = refl }
apart (l ∷ ls) ms h = go (is_marker l) refl h (apart ls ms)
  where
    go : (q : Bool) → is_marker l ≡ q → list_any is_marker (l ∷ ls) ≡ false → (list_any is_marker ls ≡ false → Apart ls ms) → Apart (l ∷ ls) ms
    go true is h next = absurd (true≢false (sym (rw is refl) ∙ h))
    go false is h next =
        let rest = next (sym (rw is refl) ∙ h) in
        record {
          before = rw is (ap (λ (z : List ℕ). l ++ z) rest.before);
          after = rw is rest.after;
          marked = rw is rest.marked;
        }

behind : (t journal : List ℕ) → length journal ≤ length (t ++ (marker ++ journal))
behind [] journal = omega arith
behind (b ∷ bs) journal = omega (arith, behind bs journal)

pub joined_parts : (text journal : List ℕ) → lines_are_terminated text ≡ true → has_journal text ≡ false
    → ArePartsOf (text ++ (marker ++ journal)) text journal
joined_parts text journal terminated none =
    let lines : lines_of (text ++ (marker ++ journal)) ≡ lines_of text ++ marker ∷ lines_of journal =
    lines_append text (marker ++ journal) terminated in
    let a = apart (lines_of text) (lines_of journal) none in
    record {
      marked = ap (list_any is_marker) lines ∙ a.marked;
      program_is = sym (ap before_marker lines ∙ a.before ∙ text_again text);
      journal_is = sym (ap after_marker lines ∙ a.after);
      within = behind text journal;
    }
