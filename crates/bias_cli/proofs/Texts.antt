-- Writing the lines of a text one after the other.
use Rattle.std.proofs.Common.{◌≡◌, ℕ, ◌+◌, ◌<◌, List, [], ◌∷◌, ◌++◌, length, drop, get_or, refl, ap, sym, ◌∙◌, append_assoc, append-nil, Option, Some}
use Rattle.std.specs.Prelude.{Result, Ok, Err, OnErr}
use Rattle.std.proofs.lemmas.List.{at_drop_more}
use Rattle.bias_cli.specs.Output.{Wrote, WroteFront}
use Rattle.lock_journal.specs.RunText.{text_of_lines}

pub texts_append : (xs ys : List (List ℕ)) → text_of_lines (xs ++ ys) ≡ text_of_lines xs ++ text_of_lines ys
texts_append [] ys = refl
texts_append (x ∷ xs) ys = ap (λ zs. x ++ zs) (texts_append xs ys) ∙ sym (append_assoc x (text_of_lines xs) (text_of_lines ys))

-- so far these lines were written, and those are left
pub record WroteSoFar (held_before held_now : Option (List ℕ)) (lines left : List (List ℕ)) : Type 0 where
  pub done : List (List ℕ)
  pub all : lines ≡ done ++ left
  pub wrote : Wrote held_before held_now (text_of_lines done)

pub wrote_line : (h0 h1 h2 : Option (List ℕ)) (lines left rest : List (List ℕ)) (line : List ℕ)
    → left ≡ line ∷ rest → WroteSoFar h0 h1 lines left → Wrote h1 h2 line → WroteSoFar h0 h2 lines rest
wrote_line h0 h1 h2 lines left rest line e w more =
    record {
      done = w.done ++ line ∷ [];
      all = w.all ∙ ap (λ ls. w.done ++ ls) e ∙ sym (append_assoc w.done (line ∷ []) rest);
      wrote = λ held is.
          more (held ++ text_of_lines w.done) (w.wrote held is)
          ∙ ap Some (append_assoc held (text_of_lines w.done) line
          ∙ ap (λ bs. held ++ (text_of_lines w.done ++ bs)) (sym (append-nil line))
          ∙ ap (λ bs. held ++ bs) (sym (texts_append w.done (line ∷ []))));
    }

-- a line of which a front was written
pub wrote_part : (h0 h1 h2 : Option (List ℕ)) (lines left rest : List (List ℕ)) (line : List ℕ)
    → left ≡ line ∷ rest → WroteSoFar h0 h1 lines left → WroteFront h1 h2 line
    → WroteFront h0 h2 (text_of_lines lines)
wrote_part h0 h1 h2 lines left rest line e w part =
    let done = text_of_lines w.done in
    let cut = part.2 in (
      done ++ part.0,
      part.1 ++ text_of_lines rest,
      ap text_of_lines (w.all ∙ ap (λ ls. w.done ++ ls) e)
          ∙ texts_append w.done (line ∷ rest)
          ∙ ap (λ bs. done ++ (bs ++ text_of_lines rest)) cut
          ∙ ap (λ bs. done ++ bs) (append_assoc part.0 part.1 (text_of_lines rest))
          ∙ sym (append_assoc done part.0 (part.1 ++ text_of_lines rest)),
      λ held is. part.3 (held ++ done) (w.wrote held is) ∙ ap Some (append_assoc held done part.0),
    )

-- ---- a text after another

pub wrote_both : (h0 h1 h2 : Option (List ℕ)) (a b : List ℕ) → Wrote h0 h1 a → Wrote h1 h2 b → Wrote h0 h2 (a ++ b)
wrote_both h0 h1 h2 a b first second held is = second (held ++ a) (first held is) ∙ ap Some (append_assoc held a b)

pub wrote_of_first : (h0 h1 : Option (List ℕ)) (a b : List ℕ) → WroteFront h0 h1 a → WroteFront h0 h1 (a ++ b)
wrote_of_first h0 h1 a b part = (part.0, part.1 ++ b, ap (λ bs. bs ++ b) part.2 ∙ append_assoc part.0 part.1 b, part.3)

pub wrote_of_second : (h0 h1 h2 : Option (List ℕ)) (a b : List ℕ) → Wrote h0 h1 a → WroteFront h1 h2 b → WroteFront h0 h2 (a ++ b)
wrote_of_second h0 h1 h2 a b first part = (
  a ++ part.0,
  part.1,
  ap (λ bs. a ++ bs) part.2 ∙ sym (append_assoc a part.0 part.1),
  λ held is. part.3 (held ++ a) (first held is) ∙ ap Some (append_assoc held a part.0),
)

-- the lines that are left begin with the next one
pub line_first : (lines : List (List ℕ)) (i : ℕ) (line : List ℕ) → i < length lines → line ≡ get_or lines i line → drop i lines ≡ line ∷ drop (i + 1) lines
line_first lines i line h e = at_drop_more (λ xs. xs) lines i line h ∙ ap (λ l. l ∷ drop (i + 1) lines) (sym e)

-- what holds anyway holds of an error
pub on_err : {A E : Type 0} (P : Type 0) (r : Result A E) → P → OnErr r P
on_err P (Ok x) p = tt
on_err P (Err e) p = p
