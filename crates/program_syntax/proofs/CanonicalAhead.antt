-- What the lines of a section say to the lines before them: the labels on them, and that the section is closed.
use Rattle.std.proofs.Common.{◌≡◌, ℕ, ◌+◌, ◌==◌, Bool, true, false, List, [], ◌∷◌, ◌++◌, length, map, refl, ap, ◌∙◌, append_assoc, eqb-true}
use Rattle.std.specs.List.{AllByRecursion}
use Rattle.std.proofs.lemmas.List.{map-append}
use Rattle.object_program.specs.Name.{is_name}
use Rattle.object_program.specs.Valid.{AreNames, EndsOnce, IsInstruction}
use Rattle.program_syntax.specs.Reading.{first_keyword, labels_ahead}
use Rattle.program_syntax.specs.Refusal.{is_closed}
use Rattle.program_syntax.specs.Canonical.{local_words, label_words, instruction_words, labels_at, code_lines}
use Rattle.object_program.specs.declared.program.ClassDef.{ClassDef}
use Rattle.object_program.specs.declared.program.ObjectDef.{ObjectDef}
use Rattle.object_program.specs.declared.program.LabelDef.{LabelDef}
use Rattle.object_program.specs.declared.program.ThreadDef.{ThreadDef}
use Rattle.object_program.specs.declared.program.Code.{Code}
use Rattle.object_program.specs.declared.program.Code.TheVariants as code
use Rattle.program_syntax.proofs.CanonicalText.{line_of}
use Rattle.program_syntax.proofs.CanonicalLabels.{labels_from}
use Rattle.program_syntax.proofs.CanonicalWords.{local_is_words, label_is_words}
use Rattle.program_syntax.proofs.CanonicalReading.{ahead_by, labels_ahead-line, closed_by, is_closed-line}
use Rattle.program_syntax.proofs.CanonicalInstructions.{AreNamed, instruction_is_words}

-- a label of instruction n
pub record IsLabelOf (n : ℕ) (l : LabelDef) : Type 0 where
  pub index_is : l.index ≡ n
  pub name_is : is_name l.name ≡ true

label_at_by : (n : ℕ) (l : LabelDef) (ls : List LabelDef) (b : Bool) → (l.index == n) ≡ b
    → is_name l.name ≡ true → AllByRecursion (IsLabelOf n) (labels_at n ls)
    → AllByRecursion (IsLabelOf n) (labels_at n (l ∷ ls))
label_at_by n l ls true e name h = rw e (record { index_is = eqb-true l.index n e; name_is = name }, h)
label_at_by n l ls false e name h = rw e h

pub labels_at_are : (n : ℕ) (labels : List LabelDef) → AreNames (map (λ l. l.name) labels) → AllByRecursion (IsLabelOf n) (labels_at n labels)
labels_at_are n [] names = tt
labels_at_are n (l ∷ ls) names = label_at_by n l ls (l.index == n) refl names.0 (labels_at_are n ls names.2)

-- lines one after another
pub lines-append : (xs ys : List (List (List ℕ))) (later : List (List ℕ)) → map line_of (xs ++ ys) ++ later ≡ map line_of xs ++ (map line_of ys ++ later)
lines-append xs ys later = ap (λ ls. ls ++ later) (map-append line_of xs ys) ∙ append_assoc (map line_of xs) (map line_of ys) later

same_label : (n : ℕ) (l : LabelDef) → l.index ≡ n → record { name = l.name; index = n } ≡ l
same_label n l e = rw (← e) refl

ahead_label : (n : ℕ) (l : LabelDef) (later : List (List ℕ)) → is_name l.name ≡ true
    → ahead_by n (label_words l) (first_keyword (label_words l)) later ≡ record { name = l.name; index = n } ∷ labels_ahead n later
ahead_label n l later name = rw name refl

ahead_labels : (n : ℕ) (here : List LabelDef) (later : List (List ℕ)) → AllByRecursion (IsLabelOf n) here
    → labels_ahead n (map line_of (map label_words here) ++ later) ≡ here ++ labels_ahead n later
ahead_labels n [] later h = refl
ahead_labels n (l ∷ ls) later h =
    let rest = map line_of (map label_words ls) ++ later in
    labels_ahead-line n (label_words l) rest (label_is_words l h.0.name_is)
    ∙ ahead_label n l rest h.0.name_is
    ∙ ap (λ x. x ∷ labels_ahead n rest) (same_label n l h.0.index_is)
    ∙ ap (λ xs. l ∷ xs) (ahead_labels n ls later h.1)

ahead_inner : (n : ℕ) (classes : List ClassDef) (ds : List ObjectDef) (t : ThreadDef) (c : Code) (later : List (List ℕ)) → (c ≡ code.End → ⊥)
    → ahead_by n (instruction_words classes ds t c) (first_keyword (instruction_words classes ds t c)) later ≡ labels_ahead (n + 1) later
ahead_inner n classes ds t code.End later h = absurd (h refl)
ahead_inner n classes ds t c later h = refl

ahead_last : (n : ℕ) (classes : List ClassDef) (ds : List ObjectDef) (t : ThreadDef) (c : Code) (later : List (List ℕ)) → c ≡ code.End
    → ahead_by n (instruction_words classes ds t c) (first_keyword (instruction_words classes ds t c)) later ≡ []
ahead_last n classes ds t c later e = rw e refl

pub closed_inner : (classes : List ClassDef) (ds : List ObjectDef) (t : ThreadDef) (c : Code) (later : List (List ℕ)) → (c ≡ code.End → ⊥)
    → closed_by (first_keyword (instruction_words classes ds t c)) later ≡ is_closed later
closed_inner classes ds t code.End later h = absurd (h refl)
closed_inner classes ds t c later h = refl

closed_last : (classes : List ClassDef) (ds : List ObjectDef) (t : ThreadDef) (c : Code) (later : List (List ℕ)) → c ≡ code.End
    → closed_by (first_keyword (instruction_words classes ds t c)) later ≡ true
closed_last classes ds t c later e = rw e refl

closed_labels : (n : ℕ) (here : List LabelDef) (later : List (List ℕ)) → AllByRecursion (IsLabelOf n) here
    → is_closed (map line_of (map label_words here) ++ later) ≡ is_closed later
closed_labels n [] later h = refl
closed_labels n (l ∷ ls) later h =
    is_closed-line (label_words l) (map line_of (map label_words ls) ++ later) (label_is_words l h.0.name_is) ∙ closed_labels n ls later h.1

pub closed_locals : (locals : List (List ℕ)) (later : List (List ℕ)) → AreNames locals
    → is_closed (map line_of (map local_words locals) ++ later) ≡ is_closed later
closed_locals [] later h = refl
closed_locals (x ∷ xs) later h =
    is_closed-line (local_words x) (map line_of (map local_words xs) ++ later) (local_is_words x h.0) ∙ closed_locals xs later h.2

module _ (classes : List ClassDef) (ds : List ObjectDef) (t : ThreadDef) (named : AreNamed classes ds t) (later : List (List ℕ)) where
  abbrev pub code_after : ℕ → Code → List Code → List (List ℕ)
  code_after n c cs = line_of (instruction_words classes ds t c) ∷ (map line_of (code_lines classes ds t (n + 1) cs) ++ later)

  -- the lines of an instruction and those after it
  pub code_lines-cons : (n : ℕ) (c : Code) (cs : List Code)
      → map line_of (code_lines classes ds t n (c ∷ cs)) ++ later ≡ map line_of (map label_words (labels_at n t.labels)) ++ code_after n c cs
  code_lines-cons n c cs =
      lines-append (map label_words (labels_at n t.labels)) (instruction_words classes ds t c ∷ code_lines classes ds t (n + 1) cs) later

  ahead_by_labels : (n : ℕ) (c : Code) (cs : List Code)
      → labels_ahead n (map line_of (code_lines classes ds t n (c ∷ cs)) ++ later) ≡ labels_at n t.labels ++ labels_ahead n (code_after n c cs)
  ahead_by_labels n c cs =
      ap (labels_ahead n) (code_lines-cons n c cs) ∙ ahead_labels n (labels_at n t.labels) (code_after n c cs) (labels_at_are n t.labels named.label_names)

  pub ahead_code : (n : ℕ) (cs : List Code) → AllByRecursion (IsInstruction (length classes) (length t.locals) (length ds) t.labels) cs → EndsOnce cs
      → labels_ahead n (map line_of (code_lines classes ds t n cs) ++ later) ≡ labels_from t.labels n cs
  ahead_code n [] h ends = absurd ends
  ahead_code n (c ∷ []) h ends =
      ahead_by_labels n c []
      ∙ ap (λ ls. labels_at n t.labels ++ ls)
      (labels_ahead-line n (instruction_words classes ds t c) later (instruction_is_words classes ds t named c h.0)
      ∙ ahead_last n classes ds t c later ends)
  ahead_code n (c ∷ d ∷ cs) h ends =
      let rest = map line_of (code_lines classes ds t (n + 1) (d ∷ cs)) ++ later in
      ahead_by_labels n c (d ∷ cs)
      ∙ ap (λ ls. labels_at n t.labels ++ ls)
      (labels_ahead-line n (instruction_words classes ds t c) rest (instruction_is_words classes ds t named c h.0) ∙ ahead_inner n classes ds t c rest ends.0
      ∙ ahead_code (n + 1) (d ∷ cs) h.1 ends.1)

  closed_by_labels : (n : ℕ) (c : Code) (cs : List Code)
      → is_closed (map line_of (code_lines classes ds t n (c ∷ cs)) ++ later) ≡ is_closed (code_after n c cs)
  closed_by_labels n c cs =
      ap is_closed (code_lines-cons n c cs) ∙ closed_labels n (labels_at n t.labels) (code_after n c cs) (labels_at_are n t.labels named.label_names)

  pub closed_code : (n : ℕ) (cs : List Code) → AllByRecursion (IsInstruction (length classes) (length t.locals) (length ds) t.labels) cs → EndsOnce cs
      → is_closed (map line_of (code_lines classes ds t n cs) ++ later) ≡ true
  closed_code n [] h ends = absurd ends
  closed_code n (c ∷ []) h ends =
      closed_by_labels n c [] ∙ is_closed-line (instruction_words classes ds t c) later (instruction_is_words classes ds t named c h.0)
      ∙ closed_last classes ds t c later ends
  closed_code n (c ∷ d ∷ cs) h ends =
      let rest = map line_of (code_lines classes ds t (n + 1) (d ∷ cs)) ++ later in
      closed_by_labels n c (d ∷ cs) ∙ is_closed-line (instruction_words classes ds t c) rest (instruction_is_words classes ds t named c h.0)
      ∙ closed_inner classes ds t c rest ends.0 ∙ closed_code (n + 1) (d ∷ cs) h.1 ends.1
