-- What is written piece by piece.
use Rattle.std.proofs.Common.{◌≡◌, ℕ, ◌+◌, ◌<◌, ◌==◌, Bool, if◌then◌else◌, List, [], ◌∷◌, ◌++◌, length, map, take, drop}
use Rattle.std.proofs.Common.{get_or, refl, ap, sym, ◌∙◌, arith, append_assoc, append-nil, length-take-le, ne_eqb}
use Rattle.std.specs.Prelude.{Result, Ok, Err, OnErr}
use Rattle.std.specs.List.{join_with_byte}
use Rattle.std.proofs.lemmas.Grind.{flat_map-append}
use Rattle.std.proofs.lemmas.List.{map-append, take_more, drop_more, length-map}
use Rattle.plain_monitor.specs.declared.refusal.NoMemory.{NoMemory}
use Rattle.program_syntax.specs.Canonical.{line_text, label_name, instruction_words, label_words, labels_at, code_lines}
use Rattle.program_syntax.specs.Written.{BeginsWith, lines_text}
use Rattle.object_program.specs.declared.program.ClassDef.{ClassDef}
use Rattle.object_program.specs.declared.program.ObjectDef.{ObjectDef}
use Rattle.object_program.specs.declared.program.LabelDef.{LabelDef}
use Rattle.object_program.specs.declared.program.ThreadDef.{ThreadDef}
use Rattle.object_program.specs.declared.program.Code.{Code}

-- what begins with more begins with less, where memory was wanting after it
pub err_after : (r : Result (Unit {0}) NoMemory) (old text mid new : List ℕ) → mid ≡ old ++ text → BeginsWith mid new → OnErr r (BeginsWith old new)
err_after (Ok u) old text mid new e h = tt
err_after (Err d) old text mid new e h =
    record { rest = text ++ h.rest; same = h.same ∙ ap (λ xs. xs ++ h.rest) e ∙ append_assoc old text h.rest }

-- the same of the last call, whatever it answers
pub call_after : (r : Result (Unit {0}) NoMemory) (old text mid new : List ℕ) → mid ≡ old ++ text → OnErr r (BeginsWith mid new) → OnErr r (BeginsWith old new)
call_after (Ok u) old text mid new e h = tt
call_after (Err d) old text mid new e h = err_after (Err d) old text mid new e h

-- two pieces of text, one after the other
pub written_more : (old a mid b new c : List ℕ) → mid ≡ old ++ a → new ≡ mid ++ b → a ++ b ≡ c → new ≡ old ++ c
written_more old a mid b new c e f g = f ∙ ap (λ xs. xs ++ b) e ∙ append_assoc old a b ∙ ap (λ xs. old ++ xs) g

-- one more word
join-push : (w v : List ℕ) (ws : List (List ℕ)) → join_with_byte 32 ((w ∷ ws) ++ v ∷ []) ≡ join_with_byte 32 (w ∷ ws) ++ 32 ∷ v
join-push w v [] = refl
join-push w v (x ∷ xs) =
    ap (λ bs. w ++ 32 ∷ bs) (join-push x v xs) ∙ sym (append_assoc w (32 ∷ join_with_byte 32 (x ∷ xs)) (32 ∷ v))

join_after : (ws : List (List ℕ)) (v : List ℕ) → join_with_byte 32 ws ++ (if length ws == 0 then v else 32 ∷ v) ≡ join_with_byte 32 (ws ++ v ∷ [])
join_after [] v = refl
join_after (w ∷ ws) v =
    ap (λ (b : Bool). join_with_byte 32 (w ∷ ws) ++ (if b then v else 32 ∷ v)) (ne_eqb (length (w ∷ ws)) 0 (λ e. omega arith)) ∙ sym (join-push w v ws)

pub join_more : {X : Type 0} (f : X → List ℕ) (xs : List X) (i : ℕ) (d : X) → i < length xs
    → join_with_byte 32 (map f (take i xs)) ++ (if i == 0 then f (get_or xs i d) else 32 ∷ f (get_or xs i d)) ≡ join_with_byte 32 (map f (take (i + 1) xs))
join_more f xs i d lt =
    let long : length (map f (take i xs)) ≡ i = omega (arith, length-map (take i xs) f, length-take-le i xs (omega arith)) in
    let same = ap (λ (n : ℕ). join_with_byte 32 (map f (take i xs)) ++ (if n == 0 then f (get_or xs i d) else 32 ∷ f (get_or xs i d))) (sym long) in
    same ∙ join_after (map f (take i xs)) (f (get_or xs i d))
    ∙ ap (join_with_byte 32) (sym (map-append f (take i xs) (get_or xs i d ∷ [])) ∙ ap (map f) (sym (take_more xs i d lt)))

-- one more line
lines_push : (xs : List (List (List ℕ))) (x : List (List ℕ)) → lines_text xs ++ line_text x ≡ lines_text (xs ++ x ∷ [])
lines_push xs x =
    ap (λ bs. lines_text xs ++ bs) (sym (append-nil (line_text x))) ∙ sym (flat_map-append line_text xs (x ∷ []))

-- the first label of an instruction, among those that are left
pub label_name_step : (labels : List LabelDef) (l i : ℕ) (d : LabelDef) → i < length labels
    → label_name (drop i labels) l ≡ (if (get_or labels i d).index == l then (get_or labels i d).name else label_name (drop (i + 1) labels) l)
label_name_step labels l i d lt = rw (drop_more labels i d lt) refl

-- one more instruction after its labels
code_lines-push : (classes : List ClassDef) (ds : List ObjectDef) (t : ThreadDef) (n : ℕ) (cs : List Code) (c : Code)
    → code_lines classes ds t n (cs ++ c ∷ [])
    ≡ code_lines classes ds t n cs ++ (map label_words (labels_at (n + length cs) t.labels) ++ instruction_words classes ds t c ∷ [])
code_lines-push classes ds t n [] c =
    let e : n ≡ n + 0 = omega arith in
    ap (λ (m : ℕ). map label_words (labels_at m t.labels) ++ instruction_words classes ds t c ∷ []) e
code_lines-push classes ds t n (x ∷ xs) c =
    let e : n + 1 + length xs ≡ n + length (x ∷ xs) = omega arith in
    let here = map label_words (labels_at n t.labels) in
    let last = λ (m : ℕ). map label_words (labels_at m t.labels) ++ instruction_words classes ds t c ∷ [] in
    ap (λ ls. here ++ instruction_words classes ds t x ∷ ls)
    (code_lines-push classes ds t (n + 1) xs c ∙ ap (λ (m : ℕ). code_lines classes ds t (n + 1) xs ++ last m) e)
    ∙ sym (append_assoc here (instruction_words classes ds t x ∷ code_lines classes ds t (n + 1) xs) (last (n + length (x ∷ xs))))

pub code_more : (classes : List ClassDef) (ds : List ObjectDef) (t : ThreadDef) (cs : List Code) (i n : ℕ) (c : Code) → i < length cs → n ≡ i + 1
    → lines_text (code_lines classes ds t 1 (take i cs))
    ++ (lines_text (map label_words (labels_at n t.labels)) ++ line_text (instruction_words classes ds t (get_or cs i c)))
    ≡ lines_text (code_lines classes ds t 1 (take (i + 1) cs))
code_more classes ds t cs i n c lt e =
    let labels = map label_words (labels_at n t.labels) in
    let x = get_or cs i c in
    let count : n ≡ 1 + length (take i cs) = omega (arith, length-take-le i cs (omega arith)) in
    ap (λ bs. lines_text (code_lines classes ds t 1 (take i cs)) ++ bs) (lines_push labels (instruction_words classes ds t x))
    ∙ sym (flat_map-append line_text (code_lines classes ds t 1 (take i cs)) (labels ++ instruction_words classes ds t x ∷ []))
    ∙ ap lines_text
    (ap (λ (m : ℕ). code_lines classes ds t 1 (take i cs) ++ (map label_words (labels_at m t.labels) ++ instruction_words classes ds t x ∷ [])) count
    ∙ sym (code_lines-push classes ds t 1 (take i cs) x) ∙ ap (code_lines classes ds t 1) (sym (take_more cs i c lt)))
