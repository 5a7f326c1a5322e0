-- What threads have made is read from its words.
use Rattle.std.proofs.Common.{◌≡◌, ℕ, List, [], ◌∷◌, ◌++◌, length, refl, ap, ◌∙◌, append_assoc}
use Rattle.machine_words.specs.Readers.{read_numbers}
use Rattle.machine_words.specs.MadeWords.{made_words, read_made}

pub numbers_back : (ns ws : List ℕ) → read_numbers (length ns) (ns ++ ws) ≡ (ns, ws)
numbers_back [] ws = refl
numbers_back (n ∷ ns) ws = ap (λ (r : List ℕ × List ℕ). (n ∷ r.0, r.1)) (numbers_back ns ws)

pub made_back : (rows : List (List ℕ)) (ws : List ℕ) → read_made (length rows) (made_words rows ++ ws) ≡ (rows, ws)
made_back [] ws = refl
made_back (row ∷ rows) ws =
    let rest : List ℕ × List ℕ → List (List ℕ) × List ℕ =
    λ r. (r.0 ∷ (read_made (length rows) r.1).0, (read_made (length rows) r.1).1) in
    ap (λ (xs : List ℕ). rest (read_numbers (length row) xs)) (append_assoc row (made_words rows) ws)
    ∙ ap rest (numbers_back row (made_words rows ++ ws))
    ∙ ap (λ (r : List (List ℕ) × List ℕ). (row ∷ r.0, r.1)) (made_back rows ws)
