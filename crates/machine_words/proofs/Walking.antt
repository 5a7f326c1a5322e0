-- How far a walk over items has come.
use Rattle.std.proofs.Common.{◌≡◌, ℕ, ◌+◌, ◌<◌, ◌≤◌, List, [], ◌∷◌, ◌++◌, length, take, drop}
use Rattle.std.proofs.Common.{get_or, set, refl, sym, ap, ◌∙◌, arith, append_assoc, append-nil}
use Rattle.std.proofs.lemmas.List.{drop_more, drop_all, take_all, take_more_set, length-set, drop-set-lt, drop-drop, get_or-drop}
use Rattle.machine_words.specs.inner.Reading.{walk, Walks}

pub walks_none : {A : Type 0} (step : ℕ → A → List ℕ → A × List ℕ) (first : List A) (words : List ℕ) → Walks step first words 0 first words
walks_none step first words = record { done = refl; beyond = refl; left = refl; count = refl }

-- what is still to be walked over stands as at first
still : {A : Type 0} (items first : List A) (k : ℕ) (d : A) → drop k items ≡ drop k first → get_or items k d ≡ get_or first k d
still items first k d same =
    let here : k + 0 ≡ k = omega arith in
    sym (ap (λ n. get_or items n d) here) ∙ sym (get_or-drop k items 0 d) ∙ ap (λ xs. get_or xs 0 d) same ∙ get_or-drop k first 0 d
    ∙ ap (λ n. get_or first n d) here

pub walks_more : {A : Type 0} {step : ℕ → A → List ℕ → A × List ℕ} {first items : List A} {words rest : List ℕ} {k : ℕ} (y d : A) (after : List ℕ)
    → Walks step first words k items rest → k < length items → y ≡ (step k (get_or items k d) rest).0 → after ≡ (step k (get_or items k d) rest).1
    → Walks step first words (k + 1) (set items k y) after
walks_more {step = step} {first = first} {items = items} {rest = rest} {k = k} y d after h lt is beyond =
    let x = get_or items k d in
    let within : k < length first = omega (arith, lt, h.count) in
    let next = drop (k + 1) first in
    let own : x ≡ get_or first k d = still items first k d h.left in
    let here : drop k first ≡ x ∷ next = drop_more first k d within ∙ ap (λ z. z ∷ next) (sym own) in
    let stepped : walk step k (drop k first) rest ≡ (y ∷ (walk step (k + 1) next after).0, (walk step (k + 1) next after).1) =
    ap (λ xs. walk step k xs rest) here
    ∙ (λ i. (sym is i ∷ (walk step (k + 1) next (sym beyond i)).0, (walk step (k + 1) next (sym beyond i)).1)) in
    let past : k < k + 1 = omega arith in
    record {
      done =
          h.done ∙ ap (λ (r : List _ × List ℕ). take k items ++ r.0) stepped
          ∙ sym (append_assoc (take k items) (y ∷ []) (walk step (k + 1) next after).0)
          ∙ ap (λ xs. xs ++ (walk step (k + 1) next after).0) (sym (take_more_set items k y lt));
      beyond = h.beyond ∙ ap (λ (r : List _ × List ℕ). r.1) stepped;
      left = drop-set-lt (k + 1) items k y past ∙ dropped items first k h.left;
      count = length-set items k y ∙ h.count;
    }
  where
    dropped : {A : Type 0} (xs ys : List A) (k : ℕ) → drop k xs ≡ drop k ys → drop (k + 1) xs ≡ drop (k + 1) ys
    dropped xs ys k same = sym (drop-drop 1 k xs) ∙ ap (λ zs. drop 1 zs) same ∙ drop-drop 1 k ys

pub walks_all : {A : Type 0} {step : ℕ → A → List ℕ → A × List ℕ} {first items : List A} {words rest : List ℕ} {k : ℕ}
    → Walks step first words k items rest → length items ≤ k → ((walk step 0 first words).0 ≡ items) × ((walk step 0 first words).1 ≡ rest)
walks_all {step = step} {first = first} {items = items} {rest = rest} {k = k} h le =
    let past : length first ≤ k = omega (arith, le, h.count) in
    let none : walk step k (drop k first) rest ≡ ([], rest) = ap (λ xs. walk step k xs rest) (drop_all k first past) in (
      h.done ∙ ap (λ (r : List _ × List ℕ). take k items ++ r.0) none ∙ append-nil (take k items) ∙ take_all k items le,
      h.beyond ∙ ap (λ (r : List _ × List ℕ). r.1) none,
    )
