-- A walk goes past items that its step leaves as they are.
use Rattle.std.proofs.Common.{◌≡◌, inl, inr, ℕ, zero, suc, ◌+◌, ◌-◌, ◌<◌, ◌≤◌, List, [], ◌∷◌, ◌++◌, length, take}
use Rattle.std.proofs.Common.{drop, get_or, slice_get, Some, refl, sym, ap, ◌∙◌, subst, arith, append-nil}
use Rattle.std.proofs.lemmas.Bool.{cases_lt}
use Rattle.std.proofs.lemmas.Option.{slice_get-get_or}
use Rattle.std.proofs.lemmas.List.{drop_all, take_all, set-get_or}
use Rattle.machine_laws.proofs.ReachedLists.{at_within}
use Rattle.machine_words.specs.inner.Reading.{Walks, walk}
use Rattle.machine_words.proofs.Walking.{walks_more, walks_all}

-- past one item
pub walks_skip : {A : Type 0} (step : ℕ → A → List ℕ → A × List ℕ) (first : List A) (words : List ℕ) (k : ℕ) (items : List A) (rest : List ℕ) (d : A)
    → k < length items → step k (get_or items k d) rest ≡ (get_or items k d, rest) → Walks step first words k items rest
    → Walks step first words (k + 1) items rest
walks_skip step first words k items rest d lt same h =
    subst (λ (xs : List _). Walks step first words (k + 1) xs rest) (set-get_or items k d)
    (walks_more (get_or items k d) d rest h lt (ap (λ (r : _ × List ℕ). r.0) (sym same)) (ap (λ (r : _ × List ℕ). r.1) (sym same)))

-- after the last item
pub walks_past : {A : Type 0} (step : ℕ → A → List ℕ → A × List ℕ) (first : List A) (words : List ℕ) (k j : ℕ) (items : List A) (rest : List ℕ)
    → length items ≤ k → length items ≤ j → Walks step first words k items rest → Walks step first words j items rest
walks_past step first words k j items rest le past h =
    let all = walks_all h le in
    let beyond : length first ≤ j = omega (arith, past, h.count) in
    let none : walk step j (drop j first) rest ≡ ([], rest) = ap (λ xs. walk step j xs rest) (drop_all j first beyond) in
    record {
      done =
          all.0 ∙ sym (append-nil items) ∙ ap (λ xs. xs ++ []) (sym (take_all j items past))
          ∙ ap (λ (r : List _ × List ℕ). take j items ++ r.0) (sym none);
      beyond = all.1 ∙ ap (λ (r : List _ × List ℕ). r.1) (sym none);
      left = drop_all j items past ∙ sym (drop_all j first beyond);
      count = h.count;
    }

-- past so many items
walks_jump : {A : Type 0} (step : ℕ → A → List ℕ → A × List ℕ) (first : List A) (words : List ℕ) (n k : ℕ) (items : List A) (rest : List ℕ)
    → ((j : ℕ) (x : A) → k ≤ j → j < k + n → slice_get items j ≡ Some x → step j x rest ≡ (x, rest)) → Walks step first words k items rest
    → Walks step first words (k + n) items rest
walks_jump step first words zero k items rest same h =
    let here : k ≡ k + 0 = omega arith in subst (λ (j : ℕ). Walks step first words j items rest) here h
walks_jump step first words (suc n) k items rest same h = elim (cases_lt k (length items)) [
  | inl within ↦
      let d = (at_within items k within).element in
      let here = same k (get_or items k d) (omega arith) (omega arith) (slice_get-get_or items k d within) in
      let next = walks_skip step first words k items rest d within here h in
      let moved : k + 1 + n ≡ k + suc n = omega arith in
      subst (λ (j : ℕ). Walks step first words j items rest) moved
      (walks_jump step first words n (k + 1) items rest (λ j z le lt at. same j z (omega (arith, le)) (omega (arith, lt)) at) next)
  | inr past ↦ walks_past step first words k (k + suc n) items rest past (omega (arith, past)) h
]

pub walks_on : {A : Type 0} {step : ℕ → A → List ℕ → A × List ℕ} {first items : List A} {words rest : List ℕ} {k : ℕ} (j : ℕ)
    → Walks step first words k items rest → k ≤ j → ((i : ℕ) (x : A) → k ≤ i → i < j → slice_get items i ≡ Some x → step i x rest ≡ (x, rest))
    → Walks step first words j items rest
walks_on {step = step} {first = first} {items = items} {words = words} {rest = rest} {k = k} j h le same =
    let whole : k + (j - k) ≡ j = omega (arith, le) in
    subst (λ (i : ℕ). Walks step first words i items rest) whole
    (walks_jump step first words (j - k) k items rest (λ i x from lt at. same i x from (omega (arith, lt, whole)) at) h)

dropped_none : {A : Type 0} (k : ℕ) → drop {A = A} k [] ≡ []
dropped_none zero = refl
dropped_none (suc k) = refl

get_dropped : {A : Type 0} (xs ys : List A) (k j : ℕ) → drop k xs ≡ drop k ys → k ≤ j → slice_get xs j ≡ slice_get ys j
get_dropped xs ys zero j same le = ap (λ zs. slice_get zs j) same
get_dropped [] [] (suc k) j same le = refl
get_dropped [] (y ∷ ys) (suc k) zero same le = absurd (omega (arith, le))
get_dropped [] (y ∷ ys) (suc k) (suc j) same le = get_dropped [] ys k j (dropped_none k ∙ same) (omega (arith, le))
get_dropped (x ∷ xs) [] (suc k) zero same le = absurd (omega (arith, le))
get_dropped (x ∷ xs) [] (suc k) (suc j) same le = get_dropped xs [] k j (same ∙ sym (dropped_none k)) (omega (arith, le))
get_dropped (x ∷ xs) (y ∷ ys) (suc k) zero same le = absurd (omega (arith, le))
get_dropped (x ∷ xs) (y ∷ ys) (suc k) (suc j) same le = get_dropped xs ys k j same (omega (arith, le))

-- what is still to be walked over stands as at first
pub left_at : {A : Type 0} {step : ℕ → A → List ℕ → A × List ℕ} {first items : List A} {words rest : List ℕ} {k : ℕ}
    → Walks step first words k items rest → (j : ℕ) → k ≤ j → slice_get items j ≡ slice_get first j
left_at {first = first} {items = items} {k = k} h j le = get_dropped items first k j h.left le
