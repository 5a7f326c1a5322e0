-- Words that are written one after the other.
use Rattle.std.proofs.Common.{◌≡◌, inl, inr, ℕ, zero, suc, ◌+◌, ◌<◌, ◌≤◌, if◌then◌else◌, Bool, true, List, [], ◌∷◌}
use Rattle.std.proofs.Common.{◌++◌, length, drop, get_or, slice_get, Some, refl, sym, ap, ◌∙◌, arith, append_assoc}
use Rattle.std.proofs.lemmas.Bool.{cases_lt}
use Rattle.std.proofs.lemmas.List.{drop_more, drop_all}
use Rattle.std.proofs.lemmas.Option.{slice_get-get_or}
use Rattle.plain_monitor.specs.Objects.{PlainObject, new_object}
use Rattle.machine_words.specs.ObjectWords.{is_new, object_words, objects_words}

-- three lists
pub three_written : (o o1 o2 o3 p q r : List ℕ) → o1 ≡ o ++ p → o2 ≡ o1 ++ q → o3 ≡ o2 ++ r → o3 ≡ o ++ (p ++ (q ++ r))
three_written o o1 o2 o3 p q r e1 e2 e3 =
    e3 ∙ ap (λ z. z ++ r) (e2 ∙ ap (λ z. z ++ q) e1) ∙ append_assoc (o ++ p) q r ∙ append_assoc o p (q ++ r)

-- a word in front of others
pub one_in_front : (o o1 o2 : List ℕ) (a : ℕ) (r : List ℕ) → o1 ≡ o ++ a ∷ [] → o2 ≡ o1 ++ r → o2 ≡ o ++ (a ∷ r)
one_in_front o o1 o2 a r e1 e2 = e2 ∙ ap (λ z. z ++ r) e1 ∙ append_assoc o (a ∷ []) r

-- four words, and a list
pub four_in_front : (o o1 o2 o3 o4 o5 : List ℕ) (a b c d : ℕ) (r : List ℕ) → o1 ≡ o ++ a ∷ [] → o2 ≡ o1 ++ b ∷ [] → o3 ≡ o2 ++ c ∷ []
    → o4 ≡ o3 ++ d ∷ [] → o5 ≡ o4 ++ r → o5 ≡ o ++ (a ∷ b ∷ c ∷ d ∷ r)
four_in_front o o1 o2 o3 o4 o5 a b c d r e1 e2 e3 e4 e5 =
    one_in_front o o1 o5 a (b ∷ c ∷ d ∷ r) e1
    (one_in_front o1 o2 o5 b (c ∷ d ∷ r) e2 (one_in_front o2 o3 o5 c (d ∷ r) e3 (one_in_front o3 o4 o5 d r e4 e5)))

none_dropped : {A : Type 0} (xs : List A) (k : ℕ) → length xs ≤ k → (F : ℕ → List A → List ℕ) → ((j : ℕ) → F j [] ≡ []) → F k (drop k xs) ≡ []
none_dropped xs k le F none = ap (F k) (drop_all k xs le) ∙ none k

-- objects that are as at first have no words
pub objects_skip : (objects : List PlainObject) (n k : ℕ)
    → ((j : ℕ) (x : PlainObject) → k ≤ j → j < k + n → slice_get objects j ≡ Some x → is_new x ≡ true)
    → objects_words k (drop k objects) ≡ objects_words (k + n) (drop (k + n) objects)
objects_skip objects zero k new = let here : k ≡ k + 0 = omega arith in ap (λ (j : ℕ). objects_words j (drop j objects)) here
objects_skip objects (suc n) k new = elim (cases_lt k (length objects)) [
  | inl within ↦
      let x = get_or objects k (new_object 0) in
      let rest = drop (k + 1) objects in
      let as_at_first : is_new x ≡ true = new k x (omega arith) (omega arith) (slice_get-get_or objects k (new_object 0) within) in
      let none : objects_words k (x ∷ rest) ≡ objects_words (k + 1) rest =
      ap (λ (b : Bool). (if b then [] else k ∷ object_words x) ++ objects_words (k + 1) rest) as_at_first in
      let moved : k + 1 + n ≡ k + suc n = omega arith in
      ap (objects_words k) (drop_more objects k (new_object 0) within) ∙ none
      ∙ objects_skip objects n (k + 1) (λ j z le lt at. new j z (omega (arith, le)) (omega (arith, lt)) at)
      ∙ ap (λ (j : ℕ). objects_words j (drop j objects)) moved
  | inr past ↦
      none_dropped objects k past objects_words (λ j. refl) ∙ sym (none_dropped objects (k + suc n) (omega (arith, past)) objects_words (λ j. refl))
]

-- five words, and three lists
pub five_in_front : (o o1 o2 o3 o4 o5 o6 o7 o8 : List ℕ) (a b c d e : ℕ) (p q r : List ℕ) → o1 ≡ o ++ a ∷ [] → o2 ≡ o1 ++ b ∷ []
    → o3 ≡ o2 ++ c ∷ [] → o4 ≡ o3 ++ d ∷ [] → o5 ≡ o4 ++ e ∷ [] → o6 ≡ o5 ++ p → o7 ≡ o6 ++ q → o8 ≡ o7 ++ r
    → o8 ≡ o ++ (a ∷ b ∷ c ∷ d ∷ e ∷ ((p ++ q) ++ r))
five_in_front o o1 o2 o3 o4 o5 o6 o7 o8 a b c d e p q r e1 e2 e3 e4 e5 e6 e7 e8 =
    let rest : List ℕ = (p ++ q) ++ r in
    let lists : o8 ≡ o5 ++ rest =
    e8 ∙ ap (λ z. z ++ r) (e7 ∙ ap (λ z. z ++ q) e6 ∙ append_assoc o5 p q) ∙ append_assoc o5 (p ++ q) r in
    one_in_front o o1 o8 a (b ∷ c ∷ d ∷ e ∷ rest) e1 (four_in_front o1 o2 o3 o4 o5 o8 b c d e rest e2 e3 e4 e5 lists)
