-- What stands in hold words, and numbers of words that pass two tests which agree.
use Rattle.core_locks.proofs.Prelude.{◌≡◌, ℕ, suc, ◌+◌, ◌≤◌, eq-eqb, Bool, List, [], ◌∷◌, slice_index, refl, ap, ◌∙◌, subst, arith, add-zero}
use Rattle.core_locks.proofs.Prelude.{PlainObject, hold_word, names, one_if, World, hold_count, count_where, Fits, one_named, Hold}
use Rattle.core_locks.proofs.enter_exit.HoldCounts.{hold_in_form, names_is}

-- the tests agree on these words
pub number_same : (f g : ℕ → ℕ → Bool) (i : ℕ) (hs : List ℕ)
    → ((p : ℕ) → f (i + p) (slice_index hs p) ≡ g (i + p) (slice_index hs p)) → count_where f i hs ≡ count_where g i hs
number_same f g i [] h = refl
number_same f g i (y ∷ hs) h =
    let a : f i y ≡ g i y = subst (λ k. f k y ≡ g k y) (add-zero i) (h 0) in
    let b = number_same f g (i + 1) hs
    (λ p. let e : i + suc p ≡ i + 1 + p = omega arith in subst (λ k. f k (slice_index hs p) ≡ g k (slice_index hs p)) e (h (suc p))) in
    ap (λ c. one_if c + count_where f (i + 1) hs) a ∙ ap (λ n. one_if (g i y) + n) b

-- where a hold word of o stands, the thread has a hold of o
pub standing_names : (w : World) (P : List PlainObject) → Fits w P → (t q o d : ℕ) → d ≤ 64
    → slice_index (w.known t).holds q ≡ hold_word o d → 1 ≤ hold_count o (w.known t).holds
standing_names w P v t q o d small e =
    let is = hold_in_form w.shape o d (w.words (Hold t q)) small (v.holds.stored t q ∙ e) (v.forms.holds t q) in
    one_named o (w.known t).holds 0 q (ap (names o) e ∙ names_is o o d (omega (arith, is.0, v.limits.objects)) is.1 small ∙ eq-eqb o o refl)
