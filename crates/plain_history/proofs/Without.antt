-- A list of threads with their counts, without one of them.
use Rattle.std.proofs.Common.{◌≡◌, ◌≢◌, ℕ, ◌==◌, ◌||◌, eqb-true, ne_eqb, Bool, true, false, cond, List, [], ◌∷◌, Some, refl, sym, ap, ◌∙◌}
use Rattle.plain_monitor.specs.Monitor.{count_of, is_listed, without}

-- the next lemma, by the test against the head
count_at_head : (p : ℕ × ℕ) (ps : List (ℕ × ℕ)) (t : ℕ) (b : Bool) → (b || is_listed ps t) ≡ true → (is_listed ps t ≡ true → (n : ℕ) × (count_of ps t ≡ Some n))
    → (n : ℕ) × (cond b (Some p.1) (count_of ps t) ≡ Some n)
count_at_head p ps t true h ih = (p.1, refl)
count_at_head p ps t false h ih = ih h

-- a thread that is listed has a count
pub listed_has_count : (ps : List (ℕ × ℕ)) (t : ℕ) → is_listed ps t ≡ true → (n : ℕ) × (count_of ps t ≡ Some n)
listed_has_count [] t h = absurd (cc h)
listed_has_count (p ∷ ps) t h = count_at_head p ps t (p.0 == t) h (listed_has_count ps t)

-- the next lemma, by the test against the head
unlisted_at_head : (p : ℕ × ℕ) (ps : List (ℕ × ℕ)) (t : ℕ) (b : Bool) → (p.0 == t) ≡ b
    → is_listed (without ps t) t ≡ false → is_listed (without (p ∷ ps) t) t ≡ false
unlisted_at_head p ps t true e ih = rw e ih
unlisted_at_head p ps t false e ih = rw (e, e) ih

-- a thread that was taken out isn't listed
pub without_unlisted : (ps : List (ℕ × ℕ)) (t : ℕ) → is_listed (without ps t) t ≡ false
without_unlisted [] t = refl
without_unlisted (p ∷ ps) t = unlisted_at_head p ps t (p.0 == t) refl (without_unlisted ps t)

-- the next lemma, by the test against the head
same_at_head : (p : ℕ × ℕ) (ps : List (ℕ × ℕ)) (t u : ℕ) (b : Bool) → u ≢ t → (p.0 == t) ≡ b
    → (is_listed (without ps t) u ≡ is_listed ps u) × (count_of (without ps t) u ≡ count_of ps u)
    → (is_listed (without (p ∷ ps) t) u ≡ is_listed (p ∷ ps) u) × (count_of (without (p ∷ ps) t) u ≡ count_of (p ∷ ps) u)
same_at_head p ps t u true d e ih =
    let other : (p.0 == u) ≡ false = ne_eqb p.0 u (λ s. d (sym s ∙ eqb-true p.0 t e)) in rw (e, other) ih
same_at_head p ps t u false d e ih = rw e (ap (λ b. (p.0 == u) || b) ih.0, ap (λ c. cond (p.0 == u) (Some p.1) c) ih.1)

-- the others are listed as they were, with their counts
pub without_others : (ps : List (ℕ × ℕ)) (t u : ℕ) → u ≢ t → (is_listed (without ps t) u ≡ is_listed ps u) × (count_of (without ps t) u ≡ count_of ps u)
without_others [] t u d = (refl, refl)
without_others (p ∷ ps) t u d = same_at_head p ps t u (p.0 == t) d refl (without_others ps t u d)
