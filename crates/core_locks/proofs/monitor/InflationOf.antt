-- Which inflation an object is in the middle of, where one thread begins or ends one.
use Rattle.core_locks.proofs.Prelude.{◌≡◌, ◌≢◌, ℕ, zero, suc, ◌<◌, eq-eqb, ne_eqb, Bool, cond, Option, Some, None}
use Rattle.core_locks.proofs.Prelude.{refl, sym, ap, ◌∙◌, arith, Inflation, is_for, inflation_of, by_equal}

pub inflation_else : (i n : ℕ) (f g : ℕ → Option Inflation)
    → ((u : ℕ) (y : Option Inflation) → is_for i (g u) y ≡ is_for i (f u) y) → inflation_of i n g ≡ inflation_of i n f
inflation_else i zero f g h = refl
inflation_else i (suc n) f g h = h n (inflation_of i n g) ∙ ap (is_for i (f n)) (inflation_else i n f g h)

-- an inflation of another object doesn't count
pub is_other : (i : ℕ) (j : Inflation) (y : Option Inflation) → j.object ≢ i → is_for i (Some j) y ≡ y
is_other i j y d = ap (λ (b : Bool). cond b (Some j) y) (ne_eqb j.object i d)

-- the one of the object that one thread alone is in the middle of
pub inflation_here : (o n t : ℕ) (f : ℕ → Option Inflation) (i : Inflation) → t < n → f t ≡ Some i
    → i.object ≡ o → ((u : ℕ) (j : Inflation) → f u ≡ Some j → j.object ≡ o → u ≡ t) → inflation_of o n f ≡ Some i
inflation_here o zero t f i h is object one = absurd (omega (arith, h))
inflation_here o (suc n) t f i h is object one = by_equal t n
    (λ s. ap (λ y. is_for o y (inflation_of o n f)) (ap f (sym s) ∙ is) ∙ ap (λ (b : Bool). cond b (Some i) (inflation_of o n f)) (eq-eqb i.object o object))
    (λ d. by_option (f n) refl d (inflation_here o n t f i (omega (arith, h, d)) is object one))
  where
    by_option : (y : Option Inflation) → f n ≡ y → t ≢ n → inflation_of o n f ≡ Some i → inflation_of o (suc n) f ≡ Some i
    by_option None e d rest = ap (λ y. is_for o y (inflation_of o n f)) e ∙ rest
    by_option (Some j) e d rest =
        ap (λ y. is_for o y (inflation_of o n f)) e
        ∙ by_equal j.object o (λ s. absurd (d (sym (one n j e s)))) (λ a. is_other o j (inflation_of o n f) a ∙ rest)
