-- Where monitors are: each is in one place, and how many of the threads and objects have one.
use Rattle.std.proofs.Common.{◌≡◌, ◌≢◌, ℕ, zero, suc, ◌+◌, ◌<◌, ◌≤◌, Bool, true, false, is_some, Option, Some, None, refl, sym, ap, ◌∙◌, arith}
use Rattle.core_world.specs.Clauses.Claims.{MonitorsAreClaimed, With, At, Leaves, InRing, count_with_monitor}
use Rattle.core_world.specs.Threads.ThreadView.{Moving, Fetches, Returns}
use Rattle.core_world.specs.Threads.Stages.{one_if}
use Rattle.core_world.proofs.KnowledgeParts.{by_equal}

-- a place is of one thread, object or position, and so is what a thread has in hand
pub one_holder : (t u : ℕ) → With t ≡ With u → t ≡ u
one_holder t u e = cc e

pub one_object : (i j : ℕ) → At i ≡ At j → i ≡ j
one_object i j e = cc e

pub one_leaver : (t u : ℕ) → Leaves t ≡ Leaves u → t ≡ u
one_leaver t u e = cc e

pub one_position : (p q : ℕ) → InRing p ≡ InRing q → p ≡ q
one_position p q e = cc e

pub one_claimed : (p q : ℕ) → Fetches p ≡ Fetches q → p ≡ q
one_claimed p q e = cc e

pub one_returned : (a b : ℕ) → Returns a ≡ Returns b → a ≡ b
one_returned a b e = cc e

module _ {threads objects monitors bits claim end : ℕ} {ring : ℕ → ℕ} {monitor kept : ℕ → Option ℕ} {moving : ℕ → Moving}
    (c : MonitorsAreClaimed threads objects monitors bits claim end ring monitor kept moving) where
  pub kept_once : (t u m : ℕ) → kept t ≡ Some m → kept u ≡ Some m → t ≡ u
  kept_once t u m e f = one_holder t u (sym (c.keeps t m e).1 ∙ (c.keeps u m f).1)

  pub kept_apart : (t o m : ℕ) → kept t ≡ Some m → monitor o ≡ Some m → ⊥
  kept_apart t o m e f = let a = (c.keeps t m e).1 in let b = (c.names o m f).1 in absurd (cc (a, b))

-- at most n of n have a monitor
pub with_most : (n : ℕ) (f : ℕ → Option ℕ) → count_with_monitor n f ≤ n
with_most zero f = omega arith
with_most (suc n) f = let a = with_most n f in let b = at_most (is_some (f n)) in omega (arith, a, b)
  where
    at_most : (b : Bool) → one_if b ≤ 1
    at_most true = omega arith
    at_most false = omega arith

-- the number where the same ones of the first n have one
pub with_same : (n : ℕ) (f g : ℕ → Option ℕ) → ((u : ℕ) → u < n → is_some (g u) ≡ is_some (f u)) → count_with_monitor n g ≡ count_with_monitor n f
with_same zero f g h = refl
with_same (suc n) f g h = (λ i. with_same n f g (λ u d. h u (omega (arith, d))) i + one_if (h n (omega arith) i))

-- and where one of them comes to have one
pub with_more : (n t : ℕ) (f g : ℕ → Option ℕ) → t < n → is_some (f t) ≡ false → is_some (g t) ≡ true
    → ((u : ℕ) → u ≢ t → is_some (g u) ≡ is_some (f u)) → count_with_monitor n g ≡ count_with_monitor n f + 1
with_more zero t f g h a b c = absurd (omega (arith, h))
with_more (suc n) t f g h a b c =
    by_equal t n
    (λ e.
    let none : one_if (is_some (f n)) ≡ 0 = ap (λ u. one_if (is_some (f u))) (sym e) ∙ ap one_if a in
    let some : one_if (is_some (g n)) ≡ 1 = ap (λ u. one_if (is_some (g u))) (sym e) ∙ ap one_if b in
    let rest = with_same n f g (λ u d. c u (λ s. omega (arith, d, e, s))) in
    omega (arith, none, some, rest))
    (λ d.
    let rest = with_more n t f g (omega (arith, h, d)) a b c in
    let last : one_if (is_some (g n)) ≡ one_if (is_some (f n)) = ap one_if (c n (λ s. d (sym s))) in
    omega (arith, rest, last))

pub with_none : (n : ℕ) (f : ℕ → Option ℕ) → ((u : ℕ) → f u ≡ None) → count_with_monitor n f ≡ 0
with_none zero f h = refl
with_none (suc n) f h = let a = with_none n f h in rw (h n) (omega (arith, a))

pub with_some : (n t : ℕ) (f : ℕ → Option ℕ) → t < n → is_some (f t) ≡ true → 1 ≤ count_with_monitor n f
with_some zero t f h a = absurd (omega (arith, h))
with_some (suc n) t f h a =
    by_equal t n
    (λ e. let some : one_if (is_some (f n)) ≡ 1 = ap (λ u. one_if (is_some (f u))) (sym e) ∙ ap one_if a in omega (arith, some))
    (λ d. let rest = with_some n t f (omega (arith, h, d)) a in omega (arith, rest))
