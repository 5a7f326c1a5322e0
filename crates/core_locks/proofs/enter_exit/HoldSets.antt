-- The hold words of a thread once it has stored one in its place p: that of o at depth d in an empty place, or none.
use Rattle.core_locks.proofs.Prelude.{◌≡◌, ◌≢◌, ◌⊎◌, ℕ, ◌+◌, ◌<◌, ◌≤◌, ◌^◌, ◌==◌, ◌&&◌, nat_lt, eq-eqb, ne_eqb, Bool, true, false, cond, List}
use Rattle.core_locks.proofs.Prelude.{length, slice_index, slice_set, Some, refl, sym, ap, ◌∙◌, arith, inl, inr, nat_tests, read_hold, WordId}
use Rattle.core_locks.proofs.Prelude.{Hold, hold_word, one_if, with_word, ThreadView, with_known, Lock, holder, hold_count, depth_count, Shape}
use Rattle.core_locks.proofs.Prelude.{IsHold, by_equal, each_with_known, with_known_here, hold_some, Option, None, same_Some, MarkForm, Biased}
use Rattle.core_locks.proofs.Prelude.{Anonymous, is_biased_form, epoch_in, Inflation, Open, BiasedTo, lock_form, has_epoch}
use Rattle.std.proofs.lemmas.List.{get_or-set_same, get_or-set_other}
use Rattle.std.proofs.Math.Bool.{and-false}
use Rattle.plain_monitor.specs.Limits.{most_holds}
use Rattle.core_locks.proofs.enter_exit.HoldCounts.{named_put, times_put, hold_tells}

-- who has the lock still has it with one hold word more
pub holder_more : (f : Lock) (c e : ℕ → ℕ) (t : ℕ) → holder f c ≡ Some t → e t ≢ 0 → holder f e ≡ Some t
holder_more (BiasedTo z) c e t h d = cases (c z == 0) h
  where
    cases : (b : Bool) → cond b None (Some z) ≡ Some t → cond (e z == 0) None (Some z) ≡ Some t
    cases true g = absurd (cc g)
    cases false g = let s : z ≡ t = same_Some _ _ g in ap (λ (b : Bool). cond b None (Some z)) (ap (λ y. e y == 0) s ∙ ne_eqb (e t) 0 d) ∙ g
holder_more _ c e t h d = h

-- an object whose mark has the bias pattern, and of which t has the lock, leans on t
pub biased_leans : (f : Option MarkForm) (prototype : ℕ) (owners : ℕ → ℕ) (j : Option Inflation) (c : ℕ → ℕ) (t : ℕ) → is_biased_form f ≡ true
    → holder (lock_form f prototype owners j) c ≡ Some t → lock_form f prototype owners j ≡ BiasedTo t
biased_leans (Some (Anonymous epoch age)) prototype owners j c t e h = absurd (cc h)
biased_leans (Some (Biased z epoch age)) prototype owners j c t e h = cases (has_epoch (epoch_in prototype) epoch) h
  where
    inner : (b : Bool) → cond b None (Some z) ≡ Some t → BiasedTo z ≡ BiasedTo t
    inner true g = absurd (cc g)
    inner false g = ap BiasedTo (same_Some _ _ g)

    cases : (b : Bool) → holder (cond b (BiasedTo z) Open) c ≡ Some t → cond b (BiasedTo z) Open ≡ BiasedTo t
    cases true g = inner (c z == 0) g
    cases false g = absurd (cc g)
biased_leans _ prototype owners j c t e h = absurd (cc e)

-- the depths up to n, and the next
pub next_one : (e n : ℕ) → one_if (nat_lt e n) + one_if (n + 1 == e + 1) ≡ one_if (nat_lt e (n + 1))
next_one e n = grind (arith, nat_tests)

-- the place is empty, and the object and the depth can be spelled
pub record IsPut (old : List ℕ) (o d p : ℕ) : Type 0 where
  pub within : p < length old
  pub few : o < 2 ^ 15
  pub some : 1 ≤ d
  pub small : d ≤ 64
  pub empty : slice_index old p ≡ 0

module _ (old : List ℕ) (o d p : ℕ) (is : IsPut old o d p) where
  abbrev new : List ℕ
  new = slice_set old p (hold_word o d)

  -- each hold word that stands afterwards is the new one, or stood there before
  pub hold_back : (q i e : ℕ) → e ≤ 64 → slice_index new q ≡ hold_word i e → ((q ≡ p) × (o ≡ i) × (d ≡ e)) ⊎ (slice_index old q ≡ hold_word i e)
  hold_back q i e h g =
      by_equal q p
      (λ s. let r = hold_tells o d i e is.small h
      (sym (get_or-set_same old p (hold_word o d) 0 is.within) ∙ ap (slice_index new) (sym s) ∙ g) in inl (s, r.0, r.1))
      (λ s. inr (sym (get_or-set_other old p q (hold_word o d) 0 s) ∙ g))

  -- and each that stood before stands afterwards
  pub hold_forth : (q i e : ℕ) → slice_index old q ≡ hold_word i e → slice_index new q ≡ hold_word i e
  hold_forth q i e g = get_or-set_other old p q (hold_word o d) 0 (λ s. hold_some i e (sym g ∙ ap (slice_index old) s ∙ is.empty)) ∙ g

  pub named_new : (i : ℕ) → hold_count i new ≡ hold_count i old + one_if (o == i)
  named_new = named_put old p o d is.within is.few is.some is.small is.empty

  -- where the depth is the next one, each depth up to the new number stands once
  pub times_new : d ≡ hold_count o old + 1 → ((i e : ℕ) → e < most_holds → depth_count i (e + 1) old ≡ one_if (nat_lt e (hold_count i old)))
      → (i e : ℕ) → e < most_holds → depth_count i (e + 1) new ≡ one_if (nat_lt e (hold_count i new))
  times_new depth was i e h =
      times_put old p o d is.within is.few is.some is.small is.empty i e h ∙ ap (λ n. n + one_if ((o == i) && (d == e + 1))) (was i e h)
      ∙ next (o == i) refl ∙ sym (ap (λ n. one_if (nat_lt e n)) (named_new i))
    where
      next : (b : Bool) → (o == i) ≡ b → one_if (nat_lt e (hold_count i old)) + one_if (b && (d == e + 1)) ≡ one_if (nat_lt e (hold_count i old + one_if b))
      next true q =
          let s : o ≡ i = grind (arith, nat_tests, q) in
          let deep : d ≡ hold_count i old + 1 = depth ∙ ap (λ j. hold_count j old + 1) s in
          ap (λ n. one_if (nat_lt e (hold_count i old)) + one_if (n == e + 1)) deep ∙ next_one e (hold_count i old)
      next false q = omega arith ∙ ap (λ n. one_if (nat_lt e n)) (let z : hold_count i old ≡ hold_count i old + 0 = omega arith in z)

-- THE WORDS, where thread t has stored the word v at its place p: they are what it stored last, those of the others are as they were, and each
-- spells a hold of an object of the heap.
module _ (f : WordId → ℕ) (t p v : ℕ) where
  pub word_own : (old : List ℕ) → p < length old → ((q : ℕ) → f (Hold t q) ≡ slice_index old q) → (q : ℕ)
      → with_word (Hold t p) v f (Hold t q) ≡ slice_index (slice_set old p v) q
  word_own old within was q =
      by_equal q p
      (λ s. ap (λ (b : Bool). cond b v (f (Hold t q))) ((λ j. eq-eqb q p s j && eq-eqb t t refl j))
      ∙ sym (ap (slice_index (slice_set old p v)) s ∙ get_or-set_same old p v 0 within))
      (λ s. ap (λ (b : Bool). cond (b && (t == t)) v (f (Hold t q))) (ne_eqb q p s) ∙ was q ∙ sym (get_or-set_other old p q v 0 s))

  pub word_else : (u q : ℕ) → u ≢ t → with_word (Hold t p) v f (Hold u q) ≡ f (Hold u q)
  word_else u q d = ap (λ (b : Bool). cond b v (f (Hold u q))) (ap (λ (b : Bool). (q == p) && b) (ne_eqb u t d) ∙ and-false (q == p))

  pub word_held : (s : Shape) → IsHold s (read_hold v) → ((u q : ℕ) → IsHold s (read_hold (f (Hold u q)))) → (u q : ℕ)
      → IsHold s (read_hold (with_word (Hold t p) v f (Hold u q)))
  word_held s here was u q = cases ((q == p) && (u == t))
    where
      cases : (b : Bool) → IsHold s (read_hold (cond b v (f (Hold u q))))
      cases true = here
      cases false = was u q

-- who has the lock of an object has it still, where the thread has as many hold words of it, or has the lock and some hold word
pub holder_told : (f : Lock) (i t : ℕ) (l : ThreadView) (known : ℕ → ThreadView)
    → (hold_count i l.holds ≡ hold_count i (known t).holds) ⊎ ((holder f (λ z. hold_count i (known z).holds) ≡ Some t) × (hold_count i l.holds ≢ 0))
    → holder f (λ z. hold_count i (with_known t l known z).holds) ≡ holder f (λ z. hold_count i (known z).holds)
holder_told f i t l known (inl e) =
    let same : (z : ℕ) → hold_count i (with_known t l known z).holds ≡ hold_count i (known z).holds =
    λ z. each_with_known (λ z y. hold_count i y.holds ≡ hold_count i (known z).holds) t l known z e (λ d. refl) in
    λ j. holder f (λ z. same z j)
holder_told f i t l known (inr e) =
    holder_more f (λ z. hold_count i (known z).holds) (λ z. hold_count i (with_known t l known z).holds) t e.0
    (λ h. e.1 (ap (λ (y : ThreadView). hold_count i y.holds) (sym (with_known_here t l known)) ∙ h)) ∙ sym e.0
