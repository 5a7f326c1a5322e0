-- Rules that are carried out one after the other: what each of them keeps stays, and what each of them does stays done.
use Rattle.core_locks.proofs.Prelude.{ℕ, zero, suc, ◌<◌, sym, subst, arith, WordId, by_equal}
use Rattle.core_world.specs.RevocationRules.{Rule, words_after, each_below}
use Rattle.core_bias.proofs.Revokes.{stored_append}

-- F is what is kept, and M relates words to later ones
module _ (F : (WordId → ℕ) → Type 0) (M : (WordId → ℕ) → (WordId → ℕ) → Type 0)
    (same : (f : WordId → ℕ) → M f f) (later : (f g h : WordId → ℕ) → M f g → M g h → M f h) where
  abbrev pub Keeps : Rule → (WordId → ℕ) → Type 0
  Keeps r g = F (words_after (r g) g) × M g (words_after (r g) g)

  pub keeps_below : (n : ℕ) (r : ℕ → Rule) → ((i : ℕ) (g : WordId → ℕ) → F g → Keeps (r i) g) → (g : WordId → ℕ) → F g → Keeps (each_below n r) g
  keeps_below zero r h g v = (v, same g)
  keeps_below (suc n) r h g v =
      let before = keeps_below n r h g v in
      let f = words_after (each_below n r g) g in
      let now = h n f before.0 in
      subst (λ (z : WordId → ℕ). F z × M g z) (sym (stored_append (each_below n r g) (r n f) g)) (now.0, later g f (words_after (r n f) f) before.1 now.1)

  pub does_below : (n : ℕ) (r : ℕ → Rule) (D : ℕ → (WordId → ℕ) → Type 0)
      → ((i : ℕ) (g : WordId → ℕ) → F g → Keeps (r i) g) → ((i : ℕ) (g h : WordId → ℕ) → M g h → D i g → D i h)
      → ((i : ℕ) (g : WordId → ℕ) → F g → D i (words_after (r i g) g)) → (g : WordId → ℕ) → F g → (j : ℕ) → j < n → D j (words_after (each_below n r g) g)
  does_below zero r D keeps mono makes g v j h = absurd (omega arith)
  does_below (suc n) r D keeps mono makes g v j h =
      let before = keeps_below n r keeps g v in
      let f = words_after (each_below n r g) g in
      subst (D j) (sym (stored_append (each_below n r g) (r n f) g)) (by_equal j n
      (λ e. subst (λ i. D i (words_after (r n f) f)) (sym e) (makes n f before.0))
      (λ d. mono j f (words_after (r n f) f) (keeps n f before.0).1 (does_below n r D keeps mono makes g v j (omega (arith, h, d)))))
