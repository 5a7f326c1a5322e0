-- Seats come and go.
use Rattle.std.proofs.Common.{◌≡◌, ◌≢◌, ◌⊎◌, ℕ, zero, suc, ◌<◌, ◌==◌, eq-eqb, ne_eqb, List, [], ◌∷◌, ◌++◌}
use Rattle.std.proofs.Common.{length, Bool, cond, refl, sym, ap, ◌∙◌, subst, ⊎_elim, inl, inr, arith}
use Rattle.std.specs.Prelude.{slice_set}
use mathlib.Core.Option.{some, some-injective, some-ne-none}
use lib.ListN.{get_elem?}
use Rattle.atomic_table.specs.Table.{Splits, Joins, Enters}
use Rattle.atomic_table.proofs.Lists.{at_set}
use Rattle.core_law.specs.Logic.{Heap}
use Rattle.core_world.specs.Threads.ThreadView.{ThreadView}
use Rattle.core_world.specs.World.{World}
use Rattle.heap_table.specs.Ruled.{heap_in, only}
use Rattle.heap_table.specs.inner.Ruled.{Each, Differ, Rules, Ruled, others}
use Rattle.heap_table.specs.declared.setting.Setting.{Setting}
use Rattle.heap_table.proofs.Allowed.{each_map}

at_end : {A : Type 0} (l : List A) (a b : A) (j : ℕ) → get_elem? (l ++ a ∷ []) j ≡ some b → (get_elem? l j ≡ some b) ⊎ ((a ≡ b) × (j ≡ length l))
at_end [] a b zero e = inr (some-injective a b e, refl)
at_end [] a b (suc j) e = absurd (some-ne-none b (sym e))
at_end (x ∷ xs) a b zero e = inl e
at_end (x ∷ xs) a b (suc j) e = ⊎_elim (λ h. inl h) (λ (h : (a ≡ b) × (j ≡ length xs)). inr (h.0, omega (arith, h.1))) (at_end xs a b j e)

is_below : {A : Type 0} (l : List A) (b : A) (j : ℕ) → get_elem? l j ≡ some b → j < length l
is_below [] b j e = absurd (some-ne-none b (sym e))
is_below (x ∷ xs) b zero e = omega arith
is_below (x ∷ xs) b (suc j) e = let h = is_below xs b j e in omega (arith, h)

pub each_both : {P Q R : ThreadView → Type 0} → ((k : ThreadView) → P k → Q k → R k) → (v : List ThreadView) → Each P v → Each Q v → Each R v
each_both f [] h g = tt
each_both f (k ∷ ks) h g = (f k h.0 g.0, each_both f ks h.1 g.1)

pub each_append : (P : ThreadView → Type 0) (v u : List ThreadView) → Each P v → Each P u → Each P (v ++ u)
each_append P [] u h g = g
each_append P (k ∷ ks) u h g = (h.0, each_append P ks u h.1 g)

differ_append : (f : ℕ → ℕ) (i j : ℕ) → i ≢ j → (v u : List ThreadView) → Each (λ (k : ThreadView). f k.thread ≡ i) v
    → Each (λ (k : ThreadView). f k.thread ≡ j) u → Differ v → Differ u → Differ (v ++ u)
differ_append f i j d [] u hv hu dv du = du
differ_append f i j d (k ∷ ks) u hv hu dv du = (
  each_append (λ (o : ThreadView). o.thread ≢ k.thread) ks u dv.0 (each_map (λ (o : ThreadView) h e. d (sym hv.0 ∙ ap f (sym e) ∙ h)) u hu),
  differ_append f i j d ks u hv.1 hu dv.1 du,
)

abbrev Fits : World → (ℕ → ℕ) → ℕ → List ThreadView → Type 0
Fits w who id v = Each (λ (k : ThreadView). (w.known k.thread ≡ k) × (who k.thread ≡ id)) v × Differ v

when_same : (a b x y : ℕ) → a ≡ b → cond (a == b) x y ≡ x
when_same a b x y e = ap (λ (c : Bool). cond c x y) (eq-eqb a b e)

when_apart : (a b x y : ℕ) → a ≢ b → cond (a == b) x y ≡ y
when_apart a b x y e = ap (λ (c : Bool). cond c x y) (ne_eqb a b e)

module _ {S : Type 0} (b : Heap) where
  pub splits : (id : ℕ) (k : ThreadView) (ks : List ThreadView) → Splits {S = S} (Rules b) id (k ∷ ks) ks (k ∷ [])
  splits id k ks s (w, who, sh, sound, came) at =
      let mine = sh.knows id (k ∷ ks) at in
      let new : ℕ = length (slice_set s.views id ks) in
      let who' : ℕ → ℕ = λ t. cond (t == k.thread) new (who t) in
      let old : (j : ℕ) (v : List ThreadView) → get_elem? (slice_set s.views id ks) j ≡ some v → Fits w who' j v = λ j v e.
      ⊎_elim
      (λ (x : (j ≡ id) × (ks ≡ v)).
      subst (Fits w who' j) x.1 (
        each_both {R = λ (o : ThreadView). (w.known o.thread ≡ o) × (who' o.thread ≡ j)}
            (λ (o : ThreadView) h d. (h.0, when_apart o.thread k.thread new (who o.thread) d ∙ h.1 ∙ sym x.0)) ks mine.0.1 mine.1.0,
        mine.1.1,
      ))
      (λ (x : (j ≢ id) × (get_elem? s.views j ≡ some v)).
      let was = sh.knows j v x.1 in (
        each_map (λ (o : ThreadView) h.
            (h.0, when_apart o.thread k.thread new (who o.thread) (λ d. x.0 (sym h.1 ∙ ap who d ∙ mine.0.0.1)) ∙ h.1)) v was.0,
        was.1,
      ))
      (at_set s.views id j ks v e) in (
        w,
        who',
        record {
          is_of = sh.is_of;
          wide = sh.wide;
          words_are = sh.words_are;
          knows = λ j v e. ⊎_elim (λ h. old j v h) (λ (x : (k ∷ [] ≡ v) × (j ≡ new)). subst (Fits w who' j) x.0 (
            (
              (
                mine.0.0.0,
                when_same k.thread k.thread new (who k.thread) refl ∙ sym x.1,
              ),
              tt,
            ),
            (tt, tt),
          )) (at_end (slice_set s.views id ks) (k ∷ []) v j e);
        },
        sound,
        came,
      )

  pub joins : (id other : ℕ) (v u : List ThreadView) → Joins {S = S} (Rules b) id v other u (v ++ u) []
  joins id other v u s (w, who, sh, sound, came) at apart there =
      let mine = sh.knows id v at in
      let theirs : Fits w who other u = ⊎_elim (λ (x : (other ≡ id) × (v ++ u ≡ u)). absurd (apart x.0))
      (λ (x : (other ≢ id) × (get_elem? s.views other ≡ some u)). sh.knows other u x.1) (at_set s.views id other (v ++ u) u there) in
      let who' : ℕ → ℕ = λ t. cond (who t == other) id (who t) in
      let here : Fits w who' id (v ++ u) = (
        each_append (λ (o : ThreadView). (w.known o.thread ≡ o) × (who' o.thread ≡ id)) v u
            (each_map (λ (o : ThreadView) h. (h.0, when_apart (who o.thread) other id (who o.thread) (λ e. apart (sym e ∙ h.1)) ∙ h.1)) v mine.0)
            (each_map (λ (o : ThreadView) h. (h.0, when_same (who o.thread) other id (who o.thread) h.1)) u theirs.0),
        differ_append who id other (λ e. apart (sym e)) v u (each_map (λ (o : ThreadView) h. h.1) v mine.0)
            (each_map (λ (o : ThreadView) h. h.1) u theirs.0) mine.1 theirs.1,
      ) in (
        w,
        who',
        record {
          is_of = sh.is_of;
          wide = sh.wide;
          words_are = sh.words_are;
          knows = λ j z e. ⊎_elim
              (λ (x : (j ≡ other) × ([] ≡ z)). subst (Fits w who' j) x.1 (tt, tt))
              (λ (x : (j ≢ other) × (get_elem? (slice_set s.views id (v ++ u)) j ≡ some z)).
              ⊎_elim
              (λ (y : (j ≡ id) × (v ++ u ≡ z)). subst (λ (i : ℕ). Fits w who' i z) (sym y.0) (subst (Fits w who' id) y.1 here))
              (λ (y : (j ≢ id) × (get_elem? s.views j ≡ some z)).
              let was = sh.knows j z y.1 in
              (each_map (λ (o : ThreadView) h. (h.0, when_apart (who o.thread) other id (who o.thread) (λ d. x.0 (sym h.1 ∙ d)) ∙ h.1)) z was.0, was.1))
              (at_set s.views id j (v ++ u) z x.1))
              (at_set (slice_set s.views id (v ++ u)) other j [] z e);
        },
        sound,
        came,
      )

  pub comes : (slots i : ℕ) → Enters {S = S} (Rules b) slots i (λ n v. v ≡ [])
  comes slots i s (w, who, sh, sound, came) count fits = (
    [],
    (
      w,
      who,
      record {
        is_of = sh.is_of;
        wide = sh.wide;
        words_are = sh.words_are;
        knows = λ j v e. ⊎_elim (λ h. sh.knows j v h) (λ (x : ([] ≡ v) × (j ≡ length s.views)). subst (Fits w who j) x.0 (tt, tt)) (at_end s.views [] v j e);
      },
      sound,
      came,
    ),
    refl,
  )

module _ {S : Type 0} where
  pub splits_as : (key : Setting) (id : ℕ) (v : List ThreadView) (k : ThreadView) (ks : List ThreadView)
      → v ≡ k ∷ ks → Splits {S = S} (Ruled key) id v (others v) (only v ∷ [])
  splits_as key id v k ks e =
      subst (λ (u : List ThreadView). Splits {S = S} (Ruled key) id u (others u) (only u ∷ [])) (sym e) (splits {S = S} (heap_in key) id k ks)
