-- The walk of a bulk rebias: each biased object of the class that a record names gets the class's epoch, and no other word changes.
use Rattle.plain_monitor.specs.Limits.{most_threads, most_holds}
use Rattle.core_locks.proofs.Prelude.{◌≡◌, ◌⊎◌, ℕ, ◌<◌, ◌≤◌, ◌==◌, ◌&&◌, eq-eqb, ne_eqb, eqb-true, Bool, true, false, cond, if◌then◌else◌}
use Rattle.core_locks.proofs.Prelude.{[], Option, Some, None, refl, sym, ap, ◌∙◌, subst, arith, inl, inr, MarkForm, Anonymous, Biased}
use Rattle.core_locks.proofs.Prelude.{mark_of, read_mark, read_hold, read_mark-mark_of, WordId, Mark, Hold, Prototype, Shape, same_name}
use Rattle.core_locks.proofs.Prelude.{with_word, is_biased, is_biased_form, epoch_in, names, IsMark, by_equal}
use Rattle.core_world.specs.declared.word_id.WordId.TheVariants as id
use Rattle.core_world.specs.RevocationRules.{Rule, words_after, each_below, with_epoch, store_where, renew, object_held, on_held, on_records}
use Rattle.core_world.proofs.Naming.{same_named}
use Rattle.core_bias.proofs.BulkRevokes.{held_object}
use Rattle.core_bias.proofs.Folds.{Keeps, keeps_below, does_below}
use Rattle.core_bias.proofs.GoodWrites.{epoch_few}

abbrev pub is_mark : WordId → Bool
is_mark (id.Mark o) = true
is_mark _ = false

-- the mark with the epoch, where there is one and the mark has the bias pattern
abbrev pub renewed_form : Option MarkForm → Option ℕ → ℕ → ℕ
renewed_form (Some (Anonymous e age)) (Some epoch) m = mark_of (Anonymous epoch age)
renewed_form (Some (Biased t e age)) (Some epoch) m = mark_of (Biased t epoch age)
renewed_form _ _ m = m

-- words and forms of the walk that begins at the words f
module _ (s : Shape) (class : ℕ → ℕ) (c : ℕ) (f : WordId → ℕ) (threads : s.threads ≤ most_threads) (forms : (o : ℕ) → IsMark s (read_mark (f (Mark o)))) where
  abbrev pub epoch : Option ℕ
  epoch = epoch_in (f (Prototype c))

  abbrev pub target : ℕ → ℕ
  target o = renewed_form (read_mark (f (Mark o))) epoch (f (Mark o))

  -- the forms of renewed marks
  read_anonymous : (e age n : ℕ) → epoch_in n ≡ Some e → age ≡ 0 → read_mark (mark_of (Anonymous e age)) ≡ Some (Anonymous e age)
  read_anonymous e age n q young = read_mark-mark_of (Anonymous e age) (epoch_few n e q, omega (arith, young))

  read_biased_to : (t e age n : ℕ) → epoch_in n ≡ Some e → t < s.threads → age ≡ 0 → read_mark (mark_of (Biased t e age)) ≡ Some (Biased t e age)
  read_biased_to t e age n q within young = read_mark-mark_of (Biased t e age) (omega (arith, within, threads), epoch_few n e q, omega (arith, young))

  abbrev Facts : ℕ → Option ℕ → ℕ → Type 0
  Facts o b m = IsMark s (read_mark m) × (is_biased m ≡ is_biased (f (Mark o))) × (renewed_form (read_mark m) b m ≡ m)

  -- a renewed mark is one of the heap's, has the bias pattern that it had, and is renewed to itself
  pub target_form : (o : ℕ) → IsMark s (read_mark (target o)) × (is_biased (target o) ≡ is_biased (f (Mark o)))
      × (renewed_form (read_mark (target o)) epoch (target o) ≡ target o)
  target_form o = by_form (read_mark (f (Mark o))) refl epoch refl
    where
      kept : (b : Option ℕ) → renewed_form (read_mark (f (Mark o))) b (f (Mark o)) ≡ f (Mark o) → Facts o b (f (Mark o))
      kept b h = (forms o, refl, h)

      by_form : (x : Option MarkForm) → read_mark (f (Mark o)) ≡ x → (b : Option ℕ) → epoch_in (f (Prototype c)) ≡ b → Facts o b (renewed_form x b (f (Mark o)))
      by_form (Some (Anonymous e age)) r (Some i) q =
          let form = subst (IsMark s) r (forms o) in
          let spelled = read_anonymous i age (f (Prototype c)) q form in (
            subst (IsMark s) (sym spelled) form,
            ap is_biased_form spelled ∙ sym (ap is_biased_form r),
            ap (λ z. renewed_form z (Some i) (mark_of (Anonymous i age))) spelled,
          )
      by_form (Some (Biased t e age)) r (Some i) q =
          let form = subst (IsMark s) r (forms o) in
          let spelled = read_biased_to t i age (f (Prototype c)) q form.0 form.1 in (
            subst (IsMark s) (sym spelled) form,
            ap is_biased_form spelled ∙ sym (ap is_biased_form r),
            ap (λ z. renewed_form z (Some i) (mark_of (Biased t i age))) spelled,
          )
      by_form (Some (Anonymous e age)) r None q = kept None (ap (λ z. renewed_form z None (f (Mark o))) r)
      by_form (Some (Biased t e age)) r None q = kept None (ap (λ z. renewed_form z None (f (Mark o))) r)
      by_form x r b q = kept b (ap (λ z. renewed_form z b (f (Mark o))) r)

  -- words of the walk
  pub record IsWalked (g : WordId → ℕ) : Type 0 where
    pub words : (n : WordId) → is_mark n ≡ false → g n ≡ f n
    pub marks : (o : ℕ) → (g (Mark o) ≡ f (Mark o)) ⊎ ((class o ≡ c) × (is_biased (f (Mark o)) ≡ true) × (g (Mark o) ≡ target o))

  abbrev Later : (WordId → ℕ) → (WordId → ℕ) → Type 0
  Later g h = (o : ℕ) → g (Mark o) ≡ target o → h (Mark o) ≡ target o

  -- ONE OBJECT
  renew_is : (o : ℕ) (g : WordId → ℕ) → words_after (renew c o g) g (Mark o) ≡ renewed_form (read_mark (g (Mark o))) (epoch_in (g (Prototype c))) (g (Mark o))
  renew_is o g = by_form (read_mark (g (Mark o))) (epoch_in (g (Prototype c)))
    where
      here : (m : ℕ) → with_word (Mark o) m g (Mark o) ≡ m
      here m = ap (λ (b : Bool). cond b m (g (Mark o))) (eq-eqb o o refl)

      by_form : (x : Option MarkForm) (b : Option ℕ) → words_after (store_where (Mark o) (with_epoch x b)) g (Mark o) ≡ renewed_form x b (g (Mark o))
      by_form (Some (Anonymous e age)) (Some i) = here (mark_of (Anonymous i age))
      by_form (Some (Biased t e age)) (Some i) = here (mark_of (Biased t i age))
      by_form _ _ = refl

  renew_else : (o : ℕ) (g : WordId → ℕ) (n : WordId) → same_name n (Mark o) ≡ false → words_after (renew c o g) g n ≡ g n
  renew_else o g n e = by_word (with_epoch (read_mark (g (Mark o))) (epoch_in (g (Prototype c))))
    where
      by_word : (a : Option ℕ) → words_after (store_where (Mark o) a) g n ≡ g n
      by_word None = refl
      by_word (Some m) = ap (λ (b : Bool). cond b m (g n)) e

  renewed : (o : ℕ) (g : WordId → ℕ) → IsWalked g → words_after (renew c o g) g (Mark o) ≡ target o
  renewed o g v =
      renew_is o g ∙ ap (λ z. renewed_form (read_mark (g (Mark o))) (epoch_in z) (g (Mark o))) (v.words (Prototype c) refl)
      ∙ elim (v.marks o) [
        | inl a ↦ ap (λ m. renewed_form (read_mark m) epoch m) a
        | inr a ↦ ap (λ m. renewed_form (read_mark m) epoch m) a.2 ∙ (target_form o).2
      ]

  renew_keeps : (o : ℕ) (g : WordId → ℕ) → class o ≡ c → is_biased (f (Mark o)) ≡ true
      → IsWalked g → IsWalked (words_after (renew c o g) g) × Later g (words_after (renew c o g) g)
  renew_keeps o g its biased v = (
    record {
      words = λ n e. renew_else o g n (unmarked n e) ∙ v.words n e;
      marks = λ i. by_equal i o
          (λ e. subst (λ j. (words_after (renew c o g) g (Mark j) ≡ f (Mark j))
          ⊎ ((class j ≡ c) × (is_biased (f (Mark j)) ≡ true) × (words_after (renew c o g) g (Mark j) ≡ target j))) (sym e)
          (inr (its, biased, renewed o g v)))
          (λ d. let same = renew_else o g (Mark i) (ne_eqb i o d) in elim (v.marks i) [ inl a ↦ inl (same ∙ a) | inr a ↦ inr (a.0, a.1, same ∙ a.2) ]);
    },
    λ i h. by_equal i o
        (λ e. subst (λ j. words_after (renew c o g) g (Mark j) ≡ target j) (sym e) (renewed o g v))
        (λ d. renew_else o g (Mark i) (ne_eqb i o d) ∙ h),
  )
    where
      unmarked : (n : WordId) → is_mark n ≡ false → same_name n (Mark o) ≡ false
      unmarked n e = cases (same_name n (Mark o)) refl
        where
          cases : (b : Bool) → same_name n (Mark o) ≡ b → same_name n (Mark o) ≡ false
          cases true z = let same = ap is_mark (same_named n (Mark o) z) in absurd (cc (same, e))
          cases false z = z

  -- a mark in the walk has the bias pattern where it had it
  still_biased : (o : ℕ) (g : WordId → ℕ) → IsWalked g → is_biased (g (Mark o)) ≡ is_biased (f (Mark o))
  still_biased o g v = elim (v.marks o) [ inl a ↦ ap is_biased a | inr a ↦ ap is_biased a.2 ∙ (target_form o).1 ]

  -- THE WALK
  held_keeps : (a : Option ℕ) (g : WordId → ℕ) → IsWalked g
      → IsWalked (words_after (on_held class c (renew c) a g) g) × Later g (words_after (on_held class c (renew c) a g) g)
  held_keeps None g v = (v, λ o h. h)
  held_keeps (Some o) g v = cases (class o == c) (is_biased (g (Mark o))) refl refl
    where
      cases : (a b : Bool) → (class o == c) ≡ a → is_biased (g (Mark o)) ≡ b
          → IsWalked (words_after (if (class o == c) && is_biased (g (Mark o)) then renew c o g else []) g)
          × Later g (words_after (if (class o == c) && is_biased (g (Mark o)) then renew c o g else []) g)
      cases true true p q = subst (λ b. IsWalked (words_after (if b then renew c o g else []) g)
          × Later g (words_after (if b then renew c o g else []) g)) (λ i. sym p i && sym q i)
          (renew_keeps o g (eqb-true (class o) c p) (sym (still_biased o g v) ∙ q) v)
      cases true false p q = subst (λ b. IsWalked (words_after (if b then renew c o g else []) g)
          × Later g (words_after (if b then renew c o g else []) g)) (λ i. sym p i && sym q i) (v, λ o h. h)
      cases false b p q = subst (λ a. IsWalked (words_after (if a && is_biased (g (Mark o)) then renew c o g else []) g)
          × Later g (words_after (if a && is_biased (g (Mark o)) then renew c o g else []) g)) (sym p) (v, λ o h. h)

  abbrev visit : ℕ → ℕ → Rule
  visit t p g = on_held class c (renew c) (object_held (read_hold (g (Hold t p)))) g

  abbrev Done : ℕ → ℕ → (WordId → ℕ) → Type 0
  Done t p g = (o : ℕ) → names o (f (Hold t p)) ≡ true → class o ≡ c → is_biased (f (Mark o)) ≡ true → g (Mark o) ≡ target o

  visit_done : (t p : ℕ) (g : WordId → ℕ) → IsWalked g → Done t p (words_after (visit t p g) g)
  visit_done t p g v o e its biased =
      let object : object_held (read_hold (g (Hold t p))) ≡ Some o =
      ap (λ h. object_held (read_hold h)) (v.words (Hold t p) refl) ∙ held_object (f (Hold t p)) o e in
      let here : (class o == c) ≡ true = eq-eqb (class o) c its in
      let bias : is_biased (g (Mark o)) ≡ true = still_biased o g v ∙ biased in
      subst (λ a. words_after (on_held class c (renew c) a g) g (Mark o) ≡ target o) (sym object)
      (subst (λ b. words_after (if b then renew c o g else []) g (Mark o) ≡ target o) (λ i. sym here i && sym bias i) (renewed o g v))

  start : IsWalked f
  start = record { words = λ n e. refl; marks = λ o. inl refl }

  abbrev row : ℕ → Rule
  row t = each_below most_holds (visit t)

  row_keeps : (t : ℕ) (g : WordId → ℕ) → IsWalked g → Keeps IsWalked Later (λ f o h. h) (λ f g h a b o z. b o (a o z)) (row t) g
  row_keeps t = keeps_below IsWalked Later (λ f o h. h) (λ f g h a b o z. b o (a o z)) most_holds
      (visit t) (λ p g v. held_keeps (object_held (read_hold (g (Hold t p)))) g v)

  pub walk_is : IsWalked (words_after (on_records s class c (renew c) f) f)
  unfolding on_records
  walk_is = (keeps_below IsWalked Later (λ f o h. h) (λ f g h a b o z. b o (a o z)) s.threads row row_keeps f start).0

  pub walk_done : (t : ℕ) → t < s.threads → (p : ℕ) → p < most_holds → Done t p (words_after (on_records s class c (renew c) f) f)
  unfolding on_records
  walk_done =
      does_below IsWalked Later (λ f o h. h) (λ f g h a b o z. b o (a o z)) s.threads row
      (λ t g. (p : ℕ) → p < most_holds → Done t p g) row_keeps (λ t g h mono d p small o e k z. mono o (d p small o e k z))
      (λ t g v. does_below IsWalked Later (λ f o h. h) (λ f g h a b o z. b o (a o z)) most_holds (visit t) (Done t)
      (λ p g v. held_keeps (object_held (read_hold (g (Hold t p)))) g v) (λ p g h mono d o e k z. mono o (d o e k z)) (visit_done t) g v) f start
