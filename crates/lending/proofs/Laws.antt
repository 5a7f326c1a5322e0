-- Each step keeps the rule.
use Rattle.std.proofs.Common.{◌≡◌, ◌≢◌, ◌⊎◌, ℕ, zero, suc, ◌+◌, ◌<◌, ◌≤◌, List, [], ◌∷◌, ◌++◌, length, map, Option, None, Some, refl, sym, ap, ◌∙◌}
use Rattle.std.proofs.Common.{subst, ⊎_elim, inl, inr, arith, length-set, get_or, drop, Bool, false, true, Vec, Global, vec_len, vec_capacity}
use Rattle.std.specs.Prelude.{slice_set, slice_index, slice_index_or, replicate, slice_get, ⊤}
use mathlib.Core.Option.{Option as Maybe, some, none, some-injective, some-ne-none}
use mathlib.Core.Logic.{dite}
use native.Mathlib.Decide.{ℕ_discrete}
use lib.ListN.{get_elem?}
use Rattle.std.proofs.lemmas.Option.{none-some, same_Some}
use Rattle.std.proofs.lemmas.List.{get_or-set_same, get_or-set_other, length-map, length_push}
use Rattle.atomic_table.specs.Table.{State, Me, rest, takes, gives, keeps, Allows, Arrives, opening, Final}
use Rattle.atomic_table.proofs.Lists.{set_here, set_else}
use Rattle.lending.specs.Lending.{most, AreAt}
use Rattle.lending.specs.inner.Kept.{Kept, Took, LayHome, SoFar}

same_or : (i k : ℕ) → (i ≡ k) ⊎ (i ≢ k)
same_or i k = dite (ℕ_discrete i k) (λ e. inl e) (λ n. inr n)

there : {A : Type 0} (xs : List A) (i : ℕ) → i < length xs
    → (y : A) × (slice_get xs i ≡ Some y) × (get_elem? (map some (map Some xs)) i ≡ some (some (Some y)))
there [] i h = absurd (omega arith)
there (x ∷ xs) zero h = (x, refl, refl)
there (x ∷ xs) (suc i) h = there xs i (omega arith)

by_index : (ws : List ℕ) (i n : ℕ) → get_elem? ws i ≡ some n → slice_index ws i ≡ n
by_index [] i n e = absurd (some-ne-none n (sym e))
by_index (w ∷ ws) zero n e = some-injective w n e
by_index (w ∷ ws) (suc i) n e = by_index ws i n e

-- a list of full slots has no empty one
pub no_none : {A : Type 0} (ys zs : List (Option A)) (xs : List A) → ys ++ None ∷ zs ≡ map Some xs → ⊥
no_none [] zs [] e = absurd (let l = ap length e in omega (arith, l))
no_none [] zs (x ∷ xs) e = none-some x (ap (λ l. get_or l 0 None) e)
no_none (y ∷ ys) zs [] e = absurd (let l = ap length e in omega (arith, l))
no_none (y ∷ ys) zs (x ∷ xs) e = no_none ys zs xs (ap (drop 1) e)

pub same_things : {A : Type 0} (xs ys : List A) → map Some xs ≡ map Some ys → xs ≡ ys
same_things [] [] e = refl
same_things [] (y ∷ ys) e = absurd (let l = ap length e in omega (arith, l))
same_things (x ∷ xs) [] e = absurd (let l = ap length e in omega (arith, l))
same_things (x ∷ xs) (y ∷ ys) e =
    let head = same_Some x y (ap (λ l. get_or l 0 None) e) in
    let tail = same_things xs ys (ap (drop 1) e) in
    λ i. head i ∷ tail i

at_end_or : {A : Type 0} (xs : List A) (y z : A) (j : ℕ) → slice_get (xs ++ y ∷ []) j ≡ Some z
    → (slice_get xs j ≡ Some z) ⊎ ((j ≡ length xs) × (y ≡ z))
at_end_or [] y z zero e = inr (refl, same_Some y z e)
at_end_or [] y z (suc j) e = absurd (none-some z e)
at_end_or (x ∷ xs) y z zero e = inl e
at_end_or (x ∷ xs) y z (suc j) e = ⊎_elim (λ h. inl h) (λ h. inr (ap suc h.0, h.1)) (at_end_or xs y z j e)

pub emptied : (fs gs : List Bool) (i : ℕ) → i < length fs → gs ≡ slice_set fs i false → ((k : ℕ) → k < i → slice_index_or fs k false ≡ false) → (k : ℕ)
    → k < i + 1 → slice_index_or gs k false ≡ false
emptied fs gs i li e before k lt = ⊎_elim
    (λ (h : k ≡ i). ap (λ (l : List Bool). get_or l k false) e ∙ ap (λ (m : ℕ). get_or (slice_set fs i false) m false) h ∙ get_or-set_same fs i false false li)
    (λ (n : k ≢ i). ap (λ (l : List Bool). get_or l k false) e ∙ get_or-set_other fs i k false false n ∙ before k (omega (arith, lt, n)))
    (same_or k i)

pub still_full : (fs gs : List Bool) (i n : ℕ) → gs ≡ slice_set fs i false → ((k : ℕ) → i ≤ k → k < n → slice_index_or fs k false ≡ true) → (k : ℕ)
    → i + 1 ≤ k → k < n → slice_index_or gs k false ≡ true
still_full fs gs i n e before k low lt = ap (λ (l : List Bool). get_or l k false) e
    ∙ get_or-set_other fs i k false false (λ h. absurd (omega (arith, low, h))) ∙ before k (omega (arith, low)) lt

pub holds_only : {A : Type 0} (l : List (ℕ × A)) (k : ℕ) (x : A) → l ≡ (k, x) ∷ [] → l ≡ (k, x) ∷ rest l
holds_only {A} l k x e = e ∙ ap (λ (m : List (ℕ × A)). (k, x) ∷ rest m) (sym e)

within_of : {A : Type 0} (l : List A) (b : A) (j : ℕ) → get_elem? l j ≡ some b → j < length l
within_of [] b j e = absurd (some-ne-none b (sym e))
within_of (x ∷ xs) b zero e = omega arith
within_of (x ∷ xs) b (suc j) e = let h = within_of xs b j e in omega (arith, h)

module _ {S V : Type 0} (Is : ℕ → S → Type 0) where
  pub opens : (xs : List S) (slots : List (Option S)) (v : V) → slots ≡ map Some xs → AreAt Is xs
      → Kept Is (opening (replicate most 1) slots v)
  opens xs slots v e all = subst (λ (l : List (Option S)). Kept Is (opening (replicate most 1) l v)) (sym e)
      record {
        width = refl;
        home = λ i li one.
            let len = length-map (map Some xs) some in
            let len' = length-map xs Some in
            let at = there xs i (omega (arith, li, len, len')) in
            (at.0, at.2, all i at.0 at.1);
      }

  -- a step on word k, which leaves the other slots as they are
  changed : (s : State (Option S) V) (k w : ℕ) (hs : List (Maybe (Option S))) (vs : List V) → Kept Is s → k < most → length hs ≡ length s.homes
      → ((i : ℕ) → i ≢ k → get_elem? hs i ≡ get_elem? s.homes i)
      → (k < length s.homes → w ≡ 1 → (y : S) × (get_elem? hs k ≡ some (some (Some y))) × Is k y)
      → Kept Is record { words = slice_set s.words k w; homes = hs; views = vs }
  changed s k w hs vs kept low count others here =
      record {
        width = length-set s.words k w ∙ kept.width;
        home = λ i li one.
            let inside : i < length s.homes = (omega (arith, li, count)) in
            ⊎_elim
            (λ (h : i ≡ k).
            let same = get_or-set_same s.words k w 0 (let l = kept.width in omega (arith, l, low)) in
            let y = here (omega (arith, inside, h)) (sym same ∙ ap (slice_index (slice_set s.words k w)) (sym h) ∙ one) in
            subst (λ (j : ℕ). (y : S) × (get_elem? hs j ≡ some (some (Some y))) × Is j y) (sym h) y)
            (λ (n : i ≢ k).
            let y = kept.home i inside (sym (get_or-set_other s.words k i w 0 n) ∙ one) in
            (y.0, others i n ∙ y.1, y.2))
            (same_or i k);
      }

  -- the borrower comes with a seat of its own
  pub taken : (n k : ℕ) (v : V) → k < n → k < most → Arrives {V = V} (Kept Is) n k (λ _. 0) (Took Is k)
  taken n k v inside low s kept count fits =
      dite (ℕ_discrete (slice_index s.words k) 1)
      (λ (one : slice_index s.words k ≡ 1).
      let y = kept.home k (omega (arith, inside, count)) one in (
        v,
        takes k (Some y.0),
        y.1,
        changed s k 0 (slice_set s.homes k none) (s.views ++ v ∷ []) kept low (length-set s.homes k none)
            (λ i d. set_else s.homes k i none d) (λ _ e. absurd (omega (arith, e))),
        λ _. (y.0, y.2, refl),
      ))
      (λ (out : slice_index s.words k ≢ 1). (
        v,
        keeps,
        tt,
        changed s k 0 s.homes (s.views ++ v ∷ []) kept low refl (λ i d. refl) (λ _ e. absurd (omega (arith, e))),
        λ one. absurd (out one),
      ))

  -- the seat me lent slot k, which was emptied, and m is what it has since the thing was put back
  pub gave : (n id k : ℕ) (me m : Me (Option S) V) (y : S) → k < most → Is k y → me.1 ≡ (k, None) ∷ [] → m ≡ (me.0, (k, Some y) ∷ rest me.1)
      → Allows (Kept Is) n id m k (λ _. 1) (λ found after. ⊤)
  gave n id k me m y low is emptied put =
      subst (λ (x : Me (Option S) V). Allows (Kept Is) n id x k (λ _. 1) (λ found after. ⊤))
      (sym (put ∙ λ i. (me.0, (k, Some y) ∷ rest (emptied i))))
      (λ s kept count at fits. (
        me.0,
        gives,
        tt,
        changed s k 1 (slice_set s.homes k (some (Some y))) (slice_set s.views id me.0) kept low (length-set s.homes k (some (Some y)))
            (λ i d. set_else s.homes k i (some (Some y)) d)
            (λ li _. (y, set_here s.homes k (some (Some y)) li, is)),
        tt,
      ))

  -- what the words and slots of the last state say, by lists that are equal to them
  pub at_last : (ws us : List ℕ) (xs zs : List (Option S)) (i : ℕ) (y : S) → Final {V = V} (Kept Is) ws xs → us ≡ ws → zs ≡ xs → LayHome us zs i y → Is i y
  at_last ws us xs zs i y (s, kept, words, count, slots) ew ez (one, lies) =
      let lies_there = ap (λ (l : List (Option S)). get_elem? l i) (sym ez) ∙ lies in
      let stands = ap (λ (l : List ℕ). get_elem? l i) (words ∙ sym ew) ∙ one in
      let inside : i < length s.homes = (let l = within_of xs (Some y) i lies_there in omega (arith, l, count)) in
      let h = kept.home i inside (by_index s.words i 1 stands) in
      let same = some-injective (Some h.0) (Some y) (sym (slots i (Some h.0) h.1) ∙ lies_there) in
      subst (Is i) (same_Some h.0 y same) h.2

module _ {S : Type 0} (Is : ℕ → S → Type 0) where
  pub none_yet : (xs : List S) → xs ≡ [] → SoFar Is 0 xs
  none_yet xs e =
      subst (SoFar Is 0) (sym e)
      record {
        few = omega arith;
        all = λ whole j z at. absurd (none-some z at);
        some = λ j z at. absurd (none-some z at);
      }

  pub one_more : (i : ℕ) (xs : List S) (y : S) → SoFar Is i xs → Is i y → SoFar Is (i + 1) (xs ++ y ∷ [])
  one_more i xs y so is =
      let len = length_push xs y in
      record {
        few = (let f = so.few in omega (arith, f, len));
        all = λ whole j z e.
            let here : length xs ≡ i = omega (arith, whole, len) in
            ⊎_elim (λ (h : slice_get xs j ≡ Some z). so.all here j z h)
            (λ (h : (j ≡ length xs) × (y ≡ z)). subst (λ (m : ℕ). Is m z) (sym (h.0 ∙ here)) (subst (Is i) h.1 is))
            (at_end_or xs y z j e);
        some = λ j z e. ⊎_elim
            (λ (h : slice_get xs j ≡ Some z). let k = so.some j z h in (k.0, (let l = k.1 in omega (arith, l)), k.2))
            (λ (h : (j ≡ length xs) × (y ≡ z)). (i, omega arith, subst (Is i) h.1 is))
            (at_end_or xs y z j e);
      }

  pub one_out : (i : ℕ) (xs : List S) → SoFar Is i xs → SoFar Is (i + 1) xs
  one_out i xs so =
      record {
        few = (let f = so.few in omega (arith, f));
        all = λ whole. absurd (let f = so.few in omega (arith, f, whole));
        some = λ j z e. let k = so.some j z e in (k.0, (let l = k.1 in omega (arith, l)), k.2);
      }

  -- what is known of the things so far, which lie in a vector with room for n, after one more slot
  abbrev pub Goes : ℕ → ℕ → Vec S Global → Type 0
  Goes i n v = ((vec_len v ≤ i) × (n ≤ vec_capacity v)) × SoFar Is i v.items

  pub goes_on : (i n : ℕ) (old new : Vec S Global) → new ≡ old → Goes i n old → Goes (i + 1) n new
  goes_on i n old new e h = let r = h.0 in subst (Goes (i + 1) n) (sym e) ((omega (arith, r), r.1), one_out i old.items h.1)

  pub goes_on_with : (i n : ℕ) (old pushed new : Vec S Global) (y : S) → new ≡ pushed → Goes i n old → Is i y → pushed.items ≡ old.items ++ y ∷ []
      → vec_len pushed ≡ vec_len old + 1 → vec_capacity pushed ≡ vec_capacity old → Goes (i + 1) n new
  goes_on_with i n old pushed new y e h is items len capacity =
      let r = h.0 in
      subst (Goes (i + 1) n) (sym e) (
        (omega (arith, r, len), omega (arith, r, capacity)),
        subst (SoFar Is (i + 1)) (sym items) (one_more i old.items y h.1 is),
      )
