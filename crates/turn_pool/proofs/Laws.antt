-- Each step keeps the rule.
use Rattle.std.proofs.Common.{◌≡◌, ◌≢◌, ◌⊎◌, ℕ, zero, suc, ◌+◌, ◌-◌, ◌*◌, ◌%◌, ◌^◌, ◌<◌, ◌≤◌, List, [], ◌∷◌, ◌++◌, length, Option}
use Rattle.std.proofs.Common.{None, Some, refl, sym, ap, ◌∙◌, subst, ⊎_elim, inl, inr, arith, length-set, min, take, get_or}
use Rattle.std.specs.Prelude.{slice_set, slice_index, replicate, slice_index_or, slice_get, map, Bool, true, false, ◌||◌}
use mathlib.Core.Option.{Option as Maybe, some, none, some-injective, some-ne-none}
use mir.Syntax.{w64}
use lib.ListN.{get_elem?}
use Rattle.std.specs.Int.{bit_at, trailing_zeros}
use Rattle.std.specs.Int.Bits.{bit_and, bit_or}
use Rattle.std.proofs.lemmas.Option.{none-some, same_Some, slice_get_within}
use Rattle.std.proofs.lemmas.List.{get_or-set_same, get_or-set_other, length-map, take_more, set-get_or}
use Rattle.std.proofs.lemmas.Nat.{one_shl}
use Rattle.std.proofs.lemmas.Nat.{and_le_l}
use Rattle.std.proofs.lemmas.Nat.Bits.{bit_at-trailing_zeros, bit_at_and, bit_at_ones_above, bit_at-lt, bit_at_ones, bit_at-zero}
use Rattle.std.proofs.lemmas.Nat.Bits.{bit_at_set_same, bit_at_set_other, bit_at_clear_same, bit_at_clear_other}
use Rattle.atomic_table.specs.Table.{State, Me, takes, gives, keeps, step, Allows, Splits, Joins, opening, Final, Seen}
use Rattle.atomic_table.proofs.Lists.{at_set, at_snoc, at_longer, set_here, set_else, set_again}
use Rattle.turn_pool.specs.declared.rule.SeatView.{SeatView}
use Rattle.turn_pool.specs.Pool.{width, seat_view, all_parts}
use Rattle.turn_pool.specs.inner.Pooled.{bit, IsOver, SawEnded, SawStopped, total, bit_of, all_but, Pooled, Took}
use Rattle.turn_pool.proofs.Bits.{same_or, below_or, none_or_one, all_but_same}

held_or : ℕ → Option ℕ → ℕ
held_or d None = d
held_or d (Some x) = x

out_same : (i k : ℕ) → Some i ≡ Some k → i ≡ k
unfolding held_or
out_same i k e = ap (held_or i) e

either_true : (f e : Bool) → (f || e) ≡ true → (f ≡ true) ⊎ (e ≡ true)
either_true true e h = inl refl
either_true false e h = inr h

nobody : (i : ℕ) → None ≡ Some i → ⊥
nobody i e = none-some i e

within_of : {A : Type 0} (l : List A) (b : A) (j : ℕ) → get_elem? l j ≡ some b → j < length l
within_of [] b j e = absurd (some-ne-none b (sym e))
within_of (x ∷ xs) b zero e = omega arith
within_of (x ∷ xs) b (suc j) e = let h = within_of xs b j e in omega (arith, h)

total_set : (views : List SeatView) (id : ℕ) (v w : SeatView) → get_elem? views id ≡ some v → total (slice_set views id w) + v.parts ≡ total views + w.parts
total_set [] id v w e = absurd (some-ne-none v (sym e))
total_set (x ∷ xs) zero v w e = omega (arith, ap (λ (u : SeatView). u.parts) (some-injective x v e))
total_set (x ∷ xs) (suc i) v w e = omega (arith, total_set xs i v w e)

total_end : (views : List SeatView) (u : SeatView) → total (views ++ u ∷ []) ≡ total views + u.parts
total_end [] u = omega arith
total_end (x ∷ xs) u = omega (arith, total_end xs u)

total_one : (views : List SeatView) (id : ℕ) (v : SeatView) → get_elem? views id ≡ some v → v.parts ≤ total views
total_one [] id v e = absurd (some-ne-none v (sym e))
total_one (x ∷ xs) zero v e = omega (arith, ap (λ (u : SeatView). u.parts) (some-injective x v e))
total_one (x ∷ xs) (suc i) v e = omega (arith, total_one xs i v e)

total_two : (views : List SeatView) (id other : ℕ) (v u : SeatView) → get_elem? views id ≡ some v → get_elem? views other ≡ some u → other ≢ id
    → v.parts + u.parts ≤ total views
total_two [] id other v u e f n = absurd (some-ne-none v (sym e))
total_two (x ∷ xs) zero zero v u e f n = absurd (n refl)
total_two (x ∷ xs) zero (suc j) v u e f n = omega (arith, ap (λ (h : SeatView). h.parts) (some-injective x v e), total_one xs j u f)
total_two (x ∷ xs) (suc i) zero v u e f n = omega (arith, ap (λ (h : SeatView). h.parts) (some-injective x u f), total_one xs i v e)
total_two (x ∷ xs) (suc i) (suc j) v u e f n = omega (arith, total_two xs i j v u e f (λ h. n (ap suc h)))

one_bit : (n : ℕ) → n < 33 → 1 * 2 ^ n % 2 ^ 64 ≡ 2 ^ n
one_bit n few = one_shl n 64 (omega (arith, few))

noughts : (b : ℕ) → b < 3 → b ≢ 0 → (ready i : ℕ) → bit_at (slice_index (slice_set (replicate width 0) 0 ready) (16 * b)) i ≡ 0
noughts zero lb d ready i = absurd (d refl)
noughts (suc zero) lb d ready i = bit_at-zero i
noughts (suc (suc zero)) lb d ready i = bit_at-zero i
noughts (suc (suc (suc b))) lb d ready i = absurd (omega (arith, lb))

only_one : (j : ℕ) (u : SeatView) → get_elem? (seat_view all_parts None false ∷ []) j ≡ some u → u ≡ seat_view all_parts None false
only_one zero u e = sym (some-injective (seat_view all_parts None false) u e)
only_one (suc j) u e = absurd (some-ne-none u (sym e))

there : {A : Type 0} (xs : List A) (i : ℕ) → i < length xs → (y : A) × (slice_get xs i ≡ Some y) × (get_elem? (map some xs) i ≡ some (some y))
there [] i h = absurd (omega arith)
there (x ∷ xs) zero h = (x, refl, refl)
there (x ∷ xs) (suc i) h = there xs i (omega arith)

by_both : {A : Type 0} (xs : List A) (i : ℕ) (y : A) → slice_get xs i ≡ Some y → get_elem? xs i ≡ some y
by_both [] i y e = absurd (none-some y e)
by_both (x ∷ xs) zero y e = ap some (same_Some x y e)
by_both (x ∷ xs) (suc i) y e = by_both xs i y e

over_grows : (n m : ℕ) (ws us : List ℕ) → m ≡ n → ((b i : ℕ) → b < 3 → b ≢ 0 → i < n → bit ws b i ≡ 1 → bit us b i ≡ 1) → IsOver n ws → IsOver m us
over_grows n m ws us e grows h = ⊎_elim
    (λ (x : (i : ℕ) → i < n → bit ws 1 i ≡ 1). inl (λ i lt. grows 1 i (omega arith) (λ z. absurd (omega (arith, z))) (omega (arith, lt, e))
    (x i (omega (arith, lt, e)))))
    (λ (x : (i : ℕ) × (i < n) × (bit ws 2 i ≡ 1)). inr (x.0, omega (arith, x.1, e), grows 2 x.0 (omega arith) (λ z. absurd (omega (arith, z))) x.1 x.2))
    h

module _ {S : Type 0} (Is : ℕ → ℕ → S → Type 0) where
  -- a seat's step on place k alone
  record Change (s : State S SeatView) (id k : ℕ) (v w : SeatView) (ws : List ℕ) (hs : List (Maybe S)) : Type 0 where
    at : get_elem? s.views id ≡ some v
    within : k < length s.homes
    width : length ws ≡ width
    count : length hs ≡ length s.homes
    bits : (b i : ℕ) → b < 3 → i < length s.homes → i ≢ k → bit ws b i ≡ bit s.words b i
    homes : (i : ℕ) → i ≢ k → get_elem? hs i ≡ get_elem? s.homes i
    home : (b : ℕ) → b < 3 → bit ws b k ≡ 1 → (y : S) × (get_elem? hs k ≡ some (some y)) × Is b k y
    apart : (b c : ℕ) → b < 3 → c < 3 → bit ws b k ≡ 1 → bit ws c k ≡ 1 → b ≡ c
    somewhere : ((b : ℕ) × (b < 3) × (bit ws b k ≡ 1)) ⊎ (w.held ≡ Some k)
    had : (i : ℕ) → v.held ≡ Some i → i ≡ k
    has : (i : ℕ) → w.held ≡ Some i → (i ≡ k) × ((b : ℕ) → b < 3 → bit ws b k ≡ 0)
    others : (j : ℕ) (u : SeatView) → j ≢ id → get_elem? s.views j ≡ some u → u.held ≢ Some k
    parts : w.parts ≡ v.parts
    some_part : 0 < v.parts
    flag : w.over ≡ v.over
    grows : (b i : ℕ) → b < 3 → b ≢ 0 → i < length s.homes → bit s.words b i ≡ 1 → bit ws b i ≡ 1

  changed : (s : State S SeatView) (id k : ℕ) (v w : SeatView) (ws : List ℕ) (hs : List (Maybe S)) → Pooled Is s → Change s id k v w ws hs
      → Pooled Is record { words = ws; homes = hs; views = slice_set s.views id w }
  changed s id k v w ws hs p ch =
      let lt : (i : ℕ) → i < length hs → i < length s.homes = λ i h. let c = ch.count in omega (arith, h, c) in
      let lt' : (i : ℕ) → i < length s.homes → i < length hs = λ i h. let c = ch.count in omega (arith, h, c) in
      let known : (j : ℕ) (u : SeatView) → get_elem? (slice_set s.views id w) j ≡ some u
      → ((j ≡ id) × (w ≡ u)) ⊎ ((j ≢ id) × (get_elem? s.views j ≡ some u)) = λ j u e. at_set s.views id j w u e in
      record {
        width = ch.width;
        few = (let f = p.few in let c = ch.count in omega (arith, f, c));
        home = λ b i lb li e. ⊎_elim
            (λ (h : i ≡ k). subst (λ (j : ℕ). (y : S) × (get_elem? hs j ≡ some (some y)) × Is b j y) (sym h) (ch.home b lb (ap (bit ws b) (sym h) ∙ e)))
            (λ (n : i ≢ k). let old = p.home b i lb (lt i li) (sym (ch.bits b i lb (lt i li) n) ∙ e) in (old.0, ch.homes i n ∙ old.1, old.2))
            (same_or i k);
        apart = λ b c i lb lc li e f. ⊎_elim
            (λ (h : i ≡ k). ch.apart b c lb lc (ap (bit ws b) (sym h) ∙ e) (ap (bit ws c) (sym h) ∙ f))
            (λ (n : i ≢ k). p.apart b c i lb lc (lt i li) (sym (ch.bits b i lb (lt i li) n) ∙ e) (sym (ch.bits c i lc (lt i li) n) ∙ f))
            (same_or i k);
        somewhere = λ i li. ⊎_elim
            (λ (h : i ≡ k). ⊎_elim
            (λ (x : (b : ℕ) × (b < 3) × (bit ws b k ≡ 1)). inl (x.0, x.1, ap (bit ws x.0) h ∙ x.2))
            (λ (o : w.held ≡ Some k). inr (id, w, set_here s.views id w (within_of s.views v id ch.at), o ∙ ap (λ (j : ℕ). Some j) (sym h)))
            ch.somewhere)
            (λ (n : i ≢ k). ⊎_elim
            (λ (x : (b : ℕ) × (b < 3) × (bit s.words b i ≡ 1)). inl (x.0, x.1, ch.bits x.0 i x.1 (lt i li) n ∙ x.2))
            (λ (x : (j : ℕ) × (u : SeatView) × (get_elem? s.views j ≡ some u) × (u.held ≡ Some i)).
            let other : x.0 ≢ id = λ e. n (ch.had i (ap (λ (u : SeatView). u.held) (some-injective v x.1 (sym ch.at ∙ ap (get_elem? s.views) (sym e) ∙ x.2))
            ∙ x.3)) in
            inr (x.0, x.1, set_else s.views id x.0 w other ∙ x.2, x.3))
            (p.somewhere i (lt i li)))
            (same_or i k);
        away = λ j i u e o. ⊎_elim
            (λ (x : (j ≡ id) × (w ≡ u)).
            let h = ch.has i (ap (λ (u : SeatView). u.held) x.1 ∙ o) in
            (lt' i (let z = h.0 in let l = ch.within in omega (arith, z, l)), λ b lb. ap (bit ws b) h.0 ∙ h.1 b lb))
            (λ (x : (j ≢ id) × (get_elem? s.views j ≡ some u)).
            let old = p.away j i u x.1 o in
            let n : i ≢ k = λ h. ch.others j u x.0 x.1 (o ∙ ap (λ (j : ℕ). Some j) h) in
            (lt' i old.0, λ b lb. ch.bits b i lb old.0 n ∙ old.1 b lb))
            (known j u e);
        sole = λ j m i u z e f o q. ⊎_elim
            (λ (x : (j ≡ id) × (w ≡ u)). ⊎_elim
            (λ (t : (m ≡ id) × (w ≡ z)). x.0 ∙ sym t.0)
            (λ (t : (m ≢ id) × (get_elem? s.views m ≡ some z)). absurd
            (ch.others m z t.0 t.1 (q ∙ ap (λ (j : ℕ). Some j) (ch.has i (ap (λ (u : SeatView). u.held) x.1 ∙ o)).0)))
            (known m z f))
            (λ (x : (j ≢ id) × (get_elem? s.views j ≡ some u)). ⊎_elim
            (λ (t : (m ≡ id) × (w ≡ z)). absurd (ch.others j u x.0 x.1 (o ∙ ap (λ (j : ℕ). Some j) (ch.has i (ap (λ (u : SeatView). u.held) t.1 ∙ q)).0)))
            (λ (t : (m ≢ id) × (get_elem? s.views m ≡ some z)). p.sole j m i u z x.1 t.1 o q)
            (known m z f))
            (known j u e);
        parts = (let t = total_set s.views id v w ch.at in let q = p.parts in let z = ch.parts in omega (arith, t, q, z));
        over = λ j u e is. over_grows (length s.homes) (length hs) s.words ws ch.count ch.grows (⊎_elim
            (λ (x : (j ≡ id) × (w ≡ u)). p.over id v ch.at (sym ch.flag ∙ ap (λ (u : SeatView). u.over) x.1 ∙ is))
            (λ (x : (j ≢ id) × (get_elem? s.views j ≡ some u)). p.over j u x.1 is)
            (known j u e));
        idle = λ j u e none. ⊎_elim
            (λ (x : (j ≡ id) × (w ≡ u)). absurd (let a = ap (λ (u : SeatView). u.parts) x.1 in let z = ch.parts in let b = ch.some_part in
            omega (arith, a, z, b, none)))
            (λ (x : (j ≢ id) × (get_elem? s.views j ≡ some u)). p.idle j u x.1 none)
            (known j u e);
      }

  -- words whose bits stay, and views of which those that hold something stay
  revised : (s : State S SeatView) (ws : List ℕ) (vs : List SeatView) → Pooled Is s → length ws ≡ width
      → ((b i : ℕ) → b < 3 → i < length s.homes → bit ws b i ≡ bit s.words b i)
      → ((j i : ℕ) (u : SeatView) → get_elem? vs j ≡ some u → u.held ≡ Some i → get_elem? s.views j ≡ some u)
      → ((j i : ℕ) (u : SeatView) → get_elem? s.views j ≡ some u → u.held ≡ Some i → get_elem? vs j ≡ some u)
      → total vs ≡ all_parts → ((j : ℕ) (u : SeatView) → get_elem? vs j ≡ some u → u.over ≡ true → IsOver (length s.homes) s.words)
      → ((j : ℕ) (u : SeatView) → get_elem? vs j ≡ some u → u.parts ≡ 0 → u.held ≡ None)
      → Pooled Is record { words = ws; homes = s.homes; views = vs }
  revised s ws vs p width bits old new all over idle =
      record {
        width = width;
        few = p.few;
        home = λ b i lb li e. p.home b i lb li (sym (bits b i lb li) ∙ e);
        apart = λ b c i lb lc li e f. p.apart b c i lb lc li (sym (bits b i lb li) ∙ e) (sym (bits c i lc li) ∙ f);
        somewhere = λ i li. ⊎_elim
            (λ (x : (b : ℕ) × (b < 3) × (bit s.words b i ≡ 1)). inl (x.0, x.1, bits x.0 i x.1 li ∙ x.2))
            (λ (x : (j : ℕ) × (u : SeatView) × (get_elem? s.views j ≡ some u) × (u.held ≡ Some i)). inr (x.0, x.1, new x.0 i x.1 x.2 x.3, x.3))
            (p.somewhere i li);
        away = λ j i u e o. let w = p.away j i u (old j i u e o) o in (w.0, λ b lb. bits b i lb w.0 ∙ w.1 b lb);
        sole = λ j m i u z e f o q. p.sole j m i u z (old j i u e o) (old m i z f q) o q;
        parts = all;
        over = λ j u e is. over_grows (length s.homes) (length s.homes) s.words ws refl (λ b i lb d li one. bits b i lb li ∙ one) (over j u e is);
        idle = idle;
      }

  pub splits : (id p : ℕ) (f : Bool) → 1 < p → Splits (Pooled Is) id (seat_view p None f) (seat_view (p - 1) None f) (seat_view 1 None false)
  splits id p f more s pool at =
      let l : SeatView = seat_view (p - 1) None f in
      let r : SeatView = seat_view 1 None false in
      let vs : List SeatView = slice_set s.views id l ++ r ∷ [] in
      let before : (j : ℕ) (u : SeatView) → get_elem? vs j ≡ some u → (u.held ≡ None) ⊎ (get_elem? s.views j ≡ some u) = λ j u e. ⊎_elim
      (λ (x : get_elem? (slice_set s.views id l) j ≡ some u). ⊎_elim
      (λ (y : (j ≡ id) × (l ≡ u)). inl (ap (λ (h : SeatView). h.held) (sym y.1)))
      (λ (y : (j ≢ id) × (get_elem? s.views j ≡ some u)). inr y.1)
      (at_set s.views id j l u x))
      (λ (x : r ≡ u). inl (ap (λ (h : SeatView). h.held) (sym x)))
      (at_snoc (slice_set s.views id l) r u j e) in
      revised s s.words vs pool pool.width (λ b i lb li. refl)
      (λ j i u e o. ⊎_elim (λ (x : u.held ≡ None). absurd (nobody i (sym x ∙ o))) (λ (x : get_elem? s.views j ≡ some u). x) (before j u e))
      (λ j i u e o. let other : j ≢ id = λ h. nobody i (ap (λ (u : SeatView). u.held)
      (some-injective (seat_view p None f) u (sym at ∙ ap (get_elem? s.views) (sym h) ∙ e)) ∙ o) in
      at_longer (slice_set s.views id l) (r ∷ []) j u (set_else s.views id j l other ∙ e))
      (let t = total_set s.views id (seat_view p None f) l at in let z = total_end (slice_set s.views id l) r in let q = pool.parts in
      omega (arith, t, z, q, more))
      (λ j u e is. ⊎_elim
      (λ (x : get_elem? (slice_set s.views id l) j ≡ some u). ⊎_elim
      (λ (y : (j ≡ id) × (l ≡ u)). pool.over id (seat_view p None f) at (ap (λ (h : SeatView). h.over) y.1 ∙ is))
      (λ (y : (j ≢ id) × (get_elem? s.views j ≡ some u)). pool.over j u y.1 is)
      (at_set s.views id j l u x))
      (λ (x : r ≡ u). absurd (cc (ap (λ (h : SeatView). h.over) x, is)))
      (at_snoc (slice_set s.views id l) r u j e))
      (λ j u e none. ⊎_elim (λ (x : u.held ≡ None). x) (λ (x : get_elem? s.views j ≡ some u). pool.idle j u x none) (before j u e))

  pub joins : (id p other q : ℕ) (f e' : Bool) → Joins (Pooled Is) id (seat_view p None f) other (seat_view q None e') (seat_view (p + q) None (f || e'))
      (seat_view 0 None false)
  joins id p other q f e' s pool at apart there =
      let v : SeatView = seat_view p None f in
      let w : SeatView = seat_view q None e' in
      let both : SeatView = seat_view (p + q) None (f || e') in
      let spent : SeatView = seat_view 0 None false in
      let mid : List SeatView = slice_set s.views id both in
      let vs : List SeatView = slice_set mid other spent in
      let was : get_elem? s.views other ≡ some w = ⊎_elim (λ (x : (other ≡ id) × (both ≡ w)). absurd (apart x.0))
      (λ (x : (other ≢ id) × (get_elem? s.views other ≡ some w)). x.1) (at_set s.views id other both w there) in
      let before : (j : ℕ) (u : SeatView) → get_elem? vs j ≡ some u → (u.held ≡ None) ⊎ (get_elem? s.views j ≡ some u) = λ j u e. ⊎_elim
      (λ (x : (j ≡ other) × (spent ≡ u)). inl (ap (λ (h : SeatView). h.held) (sym x.1)))
      (λ (x : (j ≢ other) × (get_elem? mid j ≡ some u)). ⊎_elim
      (λ (y : (j ≡ id) × (both ≡ u)). inl (ap (λ (h : SeatView). h.held) (sym y.1)))
      (λ (y : (j ≢ id) × (get_elem? s.views j ≡ some u)). inr y.1)
      (at_set s.views id j both u x.1))
      (at_set mid other j spent u e) in
      revised s s.words vs pool pool.width (λ b i lb li. refl)
      (λ j i u e o. ⊎_elim (λ (x : u.held ≡ None). absurd (nobody i (sym x ∙ o))) (λ (x : get_elem? s.views j ≡ some u). x) (before j u e))
      (λ j i u e o.
      let one : j ≢ id = λ h. nobody i (ap (λ (u : SeatView). u.held) (some-injective v u (sym at ∙ ap (get_elem? s.views) (sym h) ∙ e)) ∙ o) in
      let two : j ≢ other = λ h. nobody i (ap (λ (u : SeatView). u.held) (some-injective w u (sym was ∙ ap (get_elem? s.views) (sym h) ∙ e)) ∙ o) in
      set_else mid other j spent two ∙ set_else s.views id j both one ∙ e)
      (let t = total_set s.views id v both at in let z = total_set mid other w spent there in let k = pool.parts in omega (arith, t, z, k))
      (λ j u e is. ⊎_elim
      (λ (x : (j ≡ other) × (spent ≡ u)). absurd (cc (ap (λ (h : SeatView). h.over) x.1, is)))
      (λ (x : (j ≢ other) × (get_elem? mid j ≡ some u)). ⊎_elim
      (λ (y : (j ≡ id) × (both ≡ u)). ⊎_elim (λ (o : f ≡ true). pool.over id v at o) (λ (o : e' ≡ true). pool.over other w was o)
      (either_true f e' (ap (λ (h : SeatView). h.over) y.1 ∙ is)))
      (λ (y : (j ≢ id) × (get_elem? s.views j ≡ some u)). pool.over j u y.1 is)
      (at_set s.views id j both u x.1))
      (at_set mid other j spent u e))
      (λ j u e none. ⊎_elim (λ (x : u.held ≡ None). x) (λ (x : get_elem? s.views j ≡ some u). pool.idle j u x none) (before j u e))

  pub took : (n id p k : ℕ) (f : Bool) → 0 < p → k < n → Allows (Pooled Is) n id (seat_view p None f, []) 0 (λ x. bit_and x (all_but k))
      (Took Is (step n 0 (all_but k) 0 none) (seat_view p None f, []))
  took n id p k f some_part inside s pool count at fits =
      let li : k < length s.homes = omega (arith, count, inside) in
      let small : k < 64 = (let f = pool.few in omega (arith, li, f)) in
      let x : ℕ = slice_index s.words 0 in
      let new : ℕ = bit_and x (all_but k) in
      let ws : List ℕ = slice_set s.words 0 new in
      let zeroth : slice_index ws 0 ≡ new = get_or-set_same s.words 0 new 0 (let w = pool.width in omega (arith, w)) in
      let off : bit ws 0 k ≡ 0 = ap (λ (m : ℕ). bit_at m k) zeroth ∙ bit_at_clear_same w64 x k small in
      let rest : (b i : ℕ) → b ≢ 0 → bit ws b i ≡ bit s.words b i = λ b i d. ap (λ (m : ℕ). bit_at m i)
      (get_or-set_other s.words 0 (16 * b) new 0 (λ h. d (omega (arith, h)))) in
      let bits : (b i : ℕ) → b < 3 → i < length s.homes → i ≢ k → bit ws b i ≡ bit s.words b i = λ b i lb lj n. ⊎_elim
      (λ (z : b ≡ 0). ap (λ (c : ℕ). bit ws c i) z ∙ ap (λ (m : ℕ). bit_at m i) zeroth
      ∙ bit_at_clear_other w64 x k small i (let f = pool.few in omega (arith, lj, f)) n ∙ ap (λ (c : ℕ). bit s.words c i) (sym z))
      (λ (d : b ≢ 0). rest b i d)
      (same_or b 0) in
      ⊎_elim
      (λ (zero_bit : bit s.words 0 k ≡ 0). (
        seat_view p None f,
        keeps,
        tt,
        revised s ws (slice_set s.views id (seat_view p None f)) pool (length-set s.words 0 new ∙ pool.width)
            (λ b i lb lj. ⊎_elim
            (λ (h : i ≡ k). ⊎_elim
            (λ (z : b ≡ 0). ap (λ (c : ℕ). bit ws c i) z ∙ ap (bit ws 0) h ∙ off ∙ sym zero_bit ∙ ap (bit s.words 0) (sym h)
            ∙ ap (λ (c : ℕ). bit s.words c i) (sym z))
            (λ (d : b ≢ 0). rest b i d)
            (same_or b 0))
            (λ (d : i ≢ k). bits b i lb lj d)
            (same_or i k))
            (λ j i u e o. ap (λ (l : List SeatView). get_elem? l j) (sym (set_again s.views id (seat_view p None f) at)) ∙ e)
            (λ j i u e o. ap (λ (l : List SeatView). get_elem? l j) (set_again s.views id (seat_view p None f) at) ∙ e)
            (ap total (set_again s.views id (seat_view p None f) at) ∙ pool.parts)
            (λ j u e. pool.over j u (ap (λ (l : List SeatView). get_elem? l j) (sym (set_again s.views id (seat_view p None f) at)) ∙ e))
            (λ j u e. pool.idle j u (ap (λ (l : List SeatView). get_elem? l j) (sym (set_again s.views id (seat_view p None f) at)) ∙ e)),
        λ j lj e. let same = all_but_same j k lj small e in ((λ one. absurd (let a = ap (bit_at x) same in omega (arith, a, one, zero_bit))), λ _. refl),
      ))
      (λ (one_bit : bit s.words 0 k ≡ 1).
      let y = pool.home 0 k (omega arith) li one_bit in
      let w : SeatView = seat_view p (Some k) f in
      let clear : (b : ℕ) → b < 3 → bit ws b k ≡ 0 = λ b lb. ⊎_elim
      (λ (z : b ≡ 0). ap (λ (c : ℕ). bit ws c k) z ∙ off)
      (λ (d : b ≢ 0). rest b k d ∙ ⊎_elim (λ (z : bit s.words b k ≡ 0). z)
      (λ (o : bit s.words b k ≡ 1). absurd (d (pool.apart b 0 k lb (omega arith) li o one_bit))) (none_or_one (slice_index s.words (16 * b)) k))
      (same_or b 0) in (
        w,
        takes k y.0,
        y.1,
        changed s id k (seat_view p None f) w ws (slice_set s.homes k none) pool
            record {
              at = at;
              within = li;
              width = length-set s.words 0 new ∙ pool.width;
              count = length-set s.homes k none;
              bits = bits;
              homes = λ i d. set_else s.homes k i none d;
              home = λ b lb e. absurd (let z = clear b lb in omega (arith, z, e));
              apart = λ b c lb lc e f. absurd (let z = clear b lb in omega (arith, z, e));
              somewhere = inr refl;
              had = λ i e. absurd (nobody i e);
              has = λ i e. (sym (out_same k i e), clear);
              others = λ j u d e o. let z = (pool.away j k u e o).1 0 (omega arith) in absurd (omega (arith, z, one_bit));
              parts = refl;
              some_part = some_part;
              flag = refl;
              grows = λ b i lb d li one. rest b i d ∙ one;
            },
        λ j lj e. let same = all_but_same j k lj small e in (
          (λ one. (y.0, subst (λ (m : ℕ). Is 0 m y.0) (sym same) y.2, λ t. (seat_view p (Some (sym same t)) f, (sym same t, y.0) ∷ []))),
          λ zero_bit. absurd (let a = ap (bit_at x) same in omega (arith, a, one_bit, zero_bit)),
        ),
      ))
      (none_or_one x k)

  pub gave : (n id p k b : ℕ) (f : Bool) (y : S) → 0 < p → b < 3 → Is b k y
      → Allows (Pooled Is) n id (seat_view p (Some k) f, (k, y) ∷ []) (16 * b) (λ x. bit_or x (bit_of k)) (λ found after. after ≡ (seat_view p None f, []))
  gave n id p k b f y some_part lb is s pool count at fits =
      let out = pool.away id k (seat_view p (Some k) f) at refl in
      let small : k < 64 = (let f = pool.few in let l = out.0 in omega (arith, l, f)) in
      let x : ℕ = slice_index s.words (16 * b) in
      let new : ℕ = bit_or x (bit_of k) in
      let ws : List ℕ = slice_set s.words (16 * b) new in
      let here : slice_index ws (16 * b) ≡ new = get_or-set_same s.words (16 * b) new 0 (let w = pool.width in omega (arith, w, lb)) in
      let on : bit ws b k ≡ 1 = ap (λ (m : ℕ). bit_at m k) here ∙ bit_at_set_same w64 x k small in
      let rest : (c i : ℕ) → c ≢ b → bit ws c i ≡ bit s.words c i = λ c i d. ap (λ (m : ℕ). bit_at m i)
      (get_or-set_other s.words (16 * b) (16 * c) new 0 (λ h. d (omega (arith, h)))) in
      let only : (c : ℕ) → c < 3 → bit ws c k ≡ 1 → c ≡ b = λ c lc e. ⊎_elim (λ (z : c ≡ b). z)
      (λ (d : c ≢ b). absurd (let z = out.1 c lc in let r = rest c k d in omega (arith, z, r, e))) (same_or c b) in (
        seat_view p None f,
        gives,
        tt,
        changed s id k (seat_view p (Some k) f) (seat_view p None f) ws (slice_set s.homes k (some y)) pool
            record {
              at = at;
              within = out.0;
              width = length-set s.words (16 * b) new ∙ pool.width;
              count = length-set s.homes k (some y);
              bits = λ c i lc li d. ⊎_elim
                  (λ (z : c ≡ b). ap (λ (c : ℕ). bit ws c i) z ∙ ap (λ (m : ℕ). bit_at m i) here ∙ bit_at_set_other w64 x k small i d
                  ∙ ap (λ (c : ℕ). bit s.words c i) (sym z))
                  (λ (z : c ≢ b). rest c i z)
                  (same_or c b);
              homes = λ i d. set_else s.homes k i (some y) d;
              home = λ c lc e. (y, set_here s.homes k (some y) out.0, subst (λ (m : ℕ). Is m k y) (sym (only c lc e)) is);
              apart = λ c d lc ld e f. only c lc e ∙ sym (only d ld f);
              somewhere = inl (b, lb, on);
              had = λ i e. sym (out_same k i e);
              has = λ i e. absurd (nobody i e);
              others = λ j u d e o. d (pool.sole j id k u (seat_view p (Some k) f) e at o refl);
              parts = refl;
              some_part = some_part;
              flag = refl;
              grows = λ c i lc d li one. ⊎_elim
                  (λ (z : c ≡ b). ⊎_elim
                  (λ (h : i ≡ k). ap (λ (c : ℕ). bit ws c i) z ∙ ap (bit ws b) h ∙ on)
                  (λ (h : i ≢ k). ap (λ (c : ℕ). bit ws c i) z ∙ ap (λ (m : ℕ). bit_at m i) here ∙ bit_at_set_other w64 x k small i h
                  ∙ ap (λ (c : ℕ). bit s.words c i) (sym z) ∙ one)
                  (same_or i k))
                  (λ (z : c ≢ b). rest c i z ∙ one)
                  (same_or c b);
            },
        refl,
      )

  -- a word that stands for no slot becomes anything
  pub noted : (n id : ℕ) (v : SeatView) (f : ℕ → ℕ) → Allows (Pooled Is) n id (v, []) 48 f (λ found after. after ≡ (v, []))
  noted n id v f s pool count at fits = (
    v,
    keeps,
    tt,
    revised s (slice_set s.words 48 (f (slice_index s.words 48))) (slice_set s.views id v) pool
        (length-set s.words 48 (f (slice_index s.words 48)) ∙ pool.width)
        (λ b i lb li. ap (λ (m : ℕ). bit_at m i) (get_or-set_other s.words 48 (16 * b) (f (slice_index s.words 48)) 0 (λ h. absurd (omega (arith, lb, h)))))
        (λ j i u e o. ap (λ (l : List SeatView). get_elem? l j) (sym (set_again s.views id v at)) ∙ e)
        (λ j i u e o. ap (λ (l : List SeatView). get_elem? l j) (set_again s.views id v at) ∙ e)
        (ap total (set_again s.views id v at) ∙ pool.parts)
        (λ j u e. pool.over j u (ap (λ (l : List SeatView). get_elem? l j) (sym (set_again s.views id v at)) ∙ e))
        (λ j u e. pool.idle j u (ap (λ (l : List SeatView). get_elem? l j) (sym (set_again s.views id v at)) ∙ e)),
    refl,
  )

  seen : (s : State S SeatView) (id p b : ℕ) (f : Bool) → Pooled Is s → get_elem? s.views id ≡ some (seat_view p None f) → IsOver (length s.homes) s.words
      → Pooled Is record { words = slice_set s.words b (slice_index s.words b); homes = s.homes; views = slice_set s.views id (seat_view p None true) }
  seen s id p b f pool at ended =
      let v : SeatView = seat_view p None f in
      let w : SeatView = seat_view p None true in
      let same : slice_set s.words b (slice_index s.words b) ≡ s.words = set-get_or s.words b 0 in
      let before : (j : ℕ) (u : SeatView) → get_elem? (slice_set s.views id w) j ≡ some u → (u.held ≡ None) ⊎ (get_elem? s.views j ≡ some u) = λ j u e. ⊎_elim
      (λ (x : (j ≡ id) × (w ≡ u)). inl (ap (λ (h : SeatView). h.held) (sym x.1)))
      (λ (x : (j ≢ id) × (get_elem? s.views j ≡ some u)). inr x.1)
      (at_set s.views id j w u e) in
      revised s (slice_set s.words b (slice_index s.words b)) (slice_set s.views id w) pool (ap length same ∙ pool.width)
      (λ c i lc li. ap (λ (l : List ℕ). bit l c i) same)
      (λ j i u e o. ⊎_elim (λ (x : u.held ≡ None). absurd (nobody i (sym x ∙ o))) (λ (x : get_elem? s.views j ≡ some u). x) (before j u e))
      (λ j i u e o. let other : j ≢ id = λ h. nobody i (ap (λ (u : SeatView). u.held) (some-injective v u (sym at ∙ ap (get_elem? s.views) (sym h) ∙ e)) ∙ o) in
      set_else s.views id j w other ∙ e)
      (let t = total_set s.views id v w at in let q = pool.parts in omega (arith, t, q))
      (λ j u e is. ended)
      (λ j u e none. ⊎_elim (λ (x : u.held ≡ None). x) (λ (x : get_elem? s.views j ≡ some u). pool.idle j u x none) (before j u e))

  kept : (s : State S SeatView) (id b : ℕ) (v : SeatView) → Pooled Is s → get_elem? s.views id ≡ some v
      → Pooled Is record { words = slice_set s.words b (slice_index s.words b); homes = s.homes; views = slice_set s.views id v }
  kept s id b v pool at = subst (λ (z : List ℕ × List SeatView). Pooled Is record { words = z.0; homes = s.homes; views = z.1 })
      (λ i. (sym (set-get_or s.words b 0) i, sym (set_again s.views id v at) i)) pool

  pub sees_ended : (n id p : ℕ) (f : Bool) → Allows (Pooled Is) n id (seat_view p None f, []) 16 (λ x. x)
      (SawEnded (step n 16 0 0 none) (seat_view p None f, []))
  sees_ended n id p f s pool count at fits = ⊎_elim
      (λ (e : slice_index s.words 16 ≡ 2 ^ n - 1). (
        seat_view p None true,
        keeps,
        tt,
        seen s id p 16 f pool at (inl (λ i li. ap (λ (m : ℕ). bit_at m i) e ∙ bit_at_ones n i (omega (arith, li, count)))),
        ((λ _. refl), λ d. absurd (d e)),
      ))
      (λ (d : slice_index s.words 16 ≢ 2 ^ n - 1). (seat_view p None f, keeps, tt, kept s id 16 (seat_view p None f) pool at, ((λ e. absurd (d e)), λ _. refl)))
      (same_or (slice_index s.words 16) (2 ^ n - 1))

  pub sees_stopped : (n id p : ℕ) (f : Bool) → Allows (Pooled Is) n id (seat_view p None f, []) 32 (λ x. x)
      (SawStopped (step n 32 0 0 none) (seat_view p None f, []))
  sees_stopped n id p f s pool count at fits =
      let x : ℕ = slice_index s.words 32 in
      let m : ℕ = bit_and x (2 ^ n - 1) in
      ⊎_elim
      (λ (e : m ≡ 0). (seat_view p None f, keeps, tt, kept s id 32 (seat_view p None f) pool at, ((λ lt. absurd (omega (arith, e, lt))), λ _. refl)))
      (λ (d : m ≢ 0).
      let some_bit = bit_at-trailing_zeros w64 m (omega (arith, d)) (let l = and_le_l x (2 ^ n - 1) in omega (arith, l, fits)) in
      let k : ℕ = trailing_zeros w64 m in
      let both : min (bit_at x k) (bit_at (2 ^ n - 1) k) ≡ 1 = sym (bit_at_and x (2 ^ n - 1) k) ∙ some_bit.1 in
      let low : k < length s.homes = ⊎_elim (λ (y : k < n). (omega (arith, y, count)))
      (λ (y : n ≤ k). absurd (let o = bit_at_ones_above n k y in omega (arith, o, both))) (below_or k n) in
      let on : bit_at x k ≡ 1 = (let y = bit_at-lt x k in omega (arith, both, y)) in (
        seat_view p None true,
        keeps,
        tt,
        seen s id p 32 f pool at (inr (k, low, on)),
        ((λ _. refl), λ e. absurd (d e)),
      ))
      (same_or m 0)

  -- where one seat has all parts and holds nothing, all are at home
  pub all_home : (s : State S SeatView) (id : ℕ) (f : Bool) → Pooled Is s → get_elem? s.views id ≡ some (seat_view all_parts None f)
      → (i : ℕ) → i < length s.homes → (b : ℕ) × (y : S) × (b < 3) × (get_elem? s.homes i ≡ some (some y)) × Is b i y
  all_home s id f pool at i li = ⊎_elim
      (λ (x : (b : ℕ) × (b < 3) × (bit s.words b i ≡ 1)). let h = pool.home x.0 i x.1 li x.2 in (x.0, h.0, x.1, h.1, h.2))
      (λ (x : (j : ℕ) × (u : SeatView) × (get_elem? s.views j ≡ some u) × (u.held ≡ Some i)). ⊎_elim
      (λ (e : x.0 ≡ id). absurd (nobody i (ap (λ (u : SeatView). u.held)
      (some-injective (seat_view all_parts None f) x.1 (sym at ∙ ap (get_elem? s.views) (sym e) ∙ x.2)) ∙ x.3)))
      (λ (n : x.0 ≢ id).
      let two = total_two s.views id x.0 (seat_view all_parts None f) x.1 at x.2 n in
      let none = pool.idle x.0 x.1 x.2 (let q = pool.parts in omega (arith, two, q)) in
      absurd (nobody i (sym none ∙ x.3)))
      (same_or x.0 id))
      (pool.somewhere i li)

  abbrev AllReady : List S → Type 0
  AllReady xs = (i : ℕ) (y : S) → slice_get xs i ≡ Some y → Is 0 i y

  pub opens : (xs : List S) → length xs < 33 → AllReady xs → Pooled Is
      (opening (slice_set (replicate width 0) 0 (1 * 2 ^ length xs % 2 ^ 64 - 1)) xs (seat_view all_parts None false))
  opens xs few all =
      let n : ℕ = length xs in
      let one : 1 * 2 ^ n % 2 ^ 64 ≡ 2 ^ n = one_bit n (omega (arith, few)) in
      let ready : ℕ = 1 * 2 ^ n % 2 ^ 64 - 1 in
      let ws : List ℕ = slice_set (replicate width 0) 0 ready in
      let len : length (map some xs) ≡ n = length-map xs some in
      let on : (i : ℕ) → i < n → bit_at ready i ≡ 1 = λ i li. ap (λ (m : ℕ). bit_at (m - 1) i) one ∙ bit_at_ones n i li in
      let off : (b i : ℕ) → b < 3 → b ≢ 0 → bit ws b i ≡ 0 = λ b i lb d. noughts b lb d ready i in
      let zero_of : (b i : ℕ) → b < 3 → bit ws b i ≡ 1 → b ≡ 0 = λ b i lb e. ⊎_elim (λ (z : b ≡ 0). z)
      (λ (d : b ≢ 0). absurd (let o = off b i lb d in omega (arith, o, e))) (same_or b 0) in
      let alone : (j : ℕ) (u : SeatView) → get_elem? (seat_view all_parts None false ∷ []) j ≡ some u
      → u ≡ seat_view all_parts None false = λ j u e. only_one j u e in
      record {
        width = refl;
        few = omega (arith, len, few);
        home = λ b i lb li e.
            let at = there xs i (omega (arith, li, len)) in
            (at.0, at.2, subst (λ (c : ℕ). Is c i at.0) (sym (zero_of b i lb e)) (all i at.0 at.1));
        apart = λ b c i lb lc li e f. zero_of b i lb e ∙ sym (zero_of c i lc f);
        somewhere = λ i li. inl (0, omega arith, on i (omega (arith, li, len)));
        away = λ j i u e o. absurd (nobody i (ap (λ (u : SeatView). u.held) (sym (alone j u e)) ∙ o));
        sole = λ j m i u z e f o q. absurd (nobody i (ap (λ (u : SeatView). u.held) (sym (alone j u e)) ∙ o));
        parts = refl;
        over = λ j u e is. absurd (cc (ap (λ (h : SeatView). h.over) (alone j u e), is));
        idle = λ j u e none. ap (λ (u : SeatView). u.held) (alone j u e);
      }

  pub at_last : (id n : ℕ) (f : Bool) (v : SeatView) (ws : List ℕ) (xs : List S) → v ≡ seat_view all_parts None f → Final (Seen (Pooled Is) id v) ws xs
      → length xs ≡ n
      → (i : ℕ) (y : S) → slice_get xs i ≡ Some y → (b : ℕ) × (b < 3) × Is b i y
  at_last id n f v ws xs all (s, (pool, at), words, count, slots) len i y e =
      let inside = slice_get_within xs i y e in
      let h = all_home s id f pool (at ∙ ap some all) i (omega (arith, inside, count)) in
      let same : h.1 ≡ y = some-injective h.1 y (sym (slots i h.1 h.3) ∙ by_both xs i y e) in
      (h.0, h.2, subst (λ (z : S). Is h.0 i z) same h.4)

module _ {S : Type 0} (Is : ℕ → ℕ → S → Type 0) where
  -- all have ended, or one has stopped all: so it is with what lies in the slots
  pub over_at_last : (id : ℕ) (f : Bool) (v : SeatView) (ws : List ℕ) (xs : List S) → v ≡ seat_view all_parts None f → Final (Seen (Pooled Is) id v) ws xs
      → v.over ≡ true
      → ((i : ℕ) (y : S) → slice_get xs i ≡ Some y → Is 1 i y) ⊎ ((i : ℕ) × (y : S) × (slice_get xs i ≡ Some y) × Is 2 i y)
  over_at_last id f v ws xs all (s, (pool, at), words, count, slots) is =
      let lies : (b i : ℕ) (y : S) → b < 3 → i < length s.homes → bit s.words b i ≡ 1 → slice_get xs i ≡ Some y → Is b i y = λ b i y lb li one e.
      let h = pool.home b i lb li one in
      subst (λ (z : S). Is b i z) (some-injective h.0 y (sym (slots i h.0 h.1) ∙ by_both xs i y e)) h.2 in
      ⊎_elim
      (λ (x : (i : ℕ) → i < length s.homes → bit s.words 1 i ≡ 1). inl (λ i y e.
      let inside : i < length s.homes = (let l = slice_get_within xs i y e in omega (arith, l, count)) in
      lies 1 i y (omega arith) inside (x i inside) e))
      (λ (x : (i : ℕ) × (i < length s.homes) × (bit s.words 2 i ≡ 1)).
      let y = there xs x.0 (let l = x.1 in omega (arith, l, count)) in
      inr (x.0, y.0, y.1, lies 2 x.0 y.0 (omega arith) x.1 x.2 y.1))
      (pool.over id v at is)

at_place : {A : Type 0} (xs : List A) (i : ℕ) (x d : A) → get_elem? xs i ≡ some x → (i < length xs) × (get_or xs i d ≡ x)
at_place [] i x d e = absurd (some-ne-none x (sym e))
at_place (y ∷ ys) zero x d e = (omega arith, some-injective y x e)
at_place (y ∷ ys) (suc i) x d e = let h = at_place ys i x d e in (omega (arith, h.0), h.1)

pub copies : {A : Type 0} (xs copy : List A) (i : ℕ) (x : A) → get_elem? xs i ≡ some x → copy ≡ take i xs → copy ++ x ∷ [] ≡ take (i + 1) xs
copies xs copy i x e c = let h = at_place xs i x x e in (λ j. c j ++ sym h.1 j ∷ []) ∙ sym (take_more xs i x h.0)

pub emptied : (fs gs : List Bool) (i : ℕ) → i < length fs → gs ≡ slice_set fs i false → ((k : ℕ) → k < i → slice_index_or fs k false ≡ false) → (k : ℕ)
    → k < i + 1 → slice_index_or gs k false ≡ false
emptied fs gs i li e before k lt = ⊎_elim
    (λ (h : k ≡ i). ap (λ (l : List Bool). get_or l k false) e ∙ ap (λ (m : ℕ). get_or (slice_set fs i false) m false) h ∙ get_or-set_same fs i false false li)
    (λ (n : k ≢ i). ap (λ (l : List Bool). get_or l k false) e ∙ get_or-set_other fs i k false false n ∙ before k (omega (arith, lt, n)))
    (same_or k i)

pub still_full : (fs gs : List Bool) (i n : ℕ) → gs ≡ slice_set fs i false → ((k : ℕ) → i ≤ k → k < n → slice_index_or fs k false ≡ true) → (k : ℕ)
    → i + 1 ≤ k → k < n → slice_index_or gs k false ≡ true
still_full fs gs i n e before k low lt = ap (λ (l : List Bool). get_or l k false) e
    ∙ get_or-set_other fs i k false false (λ h. absurd (omega (arith, low, h))) ∙ before k (omega (arith, low)) lt

module _ {S : Type 0} (Is : ℕ → ℕ → S → Type 0) where
  pub noted_as : (n id : ℕ) (me : Me S SeatView) (f : ℕ → ℕ) → me.1 ≡ [] → Allows (Pooled Is) n id me 48 f (λ found after. after ≡ me)
  noted_as n id me f e = subst (λ (l : List (ℕ × S)). Allows (Pooled Is) n id (me.0, l) 48 f (λ found after. after ≡ (me.0, l))) (sym e) (noted Is n id me.0 f)
