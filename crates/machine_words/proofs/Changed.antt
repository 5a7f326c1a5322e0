-- Which object the words of objects go on with.
use Rattle.std.proofs.Common.{◌≡◌, ℕ, zero, suc, ◌+◌, ◌<◌, ◌≤◌, Bool, true, false, List, [], ◌∷◌, ◌++◌, if◌then◌else◌, length, drop, slice_get, Some}
use Rattle.std.proofs.Common.{refl, sym, ap, ◌∙◌, subst, arith}
use Rattle.std.proofs.lemmas.List.{drop-drop}
use Rattle.std.proofs.lemmas.Option.{none-some}
use Rattle.plain_monitor.specs.Objects.{PlainObject}
use Rattle.machine_words.specs.ObjectWords.{is_new, object_words, objects_words, after_one}
use Rattle.machine_words.specs.inner.Telling.{HasWord, TellsObject}

abbrev first_of : ℕ → List ℕ → ℕ
first_of d [] = d
first_of d (w ∷ ws) = w

abbrev rest_of : List ℕ → List ℕ
rest_of [] = []
rest_of (w ∷ ws) = ws

-- among objects of which the first has number k
pub record IsNext (k : ℕ) (xs : List PlainObject) (w : ℕ) (ws : List ℕ) : Type 0 where
  pub place : ℕ
  pub object : PlainObject
  pub is : w ≡ k + place
  pub at : slice_get xs place ≡ Some object
  pub rest : ws ≡ object_words object ++ objects_words (w + 1) (drop (place + 1) xs)

next_of : (k : ℕ) (xs : List PlainObject) (w : ℕ) (ws : List ℕ) → objects_words k xs ≡ w ∷ ws → IsNext k xs w ws
next_of k [] w ws is = absurd (nothing is)
  where
    nothing : {A : Type 0} → [] ≡ w ∷ ws → A
    nothing e = absurd (omega (arith, ap length e))
next_of k (x ∷ xs) w ws is = go (is_new x) refl (λ e. next_of (k + 1) xs w ws e)
  where
    go : (b : Bool) → is_new x ≡ b → (objects_words (k + 1) xs ≡ w ∷ ws → IsNext (k + 1) xs w ws) → IsNext k (x ∷ xs) w ws
    go true e later =
        let n = later (sym (ap (λ (b : Bool). (if b then [] else k ∷ object_words x) ++ objects_words (k + 1) xs) e) ∙ is) in
        let moved : suc (n.place + 1) ≡ suc n.place + 1 = omega arith in
        let past : drop (n.place + 1) xs ≡ drop (suc n.place + 1) (x ∷ xs) = ap (λ (j : ℕ). drop j (x ∷ xs)) moved in
        record {
          place = suc n.place;
          object = n.object;
          is = omega (arith, n.is);
          at = n.at;
          rest = n.rest ∙ ap (λ (ys : List PlainObject). object_words n.object ++ objects_words (w + 1) ys) past;
        }
    go false e later =
        let all : k ∷ (object_words x ++ objects_words (k + 1) xs) ≡ w ∷ ws =
        sym (ap (λ (b : Bool). (if b then [] else k ∷ object_words x) ++ objects_words (k + 1) xs) e) ∙ is in
        let first : k ≡ w = ap (first_of 0) all in
        record {
          place = 0;
          object = x;
          is = omega (arith, first);
          at = refl;
          rest = sym (ap rest_of all) ∙ ap (λ (j : ℕ). object_words x ++ objects_words (j + 1) xs) first;
        }

got_dropped : {X : Type 0} (k j : ℕ) (xs : List X) (x : X) → slice_get (drop k xs) j ≡ Some x → slice_get xs (k + j) ≡ Some x
got_dropped zero j xs x at = let same : j ≡ 0 + j = omega arith in subst (λ (n : ℕ). slice_get xs n ≡ Some x) same at
got_dropped (suc k) j [] x at = absurd (none-some x at)
got_dropped (suc k) j (y ∷ xs) x at =
    let moved : suc (k + j) ≡ suc k + j = omega arith in
    subst (λ (n : ℕ). slice_get (y ∷ xs) n ≡ Some x) moved (got_dropped k j xs x at)

-- of the objects that are left
pub record GoesOnWith (k : ℕ) (xs : List PlainObject) (w : ℕ) (ws : List ℕ) : Type 0 where
  pub object : PlainObject
  pub from : k ≤ w
  pub at : slice_get xs w ≡ Some object
  pub rest : ws ≡ object_words object ++ objects_words (w + 1) (drop (w + 1) xs)

pub goes_on_with : (k : ℕ) (xs : List PlainObject) (w : ℕ) (ws : List ℕ) → objects_words k (drop k xs) ≡ w ∷ ws → GoesOnWith k xs w ws
goes_on_with k xs w ws is =
    let n = next_of k (drop k xs) w ws is in
    let moved : n.place + 1 + k ≡ w + 1 = omega (arith, n.is) in
    record {
      object = n.object;
      from = omega (arith, n.is);
      at = subst (λ (j : ℕ). slice_get xs j ≡ Some n.object) (sym n.is) (got_dropped k n.place xs n.object n.at);
      rest = n.rest
          ∙ ap (λ (ys : List PlainObject). object_words n.object ++ objects_words (w + 1) ys)
          (drop-drop (n.place + 1) k xs ∙ ap (λ (j : ℕ). drop j xs) (sum_is k (n.place + 1) ∙ moved));
    }
  where
    sum_is : (a b : ℕ) → a + b ≡ b + a
    sum_is a b = omega arith

pub got_within : {X : Type 0} (xs : List X) (k : ℕ) (x : X) → slice_get xs k ≡ Some x → k < length xs
got_within [] k x at = absurd (none-some x at)
got_within (y ∷ xs) zero x at = omega arith
got_within (y ∷ xs) (suc k) x at = omega (arith, got_within xs k x at)

-- what the words tell of the next object tells it in the place of another
pub told_next : (old x : PlainObject) (rest after ws : List ℕ) (w : ℕ) → rest ≡ w ∷ after → after ≡ object_words x ++ ws
    → length x.slots ≡ length old.slots → TellsObject (length x.slots) (object_words x ++ ws)
    → HasWord rest × TellsObject (length old.slots) (after_one rest)
told_next old x rest after ws w is e count told =
    let first : HasWord rest = subst HasWord (sym is) tt in
    let words : object_words x ++ ws ≡ after_one rest = sym (ap after_one is ∙ e) in (
      first,
      subst (TellsObject (length old.slots)) words (subst (λ (n : ℕ). TellsObject n (object_words x ++ ws)) count told),
    )
