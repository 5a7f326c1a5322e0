-- What is among keys where one is inserted.
use Rattle.std.proofs.Common.{◌≡◌, ◌⊎◌, inl, inr, ℕ, zero, suc, ◌+◌, Bool, true, false, ◌||◌, List, [], ◌∷◌}
use Rattle.std.proofs.Common.{◌++◌, length, map, slice_get, Some, refl, sym, ap, ◌∙◌, subst, arith}
use Rattle.std.specs.List.{list_any}
use Rattle.std.proofs.lemmas.Bool.{true≢false, false≢true}
use Rattle.std.proofs.lemmas.Option.{none-some, same_Some}
use Rattle.std.specs.Cmp.Lexicographic.{bytes_decides}
use Rattle.indexmap.specs.IndexSet.{insert_key}
use Rattle.state_search.specs.inner.Among.{same_words, is_among}
use Rattle.state_search.specs.Search.{Has}
use Rattle.state_search.specs.inner.Steps.{Keeps}

-- no key stands twice
abbrev pub AreOnce : List (List ℕ) → Type 0
AreOnce keys = (j k : ℕ) (key : List ℕ) → slice_get keys j ≡ Some key → slice_get keys k ≡ Some key → j ≡ k

last_there : (keys : List (List ℕ)) (v : List ℕ) → slice_get (keys ++ v ∷ []) (length keys) ≡ Some v
last_there [] v = refl
last_there (k ∷ keys) v = last_there keys v

pub keeps_push : (keys : List (List ℕ)) (v : List ℕ) → Keeps keys (keys ++ v ∷ [])
keeps_push [] v k x h = absurd (none-some x h)
keeps_push (y ∷ keys) v zero x h = h
keeps_push (y ∷ keys) v (suc k) x h = keeps_push keys v k x h

-- what stands in a list with one more is of the list, or it is the one
module _ {A : Type 0} where
  pub old_or_last : (items : List A) (v : A) (k : ℕ) (x : A) → slice_get (items ++ v ∷ []) k ≡ Some x
      → (slice_get items k ≡ Some x) ⊎ ((k ≡ length items) × (x ≡ v))
  old_or_last [] v zero x h = inr (refl, sym (same_Some v x h))
  old_or_last [] v (suc k) x h = absurd (none-some x h)
  old_or_last (y ∷ items) v zero x h = inl h
  old_or_last (y ∷ items) v (suc k) x h = go (old_or_last items v k x h)
    where
      go : (slice_get items k ≡ Some x) ⊎ ((k ≡ length items) × (x ≡ v)) → (slice_get items k ≡ Some x) ⊎ ((suc k ≡ suc (length items)) × (x ≡ v))
      go (inl old) = inl old
      go (inr last) = inr (ap suc last.0, last.1)

  pub length_push : (items : List A) (v : A) → length (items ++ v ∷ []) ≡ length items + 1
  length_push [] v = refl
  length_push (k ∷ items) v = omega (arith, length_push items v)

has_any : (keys : List (List ℕ)) (v : List ℕ) → is_among keys v ≡ true → Has keys v
has_any [] v h = absurd (false≢true h)
has_any (k ∷ keys) v h = go (same_words v k) refl (λ e. has_any keys v e)
  where
    go : (b : Bool) → same_words v k ≡ b → (is_among keys v ≡ true → Has keys v) → Has (k ∷ keys) v
    go true e ih = (zero, ap Some (sym ((bytes_decides v k).0 e)))
    go false e ih = let r = ih (rw e at h) in (suc r.0, r.1)

not_any : (keys : List (List ℕ)) (v : List ℕ) (k : ℕ) → is_among keys v ≡ false → slice_get keys k ≡ Some v → ⊥
not_any [] v k h at = none-some v at
not_any (y ∷ keys) v zero h at =
    let same : same_words v y ≡ true = (bytes_decides v y).1 (sym (same_Some y v at)) in
    true≢false (rw same at h)
not_any (y ∷ keys) v (suc k) h at = go (same_words v y) refl (λ e. not_any keys v k e at)
  where
    go : (b : Bool) → same_words v y ≡ b → (is_among keys v ≡ false → ⊥) → ⊥
    go true e ih = true≢false (rw e at h)
    go false e ih = ih (rw e at h)

pub record IsInserted (keys : List (List ℕ)) (v : List ℕ) (after : List (List ℕ)) : Type 0 where
  pub kept : Keeps keys after
  pub has : Has after v
  pub only : (k : ℕ) (x : List ℕ) → slice_get after k ≡ Some x → (slice_get keys k ≡ Some x) ⊎ (x ≡ v)
  pub once : AreOnce keys → AreOnce after

once_push : (keys : List (List ℕ)) (v : List ℕ) → is_among keys v ≡ false → AreOnce keys → AreOnce (keys ++ v ∷ [])
once_push keys v new once j k x one two = go (old_or_last keys v j x one) (old_or_last keys v k x two)
  where
    go : (slice_get keys j ≡ Some x) ⊎ ((j ≡ length keys) × (x ≡ v)) → (slice_get keys k ≡ Some x) ⊎ ((k ≡ length keys) × (x ≡ v)) → j ≡ k
    go (inl a) (inl b) = once j k x a b
    go (inl a) (inr b) = absurd (not_any keys v j new (subst (λ (y : List ℕ). slice_get keys j ≡ Some y) b.1 a))
    go (inr a) (inl b) = absurd (not_any keys v k new (subst (λ (y : List ℕ). slice_get keys k ≡ Some y) a.1 b))
    go (inr a) (inr b) = a.0 ∙ sym b.0

pub inserted : (keys : List (List ℕ)) (v : List ℕ) → IsInserted keys v (insert_key same_words keys v)
inserted keys v = go (is_among keys v) refl
  where
    part : (k : ℕ) (x : List ℕ) → (slice_get keys k ≡ Some x) ⊎ ((k ≡ length keys) × (x ≡ v)) → (slice_get keys k ≡ Some x) ⊎ (x ≡ v)
    part k x (inl old) = inl old
    part k x (inr last) = inr last.1

    go : (b : Bool) → is_among keys v ≡ b → IsInserted keys v (insert_key same_words keys v)
    go true e = rw e (record { kept = λ k x h. h; has = has_any keys v e; only = λ k x h. inl h; once = λ h. h })
    go false e = rw e (record {
      kept = keeps_push keys v;
      has = (length keys, last_there keys v);
      only = λ k x h. part k x (old_or_last keys v k x h);
      once = once_push keys v e;
    })

-- how many there are then
pub length_kept : (keys : List (List ℕ)) (v : List ℕ) → is_among keys v ≡ true → length (insert_key same_words keys v) ≡ length keys
length_kept keys v e = rw e refl

pub length_more : (keys : List (List ℕ)) (v : List ℕ) → is_among keys v ≡ false → length (insert_key same_words keys v) ≡ length keys + 1
length_more keys v e = rw e (length_push keys v)

-- the same of vectors, by their words
module _ {V : Type 0} (words : V → List ℕ) where
  any_mapped : (vs : List V) (v : List ℕ) → list_any (λ x. same_words v (words x)) vs ≡ is_among (map words vs) v
  any_mapped [] v = refl
  any_mapped (x ∷ vs) v = ap (λ (b : Bool). same_words v (words x) || b) (any_mapped vs v)

  map_push : (vs : List V) (v : V) → map words (vs ++ v ∷ []) ≡ map words vs ++ words v ∷ []
  map_push [] v = refl
  map_push (x ∷ vs) v = ap (λ (ws : List (List ℕ)). words x ∷ ws) (map_push vs v)

  pub insert_mapped : (vs : List V) (v : V)
      → map words (insert_key (λ x y. same_words (words x) (words y)) vs v) ≡ insert_key same_words (map words vs) (words v)
  insert_mapped vs v = go (is_among (map words vs) (words v)) refl
    where
      go : (b : Bool) → is_among (map words vs) (words v) ≡ b
          → map words (insert_key (λ x y. same_words (words x) (words y)) vs v) ≡ insert_key same_words (map words vs) (words v)
      go true e = rw (any_mapped vs (words v), e) refl
      go false e = rw (any_mapped vs (words v), e) (map_push vs v)

  pub among_mapped : (vs : List V) (v : List ℕ) → is_among (map words vs) v ≡ list_any (λ x. same_words v (words x)) vs
  among_mapped vs v = sym (any_mapped vs v)

  pub get_mapped : (vs : List V) (k : ℕ) (v : V) → slice_get vs k ≡ Some v → slice_get (map words vs) k ≡ Some (words v)
  get_mapped [] k v h = absurd (none-some v h)
  get_mapped (x ∷ vs) zero v h = ap (λ (y : V). Some (words y)) (same_Some x v h)
  get_mapped (x ∷ vs) (suc k) v h = get_mapped vs k v h

  pub length_mapped : (vs : List V) → length (map words vs) ≡ length vs
  length_mapped [] = refl
  length_mapped (x ∷ vs) = ap suc (length_mapped vs)
