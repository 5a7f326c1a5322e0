-- A calm thread whose record an object's mark names has that object in its first record of depth 1.
use Rattle.core_locks.proofs.Prelude.{◌≡◌, ◌≢◌, ℕ, zero, suc, ◌+◌, ◌==◌, not, eq-eqb, Bool, true, false, cond, List, [], ◌∷◌, slice_index}
use Rattle.core_locks.proofs.Prelude.{Some, refl, sym, ap, ◌∙◌, arith, inl, inr, eqb-true, position_or_len, read_mark, Locked, PlainObject}
use Rattle.core_locks.proofs.Prelude.{Settled, hold_word, World, marks, owner_words, prototype_of, inflations, Fits, hold_some}
use Rattle.core_world.specs.RevocationRules.{first_place}
use Rattle.core_locks.proofs.MarkMeanings.{locked_lock}

one_on : (x n : ℕ) (hs : List ℕ) → slice_index (x ∷ hs) (1 + n) ≡ slice_index hs n
one_on x n hs = let same : 1 + n ≡ suc n = omega arith in ap (slice_index (x ∷ hs)) same

-- a word that stands somewhere stands at its first place
first_there : (c : ℕ) (hs : List ℕ) (p : ℕ) → c ≢ 0 → slice_index hs p ≡ c → slice_index hs (position_or_len (λ h. h == c) hs) ≡ c
first_there c [] p some h = absurd (some (sym h))
first_there c (x ∷ hs) zero some h =
    let a : (x == c) ≡ true = eq-eqb x c h in
    ap (λ (b : Bool). slice_index (x ∷ hs) (cond (not b) (1 + position_or_len (λ h. h == c) hs) 0)) a ∙ h
first_there c (x ∷ hs) (suc p) some h = by_test (x == c) refl (first_there c hs p some h)
  where
    by_test : (b : Bool) → (x == c) ≡ b → slice_index hs (position_or_len (λ h. h == c) hs) ≡ c
        → slice_index (x ∷ hs) (cond (not b) (1 + position_or_len (λ h. h == c) hs) 0) ≡ c
    by_test true e later = eqb-true x c e
    by_test false e later = one_on x (position_or_len (λ h. h == c) hs) hs ∙ later

-- so the tree's place is that of the premise
pub record_is_first : (w : World) (P : List PlainObject) (t o p : ℕ) → Fits w P → (w.known t).stage ≡ Settled → read_mark (marks w o) ≡ Some (Locked t p)
    → slice_index (w.known t).holds (first_place o (w.known t).holds) ≡ hold_word o 1
record_is_first w P t o p v calm form = elim (v.records.first o t p (locked_lock (marks w o) t p (prototype_of w o) (owner_words w) (inflations w o) form)) [
  | inl a ↦ first_there (hold_word o 1) (w.known t).holds p (hold_some o 1) a
  | inr a ↦ absurd (cc (a, calm))
]
