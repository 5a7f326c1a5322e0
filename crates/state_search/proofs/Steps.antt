-- A search goes on where a key is added that its next key leads to, and where it has gone into that one.
use Rattle.std.proofs.Common.{◌≡◌, ◌⊎◌, inl, inr, ℕ, zero, suc, ◌+◌, ◌<◌, ◌≤◌, ◌==◌, Bool, true, false, ◌||◌, nat_lt, List}
use Rattle.std.proofs.Common.{[], ◌∷◌, length, slice_get, Option, Some, None, refl, sym, ap, ◌∙◌, subst, arith, eqb-true}
use Rattle.std.proofs.lemmas.Bool.{false≢true, eqb-false}
use Rattle.std.proofs.lemmas.Bool.Decides.{nat_tests}
use Rattle.std.proofs.lemmas.Option.{none-some, same_Some, slice_get_within}
use Rattle.indexmap.specs.IndexSet.{insert_key}
use Rattle.state_search.specs.Found.{Keys}
use Rattle.state_search.specs.inner.Added.{with_key}
use Rattle.state_search.specs.inner.Among.{same_words, is_among}
use Rattle.state_search.specs.Search.{Has, AreKeys, LeadsInto, IsClosedBelow, IsLedTo}
use Rattle.state_search.specs.inner.Steps.{Keeps, GoesOn}
use Rattle.state_search.proofs.Inserts.{IsInserted, inserted, length_kept, length_more}
use Rattle.state_search.proofs.Origins.{origins_added}

-- a place before one that is filled is filled
before_none : (keys : List (List ℕ)) (k n : ℕ) → k < n → n ≤ length keys → slice_get keys k ≡ None → ⊥
before_none [] k n lt few none = omega (arith, lt, few)
before_none (y ∷ keys) zero n lt few none = none-some y (sym none)
before_none (y ∷ keys) (suc k) zero lt few none = omega (arith, lt)
before_none (y ∷ keys) (suc k) (suc n) lt few none = before_none keys k n (omega (arith, lt)) (omega (arith, few)) none

module _ (next : List ℕ → ℕ → Option (List ℕ)) (many : ℕ) where
  pub leads_kept : (some : ℕ) (before after : List (List ℕ)) (key : List ℕ) → Keeps before after → LeadsInto next some before key
      → LeadsInto next some after key
  leads_kept some before after key kept leads c to lt e = let h = leads c to lt e in (h.0, kept h.0 to h.1)

  closed_kept : (gone : ℕ) (before after : List (List ℕ)) → Keeps before after → gone ≤ length before → IsClosedBelow next many gone before
      → IsClosedBelow next many gone after
  closed_kept gone before after kept few closed k key lt at = go (slice_get before k) refl
    where
      go : (r : Option (List ℕ)) → slice_get before k ≡ r → LeadsInto next many after key
      go None none = absurd (before_none before k gone lt few none)
      go (Some x) some =
          let same : x ≡ key = same_Some x key (sym (kept k x some) ∙ at) in
          leads_kept many before after key kept (subst (LeadsInto next many before) same (closed k x lt some))

  -- one choice more
  pub leads_more : (choice : ℕ) (before after : List (List ℕ)) (key : List ℕ) → Keeps before after → LeadsInto next choice before key
      → ((to : List ℕ) → next key choice ≡ Some to → Has after to) → LeadsInto next (choice + 1) after key
  leads_more choice before after key kept leads here c to lt e = go (c == choice) refl
    where
      go : (b : Bool) → (c == choice) ≡ b → Has after to
      go true same = here to (subst (λ (i : ℕ). next key i ≡ Some to) (eqb-true c choice same) e)
      go false differ = leads_kept choice before after key kept leads c to (omega (arith, lt, eqb-false c choice differ)) e

  -- a key that the next key leads to is added, where there is room for it
  pub goes_on_added : (most choice : ℕ) (key to : List ℕ) (f : Keys) → slice_get f.keys f.gone ≡ Some key → choice < many → next key choice ≡ Some to
      → (nat_lt (length f.keys) most || is_among f.keys to) ≡ true → GoesOn next many most f (with_key f to (record { key = f.gone; choice = choice }))
  goes_on_added most choice key to f here lt leads room first u = record {
    first_key = i.kept 0 first u.first_key;
    once = i.once u.once;
    led = λ k x at. led k x (i.only k x at);
    origins = origins_added next many key to (record { key = f.gone; choice = choice }) f here lt leads u.origins;
    closed = closed_kept f.gone f.keys (insert_key same_words f.keys to) i.kept u.within u.closed;
    within = omega (arith, u.within, longer);
    few = fits (is_among f.keys to) refl;
  }
    where
      i : IsInserted f.keys to (insert_key same_words f.keys to)
      i = inserted f.keys to

      led : (k : ℕ) (x : List ℕ) → (slice_get f.keys k ≡ Some x) ⊎ (x ≡ to) → IsLedTo next many first x
      led k x (inl old) = u.led k x old
      led k x (inr new) =
          let l = u.led f.gone key here in
          record { choices = choice ∷ l.choices; leads = (key, l.leads, lt, leads ∙ ap Some (sym new)) }

      longer : length f.keys ≤ length (insert_key same_words f.keys to)
      longer = go (is_among f.keys to) refl
        where
          go : (b : Bool) → is_among f.keys to ≡ b → length f.keys ≤ length (insert_key same_words f.keys to)
          go true e = omega (arith, length_kept f.keys to e)
          go false e = omega (arith, length_more f.keys to e)

      fits : (b : Bool) → is_among f.keys to ≡ b → length (insert_key same_words f.keys to) ≤ most
      fits true e = omega (arith, u.few, length_kept f.keys to e)
      fits false e = below (nat_lt (length f.keys) most) refl
        where
          below : (b : Bool) → nat_lt (length f.keys) most ≡ b → length (insert_key same_words f.keys to) ≤ most
          below true less = let n = length_more f.keys to e in grind (arith, nat_tests, less, n)
          below false more = absurd (false≢true (rw (more, e) at room))

  -- the next key was gone into
  pub goes_on_past : (most : ℕ) (key : List ℕ) (f : Keys) → slice_get f.keys f.gone ≡ Some key → LeadsInto next many f.keys key
      → GoesOn next many most f (record f { gone = f.gone + 1 })
  goes_on_past most key f here leads first u = record {
    first_key = u.first_key;
    once = u.once;
    led = u.led;
    origins = u.origins;
    closed = closed;
    within = omega (arith, slice_get_within f.keys f.gone key here);
    few = u.few;
  }
    where
      closed : IsClosedBelow next many (f.gone + 1) f.keys
      closed k x lt at = go (k == f.gone) refl
        where
          go : (b : Bool) → (k == f.gone) ≡ b → LeadsInto next many f.keys x
          go true same =
              let is : key ≡ x = same_Some key x (sym here ∙ subst (λ (j : ℕ). slice_get f.keys j ≡ Some x) (eqb-true k f.gone same) at) in
              subst (LeadsInto next many f.keys) is leads
          go false differ = u.closed k x (omega (arith, lt, eqb-false k f.gone differ)) at

pub keys_inserted : (is_key : List ℕ → Type 0) (keys : List (List ℕ)) (v : List ℕ) → AreKeys is_key keys → is_key v
    → AreKeys is_key (insert_key same_words keys v)
keys_inserted is_key keys v all here k x at = go ((inserted keys v).only k x at)
  where
    go : (slice_get keys k ≡ Some x) ⊎ (x ≡ v) → is_key x
    go (inl old) = all k x old
    go (inr new) = subst is_key (sym new) here

-- it goes on by the same choices, where they are the same
pub goes_on_same : (next next2 : List ℕ → ℕ → Option (List ℕ)) (many many2 most : ℕ) (before after : Keys) → next2 ≡ next → many2 ≡ many
    → GoesOn next2 many2 most before after → GoesOn next many most before after
goes_on_same next next2 many many2 most before after e f h =
    subst (λ (n : List ℕ → ℕ → Option (List ℕ)). GoesOn n many most before after) e (subst (λ (m : ℕ). GoesOn next2 m most before after) f h)
