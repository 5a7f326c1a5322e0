-- Each key keeps an origin that leads to it, where a key is added; and the origins, from a key down, are a way to it.
use Rattle.std.proofs.Common.{◌≡◌, ◌⊎◌, inl, inr, ℕ, ◌+◌, ◌<◌, ◌≤◌, Bool, true, false, List, [], ◌∷◌, ◌++◌}
use Rattle.std.proofs.Common.{length, slice_get, Option, Some, None, refl, sym, ap, ◌∙◌, subst, arith}
use Rattle.std.proofs.lemmas.Option.{none-some, same_Some, slice_get_cases, slice_get_within}
use Rattle.state_search.specs.declared.found.Origin.{Origin}
use Rattle.state_search.specs.Found.{Keys}
use Rattle.state_search.specs.inner.Added.{with_key}
use Rattle.state_search.specs.inner.Among.{is_among}
use Rattle.state_search.specs.Search.{LeadsBy, LeadsFrom, HaveOrigins, IsUnderWay, IsWayTo}
use Rattle.state_search.proofs.Inserts.{old_or_last, keeps_push, length_push}

module _ (next : List ℕ → ℕ → Option (List ℕ)) (many : ℕ) where
  module _ (keys : List (List ℕ)) (origins : List Origin) (key to : List ℕ) (from : Origin) (here : slice_get keys from.key ≡ Some key)
      (lt : from.choice < many) (leads : next key from.choice ≡ Some to) (h : HaveOrigins next many keys origins) where
    last_leads : (k : ℕ) → k ≡ length keys → LeadsFrom next many (keys ++ to ∷ []) k from to
    last_leads k last = record {
      earlier = let within = slice_get_within keys from.key key here in omega (arith, within, last);
      choice = lt;
      leads = (key, keeps_push keys to from.key key here, leads);
    }

    lead_pushed : (k : ℕ) (origin : Origin) (x : List ℕ) → 1 ≤ k → slice_get (origins ++ from ∷ []) k ≡ Some origin
        → slice_get (keys ++ to ∷ []) k ≡ Some x → LeadsFrom next many (keys ++ to ∷ []) k origin x
    lead_pushed k origin x some its at = go (old_or_last origins from k origin its) (old_or_last keys to k x at)
      where
        go : (slice_get origins k ≡ Some origin) ⊎ ((k ≡ length origins) × (origin ≡ from)) → (slice_get keys k ≡ Some x) ⊎ ((k ≡ length keys) × (x ≡ to))
            → LeadsFrom next many (keys ++ to ∷ []) k origin x
        go (inl a) (inl b) =
            let l = h.lead k origin x some a b in
            record { earlier = l.earlier; choice = l.choice; leads = (l.leads.0, keeps_push keys to origin.key l.leads.0 l.leads.1, l.leads.2) }
        go (inl a) (inr b) = let within = slice_get_within origins k origin a in absurd (omega (arith, within, b.0, h.each))
        go (inr a) (inl b) = let within = slice_get_within keys k x b in absurd (omega (arith, within, a.0, h.each))
        go (inr a) (inr b) =
            subst (λ (o : Origin). LeadsFrom next many (keys ++ to ∷ []) k o x) (sym a.1)
            (subst (λ (w : List ℕ). LeadsFrom next many (keys ++ to ∷ []) k from w) (sym b.1) (last_leads k b.0))

    pushed : HaveOrigins next many (keys ++ to ∷ []) (origins ++ from ∷ [])
    pushed = record { each = omega (arith, h.each, length_push origins from, length_push keys to); lead = lead_pushed }

  pub origins_added : (key to : List ℕ) (from : Origin) (f : Keys) → slice_get f.keys from.key ≡ Some key → from.choice < many
      → next key from.choice ≡ Some to → HaveOrigins next many f.keys f.origins
      → HaveOrigins next many (with_key f to from).keys (with_key f to from).origins
  origins_added key to from f here lt leads h = go (is_among f.keys to) refl
    where
      go : (b : Bool) → is_among f.keys to ≡ b → HaveOrigins next many (with_key f to from).keys (with_key f to from).origins
      go true e = rw e h
      go false e = rw e (pushed f.keys f.origins key to from here lt leads h)

  -- one choice before all others
  leads_before : (choices : List ℕ) (choice : ℕ) (x y key : List ℕ) → choice < many → next x choice ≡ Some y → LeadsBy next many y choices key
      → LeadsBy next many x (choices ++ choice ∷ []) key
  leads_before [] choice x y key lt e h = (x, refl, lt, e ∙ ap Some h)
  leads_before (c ∷ choices) choice x y key lt e h = (h.0, leads_before choices choice x y h.0 lt e h.1, h.2, h.3)

-- so many steps down from the key with the number, the choices lead to it from the key at which the way is
pub record IsDown (next : List ℕ → ℕ → Option (List ℕ)) (many : ℕ) (keys : List (List ℕ)) (number at : ℕ) (choices : List ℕ) (steps : ℕ) : Type 0 where
  pub few : at + steps ≤ number
  pub leads : (x key : List ℕ) → slice_get keys at ≡ Some x → slice_get keys number ≡ Some key → LeadsBy next many x choices key
  pub none : slice_get keys number ≡ None → choices ≡ []
  pub still : slice_get keys number ≡ None → at ≡ number

module _ (next : List ℕ → ℕ → Option (List ℕ)) (many : ℕ) (first : List ℕ) (most : ℕ) (f : Keys) (u : IsUnderWay next many first most f) (number at : ℕ)
    (choices : List ℕ) (steps : ℕ) (d : IsDown next many f.keys number at choices steps) where
  pub down_step : (origin : Origin) → 1 ≤ at → slice_get f.origins at ≡ Some origin
      → IsDown next many f.keys number origin.key (choices ++ origin.choice ∷ []) (steps + 1)
  down_step origin some its =
      elim (slice_get_cases f.keys at).1 [
        | inl c ↦ part c.0 c.2
        | inr past ↦ let within = slice_get_within f.origins at origin its in absurd (omega (arith, past.0, within, u.origins.each))
      ]
    where
      part : (y : List ℕ) → slice_get f.keys at ≡ Some y → IsDown next many f.keys number origin.key (choices ++ origin.choice ∷ []) (steps + 1)
      part y there = record {
        few = omega (arith, d.few, l.earlier);
        leads = λ x key a b.
            let same : l.leads.0 ≡ x = same_Some l.leads.0 x (sym l.leads.1 ∙ a) in
            let goes : next x origin.choice ≡ Some y = subst (λ (w : List ℕ). next w origin.choice ≡ Some y) same l.leads.2 in
            leads_before next many choices origin.choice x y key l.choice goes (d.leads y key there b);
        none = λ h. absurd (gone h);
        still = λ h. absurd (gone h);
      }
        where
          l : LeadsFrom next many f.keys at origin y
          l = u.origins.lead at origin y some its there

          gone : slice_get f.keys number ≡ None → ⊥
          gone h = none-some y (sym (subst (λ (n : ℕ). slice_get f.keys n ≡ None) (sym (d.still h)) h) ∙ there)

  -- it is down at the first key
  pub down_first : at ≡ 0 → IsWayTo next many first f.keys number choices
  down_first zero_at = record {
    leads = λ key b. d.leads first key (subst (λ (n : ℕ). slice_get f.keys n ≡ Some first) (sym zero_at) u.first_key) b;
    none = d.none;
  }

  -- there is no such key
  pub down_past : slice_get f.origins at ≡ None → IsWayTo next many first f.keys number choices
  down_past past = record { leads = λ key b. absurd (gone key b); none = d.none }
    where
      gone : (key : List ℕ) → slice_get f.keys number ≡ Some key → ⊥
      gone key b =
          elim (slice_get_cases f.origins at).1 [
            | inl c ↦ none-some c.0 (sym past ∙ c.2)
            | inr c ↦ let within = slice_get_within f.keys number key b in omega (arith, c.0, within, d.few, u.origins.each)
          ]
