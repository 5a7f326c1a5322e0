-- A revocation stores no waiting word.
use Rattle.core_locks.proofs.Prelude.{◌≡◌, ℕ, ◌<◌, ◌++◌, Bool, true, false, List, [], ◌∷◌, refl, sym, ap, ◌∙◌}
use Rattle.core_locks.proofs.Prelude.{subst, PlainObject, WordId, Shape, same_name, World, IsRevoking}
use Rattle.std.specs.List.{AllByRecursion}
use Rattle.core_world.specs.RevocationRules.{Write, writes_in}
use Rattle.core_world.proofs.Naming.{same_named}
use Rattle.core_world.proofs.RefusedWorlds.{untouched_word}
use Rattle.core_bias.proofs.GoodWrites.{is_revocation_word, AreGood, good_writes}
use Rattle.core_bias.proofs.Stores.{first_below}

module _ (s : Shape) (f : WordId → ℕ) where
  spared : (n : WordId) (xs ys : List Write) → is_revocation_word n ≡ false → AreGood s f (xs ++ ys)
      → AllByRecursion (λ x. same_name n x.at ≡ false) xs
  spared n [] ys none h = tt
  spared n (x ∷ xs) ys none h = (other (same_name n x.at) refl, spared n xs ys none h.1)
    where
      other : (c : Bool) → same_name n x.at ≡ c → c ≡ false
      other false e = refl
      other true e = let same = ap is_revocation_word (same_named n x.at e) in absurd (cc (same, h.0.0, none))

-- so every word that is none of a revocation's is what it was before the first store
module _ (w : World) (P : List PlainObject) (s : IsRevoking w P) (n : WordId) where
  abbrev b : World
  b = s.before

  -- the stores that were made
  abbrev made : List Write
  made = writes_in (w.known s.requester).seen_at_safepoint

  pub word_before : s.requester < b.shape.threads → is_revocation_word n ≡ false → w.words n ≡ b.words n
  word_before within none =
      let all =
      good_writes b.shape b.words s.fits.limits.threads (first_below b P s.fits) s.requester s.revocation within s.fits.forms.marks in
      let mine = subst (AreGood b.shape b.words) (sym s.writes) all in
      ap (λ f. f n) s.words ∙ untouched_word n made b.words (spared b.shape b.words n made s.rest none mine)
