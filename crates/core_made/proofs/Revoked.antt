-- The law of what is there while a bias is being revoked: it held before the first store, and the stores are of marks that had the bias pattern.
use Rattle.std.proofs.Common.{◌≡◌, ◌⊎◌, ℕ, ◌<◌, Bool, true, false, cond, List, [], ◌∷◌, ◌++◌, length}
use Rattle.std.proofs.Common.{slice_get, Some, refl, sym, ap, ◌∙◌, subst, arith, inl, inr}
use Rattle.std.proofs.lemmas.Bool.{cases_lt}
use Rattle.plain_monitor.specs.declared.entry.Logged.{Logged}
use Rattle.plain_monitor.specs.Objects.{PlainObject}
use Rattle.plain_monitor.specs.Made.{is_there}
use Rattle.core_world.specs.declared.word_id.WordId.{WordId}
use Rattle.core_world.specs.declared.word_id.WordId.TheVariants.{Mark, Stamp, Class}
use Rattle.core_world.specs.Locks.{marks, hold_count}
use Rattle.core_world.specs.RevocationRules.{Write, words_after, words_from, writes_in}
use Rattle.core_world.specs.Threads.ThreadView.{ThreadView, last_seen}
use Rattle.core_world.specs.Valid.{IsRevoking, requester_known}
use Rattle.core_world.specs.Words.Forms.{is_biased, is_biased_form}
use Rattle.core_world.specs.Words.Names.{same_name, with_word}
use Rattle.core_world.specs.Words.Shape.{Shape}
use Rattle.core_world.specs.World.{World, logs, logs_from}
use Rattle.core_world.proofs.Frames.{same, frame2}
use Rattle.core_world.proofs.KnowledgeParts.{by_equal}
use Rattle.core_world.proofs.Naming.{same_named}
use Rattle.core_world.proofs.Readings.{mark_one}
use Rattle.core_bias.proofs.GoodWrites.{is_revocation_word, IsGood, GoodMark, AreGood, good_writes}
use Rattle.core_bias.proofs.Stores.{first_below}
use Rattle.bias_law.proofs.bias.RevocationEnds.{logs_same}
use Rattle.core_world.specs.Threads.References.{knows_by_log, numbering, is_on, making_in}
use Rattle.core_law.specs.MadeLaw.{MadeLaw, MadeLawHolds}
use Rattle.core_made.proofs.Absent.{words_rise}
use Rattle.core_made.proofs.Quiets.{law_stays}

-- WHAT THE STORES LEAVE: words that no revocation stores, and marks that had no bias pattern
module _ (s : Shape) (f : WordId → ℕ) where
  abbrev IsLeft : WordId → Type 0
  IsLeft n = (is_revocation_word n ≡ false) ⊎ ((o : ℕ) × (n ≡ Mark o) × (is_biased (f (Mark o)) ≡ false))

  -- a good store is of another word
  other : (x : Write) (n : WordId) → IsGood s f x → IsLeft n → (b : Bool) → same_name n x.at ≡ b → b ≡ false
  other x n good left false e = refl
  other x n good left true e =
      let same : n ≡ x.at = same_named n x.at e in
      elim left [
        | inl spared ↦ absurd (let stored = ap is_revocation_word same ∙ good.0 in cc (stored, spared))
        | inr a ↦ absurd (let had = (subst (λ m. GoodMark s f m x.word) (sym same ∙ a.1) good.1).2 in let has_none = a.2 in cc (had, has_none))
      ]

  pub left_words : (xs : List Write) (g : WordId → ℕ) (n : WordId) → AreGood s f xs → IsLeft n → words_after xs g n ≡ g n
  left_words [] g n good left = refl
  left_words (x ∷ xs) g n good left =
      left_words xs (with_word x.at x.word g) n good.1 left ∙ ap (λ (b : Bool). cond b x.word (g n)) (other x n good.0 left (same_name n x.at) refl)

  pub good_front : (xs ys : List Write) → AreGood s f (xs ++ ys) → AreGood s f xs
  good_front [] ys good = tt
  good_front (x ∷ xs) ys good = (good.0, good_front xs ys good.1)

module _ (w : World) (P : List PlainObject) (s : IsRevoking w P) (law : MadeLawHolds s.before) where
  abbrev b : World
  b = s.before

  abbrev t : ℕ
  t = s.requester

  within : t < b.shape.threads
  within = elim (cases_lt t b.shape.threads) [
    | inl h ↦ h
    | inr h ↦ absurd (let a = ap (λ (k : ThreadView). k.reached) (s.fits.absent t h) in cc (a, s.reached))
  ]

  good : AreGood b.shape b.words (writes_in (w.known t).seen_at_safepoint)
  good = good_front b.shape b.words (writes_in (w.known t).seen_at_safepoint) s.rest
      (subst (AreGood b.shape b.words) (sym s.writes)
      (good_writes b.shape b.words s.fits.limits.threads (first_below b P s.fits) t s.revocation within s.fits.forms.marks))

  left : (n : WordId) → IsLeft b.shape b.words n → w.words n ≡ b.words n
  left n is = ap (λ (g : WordId → ℕ). g n) s.words ∙ left_words b.shape b.words (writes_in (w.known t).seen_at_safepoint) b.words n good is

  -- a part of the knowledge that the requester doesn't change meanwhile, and nobody else does
  part_now : {A : Type 0} (part : ThreadView → A) → part (requester_known b t s.revocation (w.known t)) ≡ part (b.known t) → (u : ℕ)
      → part (w.known u) ≡ part (b.known u)
  part_now part same u = by_equal u t
      (λ e. ap (λ v. part (w.known v)) e ∙ ap part s.knows ∙ same ∙ ap (λ v. part (b.known v)) (sym e))
      (λ d. ap part (s.others u d))

  logs_are : (u : ℕ) → (w.known u).log ≡ (b.known u).log
  logs_are = part_now (λ k. k.log) refl

  logs_now : logs_from 0 b.shape.threads w.known ≡ logs b
  logs_now = logs_same w.known b.known 0 b.shape.threads logs_are

  unbiased : (o : ℕ) → is_there (numbering b.shape) law.made o ≡ false → is_biased (marks b o) ≡ false
  unbiased o e = ap is_biased ((law.absent o e).neutral) ∙ ap is_biased_form mark_one

  unfinished : (u o : ℕ) → is_on (w.known u).unfinished o ≡ true → knows_by_log (numbering b.shape) (b.known u).log o ≡ true
  unfinished u o h = law.unfinished u o (ap (λ z. is_on z o) (sym (part_now (λ k. k.unfinished) refl u)) ∙ h)

  -- the requester's safepoint is reached, and the others have seen nothing more
  saw : (u o v : ℕ) → (w.known u).reached ≡ false → last_seen (Mark o) (w.known u).seen ≡ Some v
      → knows_by_log (numbering b.shape) (b.known u).log o ≡ true
  saw u o v free h = by_equal u t
      (λ e. let stays = part_now (λ k. k.reached) refl u in let its = ap (λ i. (b.known i).reached) e ∙ s.reached in absurd (cc (free, stays, its)))
      (λ d. law.saw u o v (ap (λ (k : ThreadView). k.reached) (sym (s.others u d)) ∙ free)
      (ap (λ (k : ThreadView). last_seen (Mark o) k.seen) (sym (s.others u d)) ∙ h))

  -- the law of what the words are now, in a heap of this shape, with these logs
  abbrev Law : Shape → List (List Logged) → (ℕ → List Logged) → Type 0
  Law h ls f =
      MadeLaw (numbering h) h.objects ls (words_from 0 (length h.objects) (λ o. w.words (Stamp o))) (λ o. w.words (Class o)) (marks w)
      (λ u. (w.known u).holds) f (λ u. (w.known u).unfinished) (λ u. (w.known u).shots) (λ u. (w.known u).seen) (λ u. (w.known u).reached)

  law_now : Law b.shape (logs_from 0 b.shape.threads w.known) (λ u. (w.known u).log)
  law_now =
      frame2 (Law b.shape) (sym logs_now) (same (λ u. sym (logs_are u)))
      (law_stays law
      (words_rise 0 (length b.shape.objects) (λ o. b.words (Stamp o)) (λ o. w.words (Stamp o))
      (λ o. let same = left (Stamp o) (inl refl) in omega (arith, same)))
      (λ o. left (Class o) (inl refl))
      (λ o e. left (Mark o) (inr (o, refl, unbiased o e)))
      (λ o e u. ap (hold_count o) (part_now (λ k. k.holds) refl u) ∙ (law.absent o e).unheld u)
      (λ u. ap making_in (part_now (λ k. k.unfinished) refl u)) unfinished saw
      (λ u i shot e. law.cut_in_time u i shot (ap (λ ss. slice_get ss i) (sym (part_now (λ k. k.shots) refl u)) ∙ e)))

  pub revoking_keeps : MadeLawHolds w
  revoking_keeps = subst (λ (h : Shape). Law h (logs_from 0 h.threads w.known) (λ u. (w.known u).log)) (sym s.shape) law_now
