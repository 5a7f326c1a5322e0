-- What a revocation, all of whose stores are made, leaves of its object in the world: no bias pattern, or the bias of its thread, which holds nothing
-- of the object.
use Rattle.std.proofs.Common.{◌≡◌, ℕ, ◌<◌, eq-eqb, true, List, [], ◌∷◌, ◌++◌, Option, Some, None, refl, sym, ap, ◌∙◌, subst, arith, inl, inr}
use Rattle.std.proofs.lemmas.Bool.{cases_lt}
use Rattle.mark_word.specs.declared.mark.MarkForm.{MarkForm}
use Rattle.mark_word.specs.declared.mark.MarkForm.TheVariants.{Biased}
use Rattle.mark_word.specs.Mark.{read_mark}
use Rattle.plain_monitor.specs.Limits.{most_holds}
use Rattle.plain_monitor.specs.Objects.{PlainObject}
use Rattle.core_world.specs.Threads.ThreadView.{ThreadView}
use Rattle.core_world.specs.Locks.{BiasedTo, is_valid_bias, lock, marks, hold_count, prototype_of}
use Rattle.core_world.specs.Words.Shape.{Shape}
use Rattle.core_world.specs.Words.Names.{class_by}
use Rattle.core_world.specs.Valid.{IsRevoking}
use Rattle.core_world.specs.World.{World}
use Rattle.bias_law.proofs.Leaning.{LeansTo, leans, same_classes}
use Rattle.core_world.specs.declared.word_id.WordId.{WordId}
use Rattle.core_world.specs.declared.word_id.WordId.TheVariants.{Hold, Prototype, Class}
use Rattle.core_world.specs.Words.Forms.{epoch_in, is_biased}
use Rattle.core_world.specs.Locks.{has_epoch}
use Rattle.core_world.specs.RevocationRules.{Write, holds_in, revocation_writes, words_after, writes_in}
use Rattle.core_world.proofs.KnowledgeParts.{by_equal}
use Rattle.core_locks.proofs.shot.ShotWords.{words_are}
use Rattle.bias_law.specs.Steps.{LeavesObject}
use Rattle.bias_law.proofs.bias.FinalMarks.{Final, mark_at_the_end}
use Rattle.bias_law.proofs.Leaning.{leans_by_mark}
use Rattle.bias_law.proofs.bias.Walks.{verdict_of, revokes_gently}
use Rattle.lock_policy.specs.declared.policy.Verdict.{Verdict}
use Rattle.lock_policy.specs.declared.policy.Verdict.TheVariants.{BulkRebias}

-- a valid bias is one of a thread
pub valid_leans : (m : Option MarkForm) (prototype : ℕ) → is_valid_bias m prototype ≡ true → (u : ℕ) × LeansTo m prototype u
valid_leans (Some (Biased u e a)) p h = (u, (e, a, refl, h))
valid_leans _ p h = absurd (cc h)

-- a prototype that has this epoch has one
has_some : (m : Option ℕ) (e : ℕ) → has_epoch m e ≡ true → (n : ℕ) × (m ≡ Some n)
has_some None e h = absurd (cc h)
has_some (Some n) e h = (n, refl)

append_none : (ws : List Write) → ws ++ [] ≡ ws
append_none [] = refl
append_none (z ∷ ws) = ap (λ r. z ∷ r) (append_none ws)

module _ (w : World) (P : List PlainObject) (s : IsRevoking w P) (over : s.rest ≡ []) where
  abbrev b : World
  b = s.before

  abbrev t : ℕ
  t = s.requester

  abbrev o : ℕ
  o = s.revocation.object

  pub requester_within : t < b.shape.threads
  requester_within = elim (cases_lt t b.shape.threads) [
    | inl h ↦ h
    | inr h ↦ absurd (let a = ap (λ (k : ThreadView). k.reached) (s.fits.absent t h) in cc (a, s.reached))
  ]

  all_made : w.words ≡ words_after (revocation_writes b.shape t s.revocation b.words) b.words
  all_made = s.words ∙ ap (λ ws. words_after ws b.words) (sym (append_none (writes_in (w.known t).seen_at_safepoint))
      ∙ ap (λ r. writes_in (w.known t).seen_at_safepoint ++ r) (sym over) ∙ s.writes)

  -- they are of no class word
  pub class_words : (i : ℕ) → w.words (Class i) ≡ b.words (Class i)
  class_words i = ap (λ (g : WordId → ℕ). g (Class i)) all_made ∙ (revokes_gently b.shape t s.revocation b.words).classes i

  abbrev leaner : (u : ℕ) × LeansTo (read_mark (marks b o)) (prototype_of b o) u
  leaner = valid_leans (read_mark (marks b o)) (prototype_of b o) s.biased

  -- what its thread holds of the object, where who had the bias holds nothing
  abbrev u : ℕ
  u = (valid_leans (read_mark (marks s.before s.revocation.object)) (prototype_of s.before s.revocation.object) s.biased).0

  leant : lock b o ≡ BiasedTo u
  leant = leans b o u leaner.1

  holds_are : holds_in b.words u ≡ (b.known u).holds
  unfolding holds_in
  holds_are = words_are 0 most_holds (λ p. b.words (Hold u p)) (b.known u).holds (s.fits.holds.places u)
      (λ i j at below. let same : j ≡ i = omega (arith, at) in ap (λ p. b.words (Hold u p)) same ∙ s.fits.holds.stored u i)

  unheld : hold_count o (holds_in b.words u) ≡ 0 → hold_count o (w.known t).holds ≡ 0
  unheld none =
      let mine : (w.known t).holds ≡ (b.known t).holds = ap (λ (k : ThreadView). k.holds) s.knows in
      ap (hold_count o) mine ∙ by_equal t u
      (λ e. ap (λ v. hold_count o (b.known v).holds) e ∙ ap (hold_count o) (sym holds_are) ∙ none)
      (λ d. s.fits.biases.unheld o t (leans_by_mark b o u leant).0 (λ e. d (let same : BiasedTo t ≡ BiasedTo u = sym e ∙ leant in cc same)))

  abbrev verdict : Verdict
  verdict = (verdict_of s.before.shape s.revocation s.before.words).0

  final : Final b.words o (class_by b.shape b.words o) u t verdict w.words
  final =
      let h = leaner.1 in
      let valid : has_epoch (epoch_in (prototype_of b o)) h.0 ≡ true = sym (ap (λ m. is_valid_bias m (prototype_of b o)) h.2) ∙ h.3 in
      let proto = has_some (epoch_in (prototype_of b o)) h.0 valid in
      let small : t < 32 = let few = s.fits.limits.threads in omega (arith, few, requester_within) in
      subst (Final b.words o (class_by b.shape b.words o) u t verdict) (sym all_made)
      (mark_at_the_end b.shape t s.revocation b.words u h.0 h.1 proto.0 h.2 proto.1 small)

  -- the new bias is that of a bulk rebias
  pub took_by_rebias : is_biased (marks w o) ≡ true → verdict ≡ BulkRebias
  took_by_rebias biased = elim final [ inl free ↦ absurd (cc (free, biased)) | inr h ↦ h.4 ]

  pub leaves_object : LeavesObject w t o (is_biased (marks w o))
  leaves_object = record {
    taken = λ biased. elim final [
      | inl free ↦ absurd (cc (free, biased))
      | inr h ↦
          let stands : epoch_in (prototype_of w o) ≡ Some h.0 =
          ap (λ (z : Shape). epoch_in (w.words (Prototype (class_by z w.words o)))) s.shape
          ∙ ap (λ (k : ℕ → ℕ). epoch_in (w.words (Prototype (k o)))) (same_classes b.shape w.words b.words class_words) ∙ h.2 in
          let valid : is_valid_bias (read_mark (marks w o)) (prototype_of w o) ≡ true =
          ap (λ m. is_valid_bias m (prototype_of w o)) h.1 ∙ ap (λ m. has_epoch m h.0) stands ∙ eq-eqb h.0 h.0 refl in
          (leans w o t (h.0, 0, h.1, valid), unheld h.3)
    ];
    dropped = λ free. free;
  }
