-- Who counts on a waiting word that an owner changes, and that it spells a form.
use Rattle.core_locks.proofs.Prelude.{◌≡◌, ◌≢◌, ℕ, ◌<◌, ◌||◌, Bool, true, false, List, refl, sym, ap, ◌∙◌, subst, inl, inr, wait_of, read_wait}
use Rattle.core_locks.proofs.Prelude.{Notified, PlainObject, Safepoint, Hold, Waiting, Object, waits_on, says_notified, bears, with_word}
use Rattle.core_locks.proofs.Prelude.{ThreadView, World, marks, owner_words, owner_at, Stays, Fits, IsWait, WordsHaveForms, MayWake, Class}
use Rattle.core_locks.proofs.wait.TellLists.{waits_untold, waits_one}
use Rattle.core_locks.proofs.wait.Wakes.{IsCalmOrNotifies, at_still, others_out, was_waiting, at, reads}

module _ (w : World) (P : List PlainObject) (t o u n : ℕ) (within : t < w.shape.threads) (may : MayWake w.shape (w.known t) o u n) (v : Fits w P) where
  pub wait_forms : WordsHaveForms w.shape (marks w) (owner_words w) (λ z. with_word (Waiting u) (wait_of (Notified o)) w.words (Waiting z))
      (λ m. w.words (Object m)) (λ i. w.words (Class i)) (λ z q. w.words (Hold z q)) (w.words Safepoint)
  wait_forms = record {
    marks = v.forms.marks;
    owners = v.forms.owners;
    waits = λ z. at w P t o u n within may v (λ z y. IsWait w.shape (read_wait y)) z
        (subst (IsWait w.shape) (sym (reads w P t o u n within may v)) may.object.within) (λ d. v.forms.waits z);
    objects = v.forms.objects;
    holds = v.forms.holds;
    safepoint = v.forms.safepoint;
    classes = v.forms.classes;
  }

  -- another thread counts on the word where it is the owner of what u waits on, or is u, and was notified
  pub uncounted : (z s : ℕ) → z ≢ t → Stays w (w.known z) (owner_at P) z (Waiting u) s → w.words (Waiting u) ≡ s → ⊥
  uncounted z s d (inr a) is = a.2
  uncounted z s d (inl (r, inl a)) is =
      let same = waits_one _ o a.0 (was_waiting w P t o u n within may v) (ap (λ y. waits_on y a.0) is ∙ a.2) in
      let none = (others_out w P t o u n within may v z d).0 in
      cc (none, ap (λ i. owner_at P i z) (sym same) ∙ a.1)
  uncounted z s d (inl (r, inr a)) is =
      let none = waits_untold _ o a.1.0 (was_waiting w P t o u n within may v) in
      cc (none, (λ i. says_notified (is i) a.1.0) ∙ a.1.1)

  -- a thread that tells bears nothing
  pub held : (l : ThreadView) → IsCalmOrNotifies l.stage → (i : ℕ)
      → (owner_at P i t || bears l.stage i) ≡ true → (owner_at P i t || bears (w.known t).stage i) ≡ true
  held l now i h = by_owner (owner_at P i t) refl
    where
      none : bears l.stage i ≡ false
      none = at_still (λ s. bears s i ≡ false) l.stage now refl (λ j m. refl)

      by_owner : (b : Bool) → owner_at P i t ≡ b → (owner_at P i t || bears (w.known t).stage i) ≡ true
      by_owner true e = ap (λ c. c || bears (w.known t).stage i) e
      by_owner false e = absurd (cc (sym (ap (λ c. c || bears l.stage i) e) ∙ h, none))
