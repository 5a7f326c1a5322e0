-- A step that logs nothing: the plain objects are the same before and after, and so are the locks' holders, where the thread bears the same.
use Rattle.core_locks.proofs.Prelude.{◌≡◌, ◌≢◌, ℕ, ◌||◌, List, sym, ap, ◌∙◌, is_thread, PlainObject, WordId, bears}
use Rattle.core_locks.proofs.Prelude.{ThreadView, World, with_word_and_known, who, owner_at, Fits, by_equal}
use Rattle.core_locks.proofs.Prelude.{with_known_here, with_known_else, same_Some, subst, objects_after, logs_stay}
use Rattle.core_world.proofs.enter_exit.ObjectHolds.{same_owner}

module _ (w : World) (P Q : List PlainObject) (at : WordId) (n t : ℕ) (l : ThreadView)
    (silent : l.log ≡ (w.known t).log) (before : Fits w P) (afterwards : Fits (with_word_and_known at n t l w) Q) where
  abbrev x : World
  x = with_word_and_known at n t l w

  pub same_objects : P ≡ Q
  same_objects = same_Some P Q (sym before.taken ∙ ap (objects_after w.shape.objects) (sym (logs_stay 0 w.shape.threads t l w.known silent)) ∙ afterwards.taken)

  -- a thread has a lock as before, where it bears the object as before
  has_as_before : (o u : ℕ) → bears (w.known u).stage o ≡ bears (x.known u).stage o → is_thread (who w o) u ≡ is_thread (who x o) u
  has_as_before o u same =
      before.owners.same o u ∙ ap (λ R. owner_at R o u || bears (w.known u).stage o) same_objects
      ∙ ap (λ b. owner_at Q o u || b) same ∙ sym (afterwards.owners.same o u)

  pub others_have : (o u : ℕ) → u ≢ t → is_thread (who w o) u ≡ is_thread (who x o) u
  others_have o u other = has_as_before o u (ap (λ k. bears k.stage o) (sym (with_known_else t l w.known u other)))

  pub holder_stays : (o : ℕ) → bears (w.known t).stage o ≡ bears l.stage o → who w o ≡ who x o
  holder_stays o same = same_owner (who w o) (who x o) (λ u. by_equal u t
      (λ e. subst (λ v. is_thread (who w o) v ≡ is_thread (who x o) v) (sym e)
      (has_as_before o t (same ∙ ap (λ k. bears k.stage o) (sym (with_known_here t l w.known)))))
      (λ d. others_have o u d))
