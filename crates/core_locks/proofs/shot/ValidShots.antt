-- The shots fit in every valid world, also while a bias is being revoked: the requester's revocation keeps none and logs nothing.
use Rattle.core_locks.proofs.Prelude.{◌≡◌, ℕ, List, refl, sym, ap, ◌∙◌, inl, inr, PlainObject, ThreadView, World, logs, IsValid, by_equal, ShotsFit, frame5}
use Rattle.core_world.specs.Valid.{IsRevoking, requester_known}
use Rattle.core_locks.proofs.hash.DrawnLogs.{revoking_logs}

module _ (w : World) (P : List PlainObject) (s : IsRevoking w P) where
  part_stays : {A : Type 0} (part : ThreadView → A)
      → ((k : ThreadView) → part (s.before.known s.requester) ≡ part (requester_known s.before s.requester s.revocation k))
      → ◌≡◌ {A = ℕ → A} (λ t. part (s.before.known t)) (λ t. part (w.known t))
  part_stays part same =
      let at : (t : ℕ) → part (s.before.known t) ≡ part (w.known t) = λ t. by_equal t s.requester
      (λ e. ap (λ u. part (s.before.known u)) e ∙ same (w.known s.requester) ∙ ap part (sym s.knows) ∙ ap (λ u. part (w.known u)) (sym e))
      (λ d. ap part (sym (s.others t d))) in
      λ i. λ t. at t i

pub valid_shots : (w : World) (P : List PlainObject) → IsValid w P
    → ShotsFit w.shape.objects (logs w) (λ t. (w.known t).log) (λ t. (w.known t).shots) (λ t. (w.known t).unfinished)
valid_shots w P (inl v) = v.shots
valid_shots w P (inr s) =
    frame5 ShotsFit (λ i. (sym s.shape i).objects) (sym (revoking_logs w P s))
    (part_stays w P s (λ k. k.log) (λ k. refl)) (part_stays w P s (λ k. k.shots) (λ k. refl))
    (part_stays w P s (λ k. k.unfinished) (λ k. refl)) s.fits.shots
