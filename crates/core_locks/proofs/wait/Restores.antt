-- A thread that has the monitor of its wait again stores the recursions that it saved.
use Rattle.core_locks.proofs.Prelude.{◌≡◌, ◌⊎◌, ℕ, refl, inl, inr, Resumes, Waits, CallContext, fits_running, KeepsValid, MayRestore, restore_plan}
use Rattle.core_locks.proofs.wait.InWait.{count_fits}

pub restores_recursions : (e : CallContext) (o m word : ℕ) → KeepsValid (λ w t. MayRestore (w.known t) e o m) (λ w t. restore_plan e o m word)
restores_recursions e o m word w P t within may valid =
    let v = fits_running w P t may.runs valid in
    let which : (Resumes o ≡ Waits o) ⊎ (Resumes o ≡ Resumes o) = inr refl in
    inl (count_fits w P t e o m (Resumes o) within (search (may, which)) v word)
