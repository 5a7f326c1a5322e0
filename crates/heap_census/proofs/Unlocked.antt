-- Marks that name no lock: nothing is looked at after them, and nobody has the object's lock.
use Rattle.std.proofs.Common.{◌≡◌, ℕ, None, Some, refl}
use Rattle.mark_word.specs.declared.mark.MarkForm.{MarkForm}
use Rattle.mark_word.specs.declared.mark.MarkForm.TheVariants.{Biased, Locked, Inflated}
use Rattle.core_world.specs.Threads.ThreadView.{ThreadView}
use Rattle.core_world.specs.Trees.LookSteps.{look_at_named}
use Rattle.core_world.specs.Trees.Plans.{CallContext}
use Rattle.core_world.specs.Trees.StepTree.{done}
use Rattle.core_world.specs.Words.Shape.{Shape}
use Rattle.heap_census.specs.inner.ShotParts.{cell_at}

module _ (e : CallContext) (s : Shape) (o : ℕ) where
  pub names_no_lock : (f : MarkForm)
      → ((t epoch age : ℕ) → f ≡ Biased t epoch age → ⊥) → ((t p : ℕ) → f ≡ Locked t p → ⊥) → ((m : ℕ) → f ≡ Inflated m → ⊥)
      → (look_at_named (Some f) e s o ≡ done tt) × ((l : ThreadView) → cell_at (Some f) s o l ≡ (None, 0))
  names_no_lock (Biased t epoch age) biased locked inflated = absurd (biased t epoch age refl)
  names_no_lock (Locked t p) biased locked inflated = absurd (locked t p refl)
  names_no_lock (Inflated m) biased locked inflated = absurd (inflated m refl)
  names_no_lock _ biased locked inflated = (refl, λ l. refl)
