-- An object that isn't there: nobody has its bias, or is about to enter it.
use Rattle.std.proofs.Common.{◌≡◌, ◌⊎◌, ℕ, ◌==◌, cond, Bool, true, false, List, Some, None, refl, ap, ◌∙◌, arith, inl, inr}
use Rattle.plain_monitor.specs.declared.entry.Path.{Path}
use Rattle.plain_monitor.specs.declared.entry.Path.TheVariants.{BiasTaken}
use Rattle.plain_monitor.specs.Objects.{PlainObject}
use Rattle.core_world.specs.declared.stage.Stage.{Stage}
use Rattle.core_world.specs.declared.stage.Stage.TheVariants.{Settled, BiasAcquired, Enters}
use Rattle.core_world.specs.Words.Forms.{is_biased}
use Rattle.core_world.specs.Threads.ThreadView.{ThreadView}
use Rattle.core_world.specs.Threads.Stages.{hold_words_ahead, one_if, path_into}
use Rattle.core_world.specs.Locks.{BiasedTo, lock, marks}
use Rattle.core_world.specs.Valid.{Fits}
use Rattle.core_world.specs.World.{World, with_known}
use Rattle.core_world.proofs.KnowledgeParts.{each_with_known}
use Rattle.core_law.specs.BiasLaw.{BiasLawHolds}
use Rattle.bias_law.specs.Making.{IsUntouched}
use Rattle.bias_law.proofs.Leaning.{leans_by_mark}

-- Nobody is about to enter an object whose mark has no bias pattern, and for which nobody has a hold word: who is about to log an Enter has a bias
-- of it, or a hold word that the log doesn't tell yet
comes_by : (s : Stage) (o : ℕ) (path : Path) → path_into s o ≡ Some path → (path_into s o ≡ Some BiasTaken) ⊎ (hold_words_ahead s o ≡ 1)
comes_by (BiasAcquired i) o path e = by_test (i == o) refl e
  where
    by_test : (b : Bool) → (i == o) ≡ b → cond b (Some BiasTaken) None ≡ Some path
        → (cond (i == o) (Some BiasTaken) None ≡ Some BiasTaken) ⊎ ◌≡◌ {A = ℕ} 0 1
    by_test true is h = inl (ap (λ (c : Bool). cond c (Some BiasTaken) None) is)
    by_test false is h = absurd (cc h)
comes_by (Enters i p q) o path e = by_test (i == o) refl e
  where
    by_test : (b : Bool) → (i == o) ≡ b → cond b (Some q) None ≡ Some path
        → (cond (i == o) (Some q) None ≡ Some BiasTaken) ⊎ (one_if (i == o) ≡ 1)
    by_test true is h = inr (ap one_if is)
    by_test false is h = absurd (cc h)
comes_by _ o path e = absurd (cc e)

module _ (w : World) (P : List PlainObject) (o : ℕ) (u : IsUntouched w o) (v : Fits w P) (law : BiasLawHolds w) where
  pub unleant : (i t : ℕ) → i ≡ o → lock w i ≡ BiasedTo t → ⊥
  unleant i t s h =
      let biased = (leans_by_mark w i t h).0 in
      let none = ap (λ j. is_biased (marks w j)) s ∙ u.unbiased in
      cc (biased, none)

  unentering : (t : ℕ) (path : Path) → path_into (w.known t).stage o ≡ Some path → ⊥
  unentering t path h = elim (comes_by (w.known t).stage o path h) [
    | inl taking ↦ unleant o t refl (law.marks.biased t o BiasTaken taking refl)
    | inr ahead ↦ let number = v.holds.number t o in let none = u.unheld t in omega (arith, number, none, ahead)
  ]

  -- nor is anybody after a step that leaves its thread in the middle of nothing
  pub unentering_then : (t : ℕ) (l : ThreadView) → l.stage ≡ Settled → (s : ℕ) (path : Path)
      → path_into (with_known t l w.known s).stage o ≡ Some path → ⊥
  unentering_then t l calm s =
      each_with_known (λ s k. (path : Path) → path_into k.stage o ≡ Some path → ⊥) t l w.known s
      (λ path h. let none = ap (λ k. path_into k o) calm in cc (none, h)) (λ d. unentering s)
