use Rattle.std.proofs.Common.{◌≡◌, ◌≢◌, ℕ, Bool, cond, List, None, refl, sym, ap, ◌∙◌, subst, eq-eqb, inl, inr}
use Rattle.plain_monitor.specs.Objects.{PlainObject}
use Rattle.plain_history.specs.HeldByLog.{HasLetGo}
use Rattle.core_world.specs.declared.word_id.WordId.TheVariants.{Stamp}
use Rattle.core_world.specs.Words.Names.{with_word}
use Rattle.core_world.specs.World.{World}
use Rattle.core_world.specs.Locks.{monitor_of}
use Rattle.core_world.specs.Valid.{Fits}
use Rattle.core_world.proofs.enter_exit.OwnersShown.{running_fits}
use Rattle.core_world.proofs.refused.no_stamp_from_nowhere.Goals as goal

-- the world in which the stamp word is n
abbrev stamped : World → ℕ → ℕ → World
stamped w o n = record w { words = with_word (Stamp o) n w.words }

no_stamp_from_nowhere : (w : World) (objects : List PlainObject) (o n : ℕ) → (monitor_of objects o).owner ≡ None
    → n ≢ 0 → ((t : ℕ) → HasLetGo (w.known t).log o n → ⊥) → Fits (stamped w o n) objects → ⊥
no_stamp_from_nowhere w objects o n nobody some unlogged fits =
    let is : (stamped w o n).words (Stamp o) ≡ n = ap (λ (b : Bool). cond b n (w.words (Stamp o))) (eq-eqb o o refl) in
    elim (fits.stamps.exact o) [
      | inl zero ↦ some (sym is ∙ zero)
      | inr (inl let_go) ↦ unlogged let_go.0 (subst (HasLetGo (w.known let_go.0).log o) is let_go.1)
      | inr (inr raised) ↦ let owns = raised.owns in absurd (cc (nobody, owns))
    ]

pub returns : goal.returns
returns c w o n s v runs nobody some unlogged = no_stamp_from_nowhere w v.objects o n nobody some unlogged (running_fits (stamped w o n) v s runs)
