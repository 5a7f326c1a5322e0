use Rattle.std.proofs.Common.{sym, subst, refl, inl}
use Rattle.lock_runtime_c.specs.Opening.{Opens}
use Rattle.lock_runtime_c.specs.declared.inner.Inner.{Inner}
use Rattle.lock_runtime_c.specs.declared.inner.Inner.TheVariants as inner
use Rattle.lock_runtime_c.specs.declared.outcome.Outcome.TheVariants.{Done}
use Rattle.lock_runtime_c.specs.declared.outcome.Said.TheVariants.{Nothing}
use Rattle.lock_runtime_c.proofs.makes.open_within.Goals as goal

pub returns-in-Ok-clause-opens : goal.returns-in-Ok-clause-opens
returns-in-Ok-clause-opens c =
    subst (λ (i : Inner). Opens i (inner.Room c.in-Ok.room) (Done Nothing)) (sym c.in-Plan.is) (inl (refl, c.in-Ok.room, refl, c.in-Ok.ensures))
