-- The trees of revocations and of attempts on a bias: their first steps, and what they take of their thread's knowledge.
use Rattle.std.proofs.Common.{◌≡◌, ℕ, Bool, true, false, refl}
use Rattle.core_world.specs.declared.answer.Progress.{Progress}
use Rattle.core_world.specs.Threads.ThreadView.{Start}
use Rattle.core_world.specs.Threads.Stages.{Revocation}
use Rattle.core_world.specs.Words.Shape.{Shape}
use Rattle.core_world.specs.Trees.BiasSteps.{bias_after_steps}
use Rattle.core_world.specs.Trees.Operations.{and_then, revocation_steps, revoked_steps, enter_revoked}
use Rattle.core_world.specs.Trees.Plans.{CallContext}
use Rattle.core_world.specs.Trees.SafepointSteps.{safepoint_steps}
use Rattle.core_world.specs.Trees.StepTree.{◌>>=◌}
use Rattle.heap_table.proofs.Resting.{IsCallOf}
use Rattle.lock_runtime.specs.inner.Parts.{enter_again}
use Rattle.lock_runtime.proofs.Entered.{unbiased_alike}

pub first_safepoint : (e : CallContext) (t : ℕ) (requesting : Bool) → IsCallOf e.task (safepoint_steps e t requesting)
first_safepoint e t true = refl
first_safepoint e t false = refl

pub first_revocation : (s : Shape) (t : ℕ) (requesting : Bool) (e : CallContext) (b : Revocation) → IsCallOf e.task (revocation_steps s t requesting e b)
first_revocation s t true e b = refl
first_revocation s t false e b = refl

pub first_revoked : (s : Shape) (t : ℕ) (requesting : Bool) (e : CallContext) (b : Revocation) → IsCallOf e.task (revoked_steps s t requesting e b)
first_revoked s t true e b = refl
first_revoked s t false e b = refl

-- an enter goes by what its thread knows of itself
pub revoked_alike : (s : Shape) (requesting : Bool) (e : CallContext) (k l : Start) (b : Revocation) → k.local ≡ l.local → k.kept ≡ l.kept
    → enter_revoked s requesting e k b ≡ enter_revoked s requesting e l b
revoked_alike s requesting e k l b local kept = λ i. revocation_steps s (local i).thread requesting e b >>= (λ (progress : Progress Bool). and_then progress
    (λ took. bias_after_steps e (local i) b.object took >>= (λ tried. unbiased_alike s e k l b.object local kept tried i)))

pub again_alike : (s : Shape) (e : CallContext) (k l : Start) (o : ℕ) (took : Bool)
    → k.local ≡ l.local → k.kept ≡ l.kept → enter_again s e k o took ≡ enter_again s e l o took
again_alike s e k l o took local kept = λ i. bias_after_steps e (local i) o took >>= (λ tried. unbiased_alike s e k l o local kept tried i)
