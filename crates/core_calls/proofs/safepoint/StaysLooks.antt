-- The steps at a reached safepoint, which look at all threads and objects, revoke a bias or give idle monitors back, leave the safepoint word alone.
use Rattle.std.proofs.Common.{ℕ, Option}
use Rattle.core_world.specs.declared.stage.Stage.{Stage}
use Rattle.core_world.specs.Threads.Stages.{Revocation}
use Rattle.core_world.specs.Trees.DeflateSteps.{deflate_steps}
use Rattle.core_world.specs.Trees.LookSteps.{take_shot_steps, stands_still_steps}
use Rattle.core_world.specs.Trees.Plans.{CallContext}
use Rattle.core_world.specs.Trees.RevocationSteps.{decided_steps, revoke_at_safepoint_steps}
use Rattle.core_world.specs.Words.Shape.{Shape}
use Rattle.core_calls.proofs.bias.RevocationSpends.{decided_spends, revoke_at_safepoint_spends}
use Rattle.core_calls.proofs.deflation.DeflationSpends.{deflate_spends}
use Rattle.core_calls.proofs.safepoint.LookSpends.{shot_spends, still_spends}
use Rattle.core_calls.proofs.Spends.{spend_passes}
use Rattle.core_calls.proofs.Stays.{Passes, Stay, Whatever, IsSparing, sparing_apart}

pub decided_spares : (e : CallContext) (b : Revocation) (s : Shape) (t c : ℕ) (epoch : Option ℕ) (count last : ℕ)
    → Passes IsSparing Whatever (decided_steps s t c e b epoch count last)
decided_spares e b s t c epoch count last = spend_passes (λ p q. q.passes) (decided_spends e b s t c epoch count last)

pub shot_stays : (e : CallContext) (s : Shape) → Stay Whatever (take_shot_steps e s)
shot_stays e s = spend_passes (λ p q. sparing_apart p.at p.act q.passes) (shot_spends e s)

pub still_stays : (e : CallContext) (s : Shape) → Stay Whatever (stands_still_steps e s)
still_stays e s = spend_passes (λ p q. sparing_apart p.at p.act q.tame.passes) (still_spends e s)

pub revocation_stays : (e : CallContext) (b : Revocation) (s : Shape) (t : ℕ) → Stay Whatever (revoke_at_safepoint_steps s t e b)
revocation_stays e b s t = spend_passes (λ p q. sparing_apart p.at p.act q.passes) (revoke_at_safepoint_spends e b s t)

pub deflation_stays : (e : CallContext) (s : Shape) (stage : Stage) → Stay Whatever (deflate_steps s e stage)
deflation_stays e s stage = spend_passes (λ p q. q.passes) (deflate_spends e s stage)
