-- The load that ends a revocation, after which the thread may take its new bias still: the law of biases held of the world before its first
-- store, and holds of the world after it.
use Rattle.std.proofs.Common.{refl, sym, ◌∙◌, Bool, List, subst}
use Rattle.plain_monitor.specs.Objects.{PlainObject}
use Rattle.core_world.specs.declared.word_id.WordId.{WordId}
use Rattle.core_world.specs.declared.word_id.WordId.TheVariants.{Safepoint}
use Rattle.core_world.specs.Trees.BiasSteps.{stage_after}
use Rattle.core_world.specs.Trees.Plans.{CallContext, load_plan}
use Rattle.core_world.specs.Steps.{world_after, known_hit}
use Rattle.core_world.specs.Valid.{IsRevoking}
use Rattle.core_world.specs.World.{World}
use Rattle.core_world.proofs.Naming.{with_knowledge_alone}
use Rattle.core_law.specs.BiasLaw.{BiasLawHolds}
use Rattle.bias_law.specs.Steps.{MayEndRevocation}
use Rattle.bias_law.proofs.bias.RevocationEnds.{ended}

pub revocation_looked : (w : World) (P : List PlainObject) (s : IsRevoking w P) (e : CallContext) (took : Bool) (at : WordId)
    → MayEndRevocation w P s e took → BiasLawHolds s.before
    → BiasLawHolds (world_after (load_plan e (stage_after took s.revocation.object) at) s.requester w)
revocation_looked w P s e took at may law =
    let l = known_hit w.shape w.start (load_plan e (stage_after took s.revocation.object) at) (w.words at) (w.known s.requester) in
    subst BiasLawHolds
    (with_knowledge_alone Safepoint (w.words Safepoint) s.requester l w refl ∙ sym (with_knowledge_alone at (w.words at) s.requester l w refl))
    (ended w P s e took may law l (w.words Safepoint) refl refl may.goes_on refl)
