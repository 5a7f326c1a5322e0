-- What comes after the end of a bias: it is due where the mark has no bias pattern any more, and finds what its thread knew as the call began.
use Rattle.std.proofs.Common.{◌≡◌, ◌+◌, ◌≤◌, true, length, refl, ap, arith}
use Rattle.core_world.specs.declared.answer.Progress.{Progress}
use Rattle.core_world.specs.declared.answer.Progress.TheVariants.{Done, Pending}
use Rattle.core_world.specs.Threads.ThreadView.{Start, Local}
use Rattle.core_world.specs.Threads.Stages.{Revocation}
use Rattle.core_world.specs.Trees.Operations.{and_then, unbias_steps}
use Rattle.core_world.specs.Trees.Plans.{CallContext}
use Rattle.core_world.specs.Trees.StepTree.{StepTree, ◌>>=◌}
use Rattle.core_world.specs.Words.Shape.{Shape}
use Rattle.heap_table.specs.Parts.{IsDueOn, HasMadeSteps}
use Rattle.heap_table.specs.Resting.{start_now}
use Rattle.heap_table.specs.Seen.{HeapSeen, PassSeen}
use Rattle.heap_table.proofs.Aside.{StartsAlike, aside}
use Rattle.heap_table.proofs.Resting.{IsCallOf}
use Rattle.lock_runtime.proofs.After.{first_then, arm_first}
use Rattle.lock_runtime.proofs.Asides.{unbias_aside}
use Rattle.lock_runtime.proofs.PartMade.{PartMade}
use Rattle.lock_runtime.proofs.Revoked.{first_revoked}

-- FIRST STEPS are of their call
pub first_unbias : (s : Shape) (e : CallContext) (k : Start) (b : Revocation) → IsCallOf e.task (unbias_steps s e k b)
first_unbias s e k b = arm_first e.task k.requesting _ _ (first_revoked s k.local.thread true e b) refl

pub first_after : {A : Type 0} (s : Shape) (e : CallContext) (k : Start) (b : Revocation) (g : StepTree (Progress A)) → IsCallOf e.task g
    → IsCallOf e.task (unbias_steps s e k b >>= (λ (progress : Progress (Unit {0})). and_then progress (λ _. g)))
first_after {A = A} s e k b g first =
    first_then e.task (unbias_steps s e k b) (λ (progress : Progress (Unit {0})). and_then progress (λ _. g)) (first_unbias s e k b) by_progress
  where
    by_progress : (progress : Progress (Unit {0})) → IsCallOf e.task (and_then progress (λ _. g))
    by_progress (Done x) = first
    by_progress (Pending cause) = tt

-- THE END OF A BIAS is made in a call that goes on with g, where it is done
abbrev pub UnbiasMade : {A : Type 0} → HeapSeen → PassSeen → PassSeen → CallContext → Revocation → StepTree (Progress A) → Progress (Unit {0}) → Type 0
UnbiasMade h p q e b g progress = PartMade h p q e.task (unbias_steps h.heap.shape e (start_now h p) b) (λ progress. and_then progress (λ _. g)) progress

module _ {h : HeapSeen} {p q : PassSeen} {progress : Progress (Unit {0})} (e : CallContext) (b : Revocation)
    (made : HasMadeSteps h (unbias_steps h.heap.shape e (start_now h p) b) p q progress) where
  pub unbias_made : {A : Type 0} (g : StepTree (Progress A))
      → IsDueOn h p e.task (unbias_steps h.heap.shape e (start_now h p) b >>= (λ (progress : Progress (Unit {0})). and_then progress (λ _. g)))
      → UnbiasMade h p q e b g progress
  unbias_made g due = record { due = due; first = first_unbias h.heap.shape e (start_now h p) b; made = made }

  -- after it the call would begin as before
  pub unbias_alike : StartsAlike p.known q.known
  unbias_alike = aside h (unbias_steps h.heap.shape e (start_now h p) b) p q progress (unbias_aside h.heap.shape e (start_now h p) b) made

-- the log has room for two entries where it had
pub room_for_two : (p q : PassSeen) → StartsAlike p.known q.known → q.limit ≡ p.limit → length p.known.log + 2 ≤ p.limit → length q.known.log + 2 ≤ q.limit
room_for_two p q alike limit room = let logs = ap (λ (x : Local). length x.log) alike.local in omega (arith, logs, limit, room)
