-- What each operation says of its calls.
use Rattle.std.proofs.Common.{◌≡◌, ◌⊎◌, ℕ, cond, Bool, true, false, List, [], Option, refl, ◌∙◌, subst, inl, inr}
use Rattle.core_world.specs.declared.heap_call.HeapCall.{HeapCall}
use Rattle.core_world.specs.declared.heap_call.Unfinished.{Unfinished}
use Rattle.core_world.specs.declared.answer.BiasTry.{BiasTry}
use Rattle.core_world.specs.declared.answer.BiasTry.TheVariants.{Took, Unbiased, Valid, Raced}
use Rattle.core_world.specs.declared.answer.Progress.{Progress}
use Rattle.core_world.specs.declared.answer.Progress.TheVariants.{Done, Pending}
use Rattle.core_world.specs.declared.answer.PendingCause.{PendingCause}
use Rattle.core_world.specs.Threads.ThreadView.{Start, StepMade}
use Rattle.core_world.specs.Trees.Plans.{CallContext, done_with}
use Rattle.core_world.specs.Words.Shape.{Shape}
use Rattle.core_world.specs.Threads.Stages.{Revocation}
use Rattle.core_world.specs.Trees.StepTree.{StepTree, ◌>>=◌}
use Rattle.core_world.specs.Trees.DeflateSteps.{deflate_steps}
use Rattle.core_world.specs.Trees.BiasSteps.{bias_drop_steps, stage_after}
use Rattle.core_world.specs.Trees.SafepointSteps.{released_word, safepoint_steps, release_to}
use Rattle.core_world.specs.Trees.RevocationSteps.{RevocationOutcome, revoke_at_safepoint_steps}
use Rattle.core_world.specs.Trees.Operations.{and_then, revocation_steps, revoked_steps, unbias_tried, unbias_steps}
use Rattle.core_calls.specs.Paths.{Always, Leaves}
use Rattle.core_calls.specs.Causes.{Requests, is_stopping}
use Rattle.core_calls.proofs.Paths.{always_then, either_way, Silent, Still, still}
use Rattle.core_calls.proofs.Spends.{spend_quietly}
use Rattle.core_calls.proofs.bias.BiasSay.{DropSays, bias_drop_says}
use Rattle.core_calls.proofs.safepoint.SafepointsSay.{SafeProgress, safepoint_says, Released, release_says}
use Rattle.core_calls.proofs.Reasons.{Reasons}
use Rattle.core_calls.proofs.deflation.DeflationSpends.{deflate_spends}
use Rattle.core_calls.proofs.bias.RevocationSpends.{revoke_at_safepoint_spends}

-- a part that is done goes on, and one that is pending is the answer
pub then_says : {A B : Type 0} (P : List StepMade → Progress A → Type 0) (Q : List StepMade → Progress B → Type 0) (progress : Progress A)
    (f : A → StepTree (Progress B)) (ms : List StepMade) → P ms progress → ((a : A) → P ms (Done a) → Always Q ms (f a))
    → ((why : PendingCause) → P ms (Pending why) → Q ms (Pending why)) → Always Q ms (and_then progress f)
then_says P Q (Done a) f ms h go end = go a h
then_says P Q (Pending why) f ms h go end = end why h

-- a call that leaves this unfinished, and no check
abbrev pub working : HeapCall → Option Unfinished → CallContext
working task u = record { task = task; unfinished = u; check = false }

-- no check is unfinished, for whatever reason such a call is pending
pub no_check : {ms : List StepMade} {u : Option Unfinished} (why : PendingCause) → Leaves [] u (cond (is_stopping why) false false) ms → Leaves [] u false ms
no_check {ms} {u} why h = subst (λ check. Leaves [] u check ms) (same (is_stopping why)) h
  where
    same : (b : Bool) → cond b false false ≡ false
    same true = refl
    same false = refl

module _ (s : Shape) (k : Start) (task : HeapCall) (u : Option Unfinished) (o : ℕ)
    (For : PendingCause → List StepMade → Type 0) (may : Reasons k.requesting k.local.thread o For) where
  -- a part of the operation logs nothing
  abbrev pub PartProgress : (A : Type 0) → List StepMade → Progress A → Type 0
  PartProgress A ms (Done a) = Leaves [] u false ms
  PartProgress A ms (Pending why) = Leaves [] u false ms × For why ms

  -- a part is told of the request that the call began with
  told : (requesting : Bool) (ms : List StepMade) → k.requesting ≡ requesting
      → (requesting ≡ true) ⊎ Requests k.local.thread ms → (k.requesting ≡ true) ⊎ Requests k.local.thread ms
  told requesting ms same (inl stands) = inl (same ∙ stands)
  told requesting ms same (inr made) = inr made

  pub revocation_says : (requesting : Bool) → k.requesting ≡ requesting → (b : Revocation) (ms : List StepMade)
      → Still ms → Always (PartProgress Bool) ms (revocation_steps s k.local.thread requesting (working task u) b)
  revocation_says requesting same b ms h =
      always_then (SafeProgress (working task u) k.local.thread For) (PartProgress Bool)
      (safepoint_steps (working task u) k.local.thread requesting) (λ progress. and_then progress its_revocation) ms
      (safepoint_says (working task u) k.local.thread For requesting (λ word ms moves loaded stands. may.stops word ms moves loaded
      (told requesting ms same stands)) (λ none. may.races) (λ none. may.asks (same ∙ none)) ms h)
      (λ ms progress so. then_says (SafeProgress (working task u) k.local.thread For) (PartProgress Bool) progress its_revocation ms so
      (λ _ reached. always_then (λ ms _. Silent (working task u) ms) (PartProgress Bool)
      (revoke_at_safepoint_steps s k.local.thread (working task u) b) deflates ms
      (spend_quietly ms (revoke_at_safepoint_spends (working task u) b s k.local.thread) reached.0)
      (λ ms outcome silent. always_then (λ ms _. Silent (working task u) ms) (PartProgress Bool)
      (deflate_steps s (working task u) (stage_after outcome.took b.object)) (λ _. releases outcome) ms
      (spend_quietly ms (deflate_spends (working task u) s (stage_after outcome.took b.object)) silent)
      (λ ms _ silent. always_then (Released (working task u) k.local.thread (released_word k.local.thread)) (PartProgress Bool)
      (release_to (stage_after outcome.took b.object) (working task u) k.local.thread) (λ _. done_with outcome.took) ms
      (release_says (working task u) k.local.thread (stage_after outcome.took b.object) ms (still silent)) (λ ms _ so. so.0))))
      (λ why so. (no_check why so.0, so.1)))
    where
      releases : RevocationOutcome → StepTree (Progress Bool)
      releases outcome = release_to (stage_after outcome.took b.object) (working task u) k.local.thread >>= λ _. done_with outcome.took

      deflates : RevocationOutcome → StepTree (Progress Bool)
      deflates outcome = deflate_steps s (working task u) (stage_after outcome.took b.object) >>= λ _. releases outcome

      its_revocation : Unit {0} → StepTree (Progress Bool)
      its_revocation _ = revoke_at_safepoint_steps s k.local.thread (working task u) b >>= deflates

  revoked_says : (requesting : Bool) → k.requesting ≡ requesting → (b : Revocation) (ms : List StepMade)
      → Still ms → Always (PartProgress (Unit {0})) ms (revoked_steps s k.local.thread requesting (working task u) b)
  revoked_says requesting same b ms h =
      always_then (PartProgress Bool) (PartProgress (Unit {0})) (revocation_steps s k.local.thread requesting (working task u) b)
      (λ progress. and_then progress (λ _. done_with tt)) ms (revocation_says requesting same b ms h)
      (λ ms progress so. then_says (PartProgress Bool) (PartProgress (Unit {0})) progress (λ _. done_with tt) ms so (λ _ so. so) (λ why so. so))

  tried_says : k.requesting ≡ false → (tried : BiasTry) (b : Revocation) (ms : List StepMade)
      → DropSays (working task u) ms tried → Always (PartProgress (Unit {0})) ms (unbias_tried tried s (working task u) k b)
  tried_says none (Took path) b ms h = tt
  tried_says none (Unbiased mark) b ms h = h
  tried_says none (Valid mark) b ms h = revoked_says false none b ms (still h)
  tried_says none (Raced expected found) b ms h = (h.0, may.races expected found ms h.1)

  pub unbias_says : (b : Revocation) (ms : List StepMade) → Still ms → Always (PartProgress (Unit {0})) ms (unbias_steps s (working task u) k b)
  unbias_says b ms h =
      either_way (PartProgress (Unit {0})) ms k.requesting _ _ (λ stands. revoked_says true stands b ms h)
      (λ none. always_then (DropSays (working task u)) (PartProgress (Unit {0}))
      (bias_drop_steps s (working task u) b.object) (λ tried. unbias_tried tried s (working task u) k b) ms
      (bias_drop_says (working task u) b.object s ms h) (λ ms tried so. tried_says none tried b ms so))
