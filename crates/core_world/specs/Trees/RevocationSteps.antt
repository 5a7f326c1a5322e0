-- The steps that revoke a bias at a reached safepoint. They load what the rules of `RevocationRules` go by, and make their stores.
use Rattle.std.specs.Prelude.{ℕ, ◌+◌, ◌%◌, ◌==◌, not, is_none, if◌then◌else◌, Bool, false, List, [], ◌∷◌, Option, Some, None}
use Rattle.plain_monitor.specs.Limits.{most_holds}
use Rattle.mark_word.specs.declared.mark.MarkForm.{MarkForm}
use Rattle.mark_word.specs.declared.mark.MarkForm.TheVariants.{Neutral, Anonymous, Biased}
use Rattle.mark_word.specs.Mark.{mark_of, read_mark}
use Rattle.mark_word.specs.Hold.{read_hold}
use Rattle.lock_policy.specs.declared.policy.Verdict.{Verdict}
use Rattle.lock_policy.specs.declared.policy.Verdict.TheVariants.{Single, BulkRebias, BulkRevoke}
use Rattle.lock_policy.specs.Policy.{decided, is_reset}
use Rattle.core_world.specs.declared.word_id.WordId.{WordId}
use Rattle.core_world.specs.declared.word_id.WordId.TheVariants.{Prototype, Revocations, LastBulk, Mark, Hold}
use Rattle.core_world.specs.declared.plan.LocalEffect.{LocalEffect}
use Rattle.core_world.specs.declared.plan.LocalEffect.TheVariants as own
use Rattle.core_world.specs.declared.plan.StepPlan.{StepPlan}
use Rattle.core_world.specs.declared.stage.Stage.{Stage}
use Rattle.core_world.specs.declared.stage.Stage.TheVariants.{Settled, Revokes}
use Rattle.core_world.specs.Words.Shape.{Shape}
use Rattle.core_world.specs.Words.Forms.{epoch_in, is_biased}
use Rattle.core_world.specs.Threads.Stages.{Revocation}
use Rattle.core_world.specs.RevocationRules.{Write, write, raised_form, with_epoch, store_where, object_held, biased_word, revoke_biased}
use Rattle.core_world.specs.Locks.{is_valid_bias}
use Rattle.core_world.specs.Trees.StepTree.{StepTree, done, unreachable, ◌>>=◌, ask, each_from, all_from}
use Rattle.core_world.specs.Trees.Plans.{CallContext, with_stage, with_own, load_plan, load, store, class_steps}

abbrev pub revocation_stage : Revocation → Stage
revocation_stage b = Revokes b.object b.rebias b.now

-- THE PLAN of a store in the middle of a revocation, of which the thread keeps this for itself.
abbrev pub revoke_plan : CallContext → Revocation → LocalEffect → WordId → ℕ → StepPlan
revoke_plan e b keep at word = with_own keep (with_stage (revocation_stage b) (store e at word))

-- THE STEPS. A load in the middle of a revocation.
abbrev pub look : CallContext → Revocation → WordId → StepTree ℕ
look e b at = ask (load_plan e (revocation_stage b) at)

-- these stores, one after the other
abbrev pub store_steps : CallContext → Revocation → List Write → StepTree (Unit {0})
store_steps e b [] = done tt
store_steps e b (x ∷ xs) = do
  _ ← ask (revoke_plan e b own.Unchanged x.at x.word)
  store_steps e b xs

abbrev pub revoke_at : Option MarkForm → CallContext → Revocation → ℕ → Bool → StepTree (Unit {0})
revoke_at (Some (Anonymous epoch age)) e b o allowed =
    store_steps e b (if allowed then [] else write (Mark o) (mark_of (Neutral 0 0)) ∷ [])
revoke_at (Some (Biased thread epoch age)) e b o allowed = do
  holds ← each_from 0 most_holds (λ p. look e b (Hold thread p))
  store_steps e b (revoke_biased o thread allowed holds)
revoke_at _ e b o allowed = done tt

-- the revocation of o's bias, where a new bias is allowed or not
abbrev pub revoke_steps : CallContext → Revocation → ℕ → Bool → StepTree (Unit {0})
revoke_steps e b o allowed = do
  mark ← look e b (Mark o)
  revoke_at (read_mark mark) e b o allowed

-- the visit of a biased object of class c that a record names, with its mark
abbrev pub visit_held : Shape → ℕ → CallContext → Revocation → (ℕ → ℕ → StepTree (Unit {0})) → Option ℕ → StepTree (Unit {0})
visit_held s c e b visit None = done tt
visit_held s c e b visit (Some o) = do
  class ← class_steps e (revocation_stage b) s o
  if class == c then (do
    mark ← look e b (Mark o)
    if is_biased mark then visit o mark else done tt) else done tt

-- the records of all threads, by rising thread and place
abbrev pub walk_steps : Shape → ℕ → CallContext → Revocation → (ℕ → ℕ → StepTree (Unit {0})) → StepTree (Unit {0})
walk_steps s c e b visit = all_from 0 s.threads (λ t. all_from 0 most_holds (λ p. do
  hold ← look e b (Hold t p)
  visit_held s c e b visit (object_held (read_hold hold))))

-- An enter takes the new bias, where mark and prototype have the bias pattern still. It answers whether it did.
abbrev pub take_bias_steps : CallContext → Revocation → Option ℕ → ℕ → StepTree Bool
take_bias_steps e b epoch t = do
  mark ← look e b (Mark b.object)
  _ ← store_steps e b (store_where (Mark b.object) (biased_word (is_biased mark) epoch t))
  done (not (is_none (biased_word (is_biased mark) epoch t)))

abbrev pub next_epoch : Option ℕ → Option ℕ
next_epoch None = None
next_epoch (Some epoch) = Some ((epoch + 1) % 4)

abbrev pub bulk_rebias_steps : Shape → ℕ → ℕ → CallContext → Revocation → Option ℕ → StepTree Bool
bulk_rebias_steps s t c e b epoch = do
  _ ← store_steps e b (write (LastBulk c) b.now ∷ [])
  _ ← store_steps e b (raised_form epoch c)
  _ ← walk_steps s c e b
      (λ o mark. store_steps e b (store_where (Mark o) (with_epoch (read_mark mark) (next_epoch epoch))))
  _ ← revoke_steps e b b.object b.rebias
  if b.rebias then take_bias_steps e b (next_epoch epoch) t else done false

abbrev pub bulk_revoke_steps : Shape → ℕ → CallContext → Revocation → StepTree (Unit {0})
bulk_revoke_steps s c e b = do
  _ ← store_steps e b (write (LastBulk c) b.now ∷ [])
  _ ← store_steps e b (write (Prototype c) (mark_of (Neutral 0 0)) ∷ [])
  _ ← walk_steps s c e b (λ o mark. revoke_at (read_mark mark) e b o false)
  revoke_steps e b b.object false

-- whether the requester gave itself a new bias
abbrev pub verdict_steps : Shape → ℕ → ℕ → CallContext → Revocation → Option ℕ → Verdict → StepTree Bool
verdict_steps s t c e b epoch Single = do
  _ ← revoke_steps e b b.object false
  done false
verdict_steps s t c e b epoch BulkRebias = bulk_rebias_steps s t c e b epoch
verdict_steps s t c e b epoch BulkRevoke = do
  _ ← bulk_revoke_steps s c e b
  done false

-- what a revocation answers: the verdict, and whether the requester gave itself a new bias
pub record RevocationOutcome : Type 0 where
  pub verdict : Verdict
  pub took : Bool

-- The new count is stored, and the thread counts the verdict; then it is carried out.
abbrev pub decided_steps : Shape → ℕ → ℕ → CallContext → Revocation → Option ℕ → ℕ → ℕ → StepTree RevocationOutcome
decided_steps s t c e b epoch count last = do
  _ ← ask (revoke_plan e b (own.CountVerdict c (decided count last b.now).0 (is_reset count last b.now))
      (Revocations c) (decided count last b.now).1)
  took ← verdict_steps s t c e b epoch (decided count last b.now).0
  done (record { verdict = (decided count last b.now).0; took = took })

-- The revocation of a bias at thread t's reached safepoint. The mark is loaded again, and still has the valid bias, since no thread changes one
-- without a safepoint.
abbrev pub revoke_at_safepoint_steps : Shape → ℕ → CallContext → Revocation → StepTree RevocationOutcome
revoke_at_safepoint_steps s t e b = do
  mark ← ask (load e (Mark b.object))
  class ← class_steps e Settled s b.object
  prototype ← ask (load e (Prototype class))
  count ← ask (load e (Revocations class))
  last ← ask (load e (LastBulk class))
  if is_valid_bias (read_mark mark) prototype
      then decided_steps s t class e b (epoch_in prototype) count last else unreachable
