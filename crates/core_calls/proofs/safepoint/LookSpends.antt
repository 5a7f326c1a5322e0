-- The steps that look at all threads and objects at a reached safepoint are quiet, and at most so many; none of the looks keeps a shot.
use Rattle.std.proofs.Common.{ℕ, suc, ◌+◌, ◌*◌, ◌≡◌, length, Option, Some, None, refl, arith}
use Rattle.mark_word.specs.declared.mark.MarkForm.{MarkForm}
use Rattle.mark_word.specs.declared.mark.MarkForm.TheVariants.{Biased, Locked, Inflated}
use Rattle.mark_word.specs.declared.owner.OwnerForm.{OwnerForm}
use Rattle.mark_word.specs.declared.owner.OwnerForm.TheVariants.{Free, ByThread, ByRecord}
use Rattle.mark_word.specs.declared.wait.WaitForm.{WaitForm}
use Rattle.mark_word.specs.declared.wait.WaitForm.TheVariants.{Entering, Notified}
use Rattle.mark_word.specs.Mark.{read_mark}
use Rattle.mark_word.specs.Owner.{read_owner}
use Rattle.mark_word.specs.Wait.{read_wait}
use Rattle.plain_monitor.specs.Limits.{most_holds}
use Rattle.core_world.specs.declared.word_id.WordId.TheVariants.{Hold, Class, Prototype, Owner, Mark, Length, Waiting}
use Rattle.core_world.specs.declared.word_id.WordId.{WordId}
use Rattle.core_world.specs.declared.plan.LocalEffect.{LocalEffect}
use Rattle.core_world.specs.declared.plan.LocalEffect.TheVariants.{TakeShot}
use Rattle.core_world.specs.Words.Shape.{Shape}
use Rattle.core_world.specs.Words.Forms.{epoch_in}
use Rattle.core_world.specs.Locks.{has_epoch}
use Rattle.core_world.specs.Trees.Plans.{CallContext, load}
use Rattle.core_world.specs.Trees.StepTree.{StepTree, done, step, all_from}
use Rattle.core_world.specs.Trees.LookSteps.{look_at_holds, look_at_owner, look_at_named, look_at_objects, take_shot_steps}
use Rattle.core_world.specs.Trees.LookSteps.{look_at_monitor, look_at_object, look_at_wait, stands_still_steps}
use Rattle.core_world.specs.declared.plan.StepPlan.{StepPlan}
use Rattle.core_world.specs.declared.stage.Stage.TheVariants.{Settled}
use Rattle.core_calls.proofs.Paths.{IsQuietIf}
use Rattle.core_calls.proofs.Stays.{IsSparing, load_spares}
use Rattle.core_calls.proofs.Spends.{Spend, spend_done, spend_never, spend_more, spend_step, spend_either, spend_both, spend_all, spend_list}
use Rattle.core_calls.proofs.Spends.{spend_class, spend_so, quiet_step, of_call}

-- a quiet step that spares
abbrev pub IsTame : CallContext → StepPlan → Type 0
IsTame e p = IsQuietIf (Unit {0}) IsSparing e p

-- how many shots a step keeps
abbrev pub one_shot : LocalEffect → ℕ
one_shot TakeShot = 1
one_shot _ = 0

-- A look is tame, and keeps none.
pub record IsLook (e : CallContext) (p : StepPlan) : Type 0 where
  pub tame : IsTame e p
  pub none : one_shot p.own ≡ 0

module _ (e : CallContext) where
  look_is : (at : WordId) → IsLook e (load e at)
  look_is at = record {
    tame = record { note = refl; unfinished = refl; check = refl; passes = load_spares at; of = λ _. of_call refl tt };
    none = refl;
  }

  look_step : {A : Type 0} {f : ℕ → StepTree A} {n : ℕ} (at : WordId) → ((word : ℕ) → Spend (IsLook e) (λ _. 0) n (f word))
      → Spend (IsLook e) (λ _. 0) (suc n) (step (load e at) f)
  look_step at h = spend_step (look_is at) h

  -- the last look of such a walk
  last_look : (at : WordId) → Spend (IsLook e) (λ _. 0) 1 (step (load e at) (λ _. done (tt {0})))
  last_look at = look_step {n = 0} at (λ _. spend_done (omega arith))

  holds_spend : (t : ℕ) → Spend (IsLook e) (λ _. 0) 64 (look_at_holds e t)
  holds_spend t = spend_all {n = 1} 0 most_holds (λ p. last_look (Hold t p))

  owner_spends : (form : Option OwnerForm) → Spend (IsLook e) (λ _. 0) 64 (look_at_owner form e)
  owner_spends (Some (ByThread thread)) = holds_spend thread
  owner_spends (Some (ByRecord thread place)) = holds_spend thread
  owner_spends (Some Free) = spend_done (omega arith)
  owner_spends None = spend_done (omega arith)

  named_spends : (s : Shape) (o : ℕ) (form : Option MarkForm) → Spend (IsLook e) (λ _. 0) 66 (look_at_named form e s o)
  named_spends s o (Some (Biased thread epoch age)) =
      spend_class {n = 65} e Settled s o (look_is (Class o)) (λ class. look_step {n = 64} (Prototype class) (λ prototype.
      spend_either (has_epoch (epoch_in prototype) epoch) (holds_spend thread) (spend_done (omega arith))))
  named_spends s o (Some (Locked thread place)) = spend_more (omega arith) (holds_spend thread)
  named_spends s o (Some (Inflated monitor)) =
      spend_more {n = 65} (omega arith) (look_step {n = 64} (Owner monitor) (λ owner. owner_spends (read_owner owner)))
  named_spends s o _ = spend_done (omega arith)

  -- a shot looks at all objects and at the lengths of all logs, and keeps what it saw with its last step
  pub objects_spend : (s : Shape) → Spend (IsLook e) (λ _. 0) (67 * length s.objects) (look_at_objects e s)
  objects_spend s =
      spend_more (omega arith)
      (spend_all {n = 67} 0 (length s.objects) (λ o. look_step {n = 66} (Mark o) (λ mark. named_spends s o (read_mark mark))))

  pub lengths_spend : (s : Shape) → Spend (IsLook e) (λ _. 0) s.threads (all_from 0 s.threads (λ t. step (load e (Length t)) (λ _. done (tt {0}))))
  lengths_spend s = spend_more (omega arith) (spend_all {n = 1} 0 s.threads (λ t. last_look (Length t)))

  pub shot_spends : (s : Shape) → Spend (IsTame e) (λ _. 0) (67 * length s.objects + s.threads + 1) (take_shot_steps e s)
  shot_spends s =
      spend_both {k = s.threads + 1} (spend_so (λ p look. look.tame) (objects_spend s)) (λ _.
      spend_both {k = 1} (spend_so (λ p look. look.tame) (lengths_spend s)) (λ _.
      quiet_step {n = 0} refl refl refl tt (λ _. of_call refl tt) (λ _. spend_done (omega arith))) (omega arith)) (omega arith)

  monitor_spends : (t : ℕ) (form : Option MarkForm) → Spend (IsLook e) (λ _. 0) 1 (look_at_monitor form e t)
  monitor_spends t (Some (Inflated monitor)) = look_step {n = 0} (Owner monitor) (λ _. spend_done (omega arith))
  monitor_spends t _ = spend_never

  object_spends : (t o : ℕ) → Spend (IsLook e) (λ _. 0) 2 (look_at_object e t o)
  object_spends t o = look_step {n = 1} (Mark o) (λ mark. monitor_spends t (read_mark mark))

  wait_spends : (t : ℕ) (form : Option WaitForm) → Spend (IsLook e) (λ _. 0) 2 (look_at_wait form e t)
  wait_spends t (Some (Entering object)) = object_spends t object
  wait_spends t (Some (Notified object)) = object_spends t object
  wait_spends t None = spend_never
  wait_spends t _ = spend_done (omega arith)

  -- whether any thread can go on
  pub still_spends : (s : Shape) → Spend (IsLook e) (λ _. 0) (3 * s.threads) (stands_still_steps e s)
  still_spends s =
      spend_both {k = 0} (spend_list {n = 3} 0 s.threads (λ t. look_step {n = 2} (Waiting t) (λ word. wait_spends t (read_wait word))))
      (λ threads. spend_done (omega arith)) (omega arith)
