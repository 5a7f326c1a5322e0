-- The end of a wait, by what its words say.
use Rattle.std.proofs.Common.{◌≡◌, ℕ, ◌==◌, Bool, true, false, cond, Some, refl}
use Rattle.mark_word.specs.declared.mark.MarkForm.{MarkForm}
use Rattle.mark_word.specs.declared.mark.MarkForm.TheVariants.{Inflated}
use Rattle.mark_word.specs.declared.owner.OwnerForm.{OwnerForm}
use Rattle.mark_word.specs.declared.owner.OwnerForm.TheVariants.{Free, ByThread, ByRecord}
use Rattle.mark_word.specs.declared.wait.WaitForm.{WaitForm}
use Rattle.mark_word.specs.declared.wait.WaitForm.TheVariants as wait
use Rattle.core_world.specs.declared.answer.PendingCause.TheVariants as why
use Rattle.core_world.specs.declared.answer.Progress.{Progress}
use Rattle.core_world.specs.Trees.Plans.{CallContext, pending_for}
use Rattle.core_world.specs.Trees.StepTree.{StepTree, unreachable}
use Rattle.core_world.specs.Trees.WaitSteps.{resume_owner_at, resume_mark_at, resume_at}
use Rattle.heap_table.specs.Parts.{IsDueOn}
use Rattle.heap_table.specs.Seen.{HeapSeen, PassSeen, IsOf}
use Rattle.heap_table.proofs.Ruled.{not_due}

module _ (h : HeapSeen) (p : PassSeen) (e : CallContext) (t saved o m found : ℕ) (is_of : IsOf h p) where
  other : (d : StepTree (Progress (Unit {0}))) (b : Bool) → IsDueOn h p e.task (cond b unreachable d) → cond b unreachable d ≡ d
  other d true due = absurd (not_due h p e.task unreachable is_of due refl)
  other d false due = refl

  -- where the owner word wasn't free, another thread owns the monitor
  pub owned : (f : OwnerForm) → IsDueOn h p e.task (resume_owner_at (Some f) e t saved o m found) → (f ≡ Free → ⊥)
      → resume_owner_at (Some f) e t saved o m found ≡ pending_for (why.Owned found)
  owned Free due free = absurd (free refl)
  owned (ByThread u) due free = other (pending_for (why.Owned found)) (u == t) due
  owned (ByRecord u place) due free = other (pending_for (why.Owned found)) (u == t) due

-- MARKS AND WAITING WORDS that no valid world comes with
pub never_marked : (f : MarkForm) (e : CallContext) (t saved o : ℕ) → ((m : ℕ) → f ≡ Inflated m → ⊥) → resume_mark_at (Some f) e t saved o ≡ unreachable
never_marked (Inflated m) e t saved o inflated = absurd (inflated m refl)
never_marked _ e t saved o inflated = refl

pub never_resumed : (f : WaitForm) (e : CallContext) (t saved o word : ℕ) → ((object stamp : ℕ) → f ≡ wait.Waiting object stamp → ⊥)
    → ((object : ℕ) → f ≡ wait.Notified object → ⊥) → resume_at (Some f) e t saved o word ≡ unreachable
never_resumed (wait.Waiting object stamp) e t saved o word waiting notified = absurd (waiting object stamp refl)
never_resumed (wait.Notified object) e t saved o word waiting notified = absurd (notified object refl)
never_resumed _ e t saved o word waiting notified = refl
