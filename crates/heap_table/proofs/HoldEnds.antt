-- A thread that doesn't enter by its waiting word ends an enter by the steps of `hold_end`.
use Rattle.std.proofs.Common.{◌≡◌, ℕ, ◌+◌, ◌<◌, false, if◌then◌else◌, Option, refl, ap, ◌∙◌, eq-eqb, arith}
use Rattle.mark_word.specs.declared.owner.OwnerForm.{OwnerForm}
use Rattle.mark_word.specs.declared.owner.OwnerForm.TheVariants.{ByThread}
use Rattle.mark_word.specs.Owner.{owner_of, read_owner}
use Rattle.mark_word.specs.Wait.{read_wait}
use Rattle.mark_word.proofs.ReadingOwners.{read_owner-owner_of}
use Rattle.plain_monitor.specs.Limits.{most_threads}
use Rattle.plain_monitor.specs.declared.entry.Path.{Path}
use Rattle.core_world.specs.declared.stage.Stage.{Stage}
use Rattle.core_world.specs.declared.stage.Stage.TheVariants.{Enters}
use Rattle.core_world.specs.Locks.{hold_count}
use Rattle.core_world.specs.Threads.ThreadView.{ThreadView, Local}
use Rattle.core_world.specs.Trees.LockSteps.{displace_plan, hold_plan, hold_steps, log_enter_plan, log_enter_steps, store_ready_plan}
use Rattle.core_world.specs.Trees.MonitorSteps.{monitor_again_steps, monitor_enter_at, owned_steps}
use Rattle.core_world.specs.Trees.Operations.{answer}
use Rattle.core_world.specs.Trees.Plans.{CallContext, done_with, free_place}
use Rattle.core_world.specs.Trees.StepTree.{StepTree, step, ask, ◌>>=◌}
use Rattle.core_world.specs.Words.Forms.{is_entering}
use Rattle.heap_table.specs.Kept.{Mirrors}
use Rattle.heap_table.specs.declared.mirror.Mirror.{Mirror}
use Rattle.heap_table.specs.inner.Amid.{EnterTree, again_enter, owner_entered, recorded_end}

is_ready : is_entering 0 ≡ false
unfolding read_wait
is_ready = refl

pub not_entering : (m : Mirror) (k : ThreadView) → Mirrors m k → m.wait ≡ 0 → is_entering k.wait ≡ false
not_entering m k shows none = ap is_entering (shows.wait ∙ none) ∙ is_ready

module _ (e : CallContext) (k : Local) (o : ℕ) (path : Path) (wait : is_entering k.wait ≡ false) where
  pub hold_ended : {B : Type 0} (f : Path → StepTree B) (g : B → EnterTree) → (hold_steps e k o path >>= f >>= g)
      ≡ step (hold_plan e k.thread o (hold_count o k.holds + 1) (free_place k.holds) path) (λ _. step (log_enter_plan e o path) (λ _. f path >>= g))
  hold_ended f g =
      ap (λ b. step (hold_plan e k.thread o (hold_count o k.holds + 1) (free_place k.holds) path) (λ _. (if b then (do
        _ ← ask (store_ready_plan e (Enters o (free_place k.holds) path) k.thread)
        log_enter_steps e o path) else log_enter_steps e o path) >>= f >>= g)) wait

  pub recorded_ended : (stage : Stage) (word : ℕ)
      → step (displace_plan e stage k.thread (free_place k.holds) word) (λ _. hold_steps e k o path >>= done_with >>= answer)
      ≡ recorded_end e stage k o word path
  recorded_ended stage word =
      ap (λ (x : EnterTree). step (displace_plan e stage k.thread (free_place k.holds) word) (λ _. x)) (hold_ended done_with answer)

-- The owner word that was found is the thread's own.
pub own_found : (e : CallContext) (k : Local) (o m t found : ℕ) → t < most_threads → t ≡ k.thread → found ≡ owner_of (ByThread t)
    → owner_entered e k o m found ≡ again_enter e k o m
own_found e k o m t found small same is =
    ap (λ (f : Option OwnerForm). monitor_enter_at f e k o m found >>= answer) (ap read_owner is ∙ read_owner-owner_of (ByThread t) (omega (arith, small)))
    ∙ ap (λ b. (if b then monitor_again_steps e k o m else owned_steps e k o found) >>= answer) (eq-eqb _ _ same)
