-- The steps of the parts of calls, each by the rules of `Spends`: lock records, biases that are left, monitors.
use Rattle.std.proofs.Common.{◌≡◌, refl, ℕ, suc, ◌+◌, ◌≤◌, ◌==◌, cond, Bool, Option, Some, None, arith}
use Rattle.mark_word.specs.declared.mark.MarkForm.{MarkForm}
use Rattle.mark_word.specs.declared.mark.MarkForm.TheVariants.{Inflating, Neutral, Locked, Inflated}
use Rattle.mark_word.specs.declared.owner.OwnerForm.{OwnerForm}
use Rattle.mark_word.specs.declared.owner.OwnerForm.TheVariants.{Free, ByThread, ByRecord}
use Rattle.mark_word.specs.Mark.{mark_of, read_mark}
use Rattle.mark_word.specs.Owner.{owner_of, read_owner}
use Rattle.plain_monitor.specs.declared.entry.Path.{Path}
use Rattle.plain_monitor.specs.declared.entry.Path.TheVariants.{StackFirst, StackAgain, MonitorFirst, MonitorAgain}
use Rattle.core_world.specs.declared.plan.StepPlan.{StepPlan}
use Rattle.core_world.specs.declared.word_id.WordId.TheVariants.{Mark}
use Rattle.core_world.specs.declared.plan.LocalEffect.TheVariants as own
use Rattle.core_world.specs.declared.stage.Stage.{Stage}
use Rattle.core_world.specs.declared.stage.Stage.TheVariants.{Settled, MonitorAcquired, RecursionsRaised, Inflates}
use Rattle.core_world.specs.declared.answer.StackOut.{StackOut}
use Rattle.core_world.specs.declared.answer.StackOut.TheVariants.{Left, Monitor, Not}
use Rattle.core_world.specs.declared.answer.PendingCause.TheVariants as why
use Rattle.core_world.specs.Words.Forms.{is_entering, is_biased}
use Rattle.core_world.specs.Words.Shape.{Shape}
use Rattle.core_world.specs.Threads.ThreadView.{Local}
use Rattle.core_world.specs.Locks.{hold_count}
use Rattle.core_world.specs.Trees.Plans.{CallContext, with_own, store, swap, done_with, pending_for}
use Rattle.core_world.specs.Trees.StepTree.{StepTree, step, ◌>>=◌, ask}
use Rattle.core_world.specs.Trees.LockSteps.{hold_steps, stack_enter_at, stack_exit_at, raise_steps, stack_exit_steps}
use Rattle.core_world.specs.Trees.MonitorSteps.{inflate_with, inflate_by, inflate_at, inflate_steps, record_steps}
use Rattle.core_world.specs.Trees.MonitorSteps.{monitor_enter_at, monitor_enter_steps, monitor_exit_steps}
use Rattle.core_world.specs.Trees.BiasSteps.{bias_exit_steps}
use Rattle.core_world.specs.declared.heap_call.HeapCall.{HeapCall}
use Rattle.core_calls.specs.Moments.{moment_of, CountsBy, IsPlanOf}
use Rattle.core_calls.proofs.Stays.{IsApart, Aside, OutAside, IsOwn}
use Rattle.core_calls.proofs.Spends.{of_call, Spend, Spending, spend_end, spend_done, spend_never, spend_more, spend_step}
use Rattle.core_calls.proofs.Spends.{spend_either, spend_both, spend_of}
use Rattle.core_calls.proofs.monitor.MonitorsSay.{prepare_spends, own_spends}

-- a step of this call
pub own_step : {A : Type 0} {t : HeapCall} {rest : A → ℕ} {R : A → Type 0} {p : StepPlan} {f : ℕ → StepTree A} {n : ℕ} → p.task ≡ t
    → CountsBy (moment_of t) p.own
    → IsApart p.at p.act → ((word : ℕ) → Spending (IsOwn t) rest R n (f word)) → Spending (IsOwn t) rest R (suc n) (step p f)
own_step call counts apart h = spend_step (record { of = of_call call counts; apart = apart }) h

-- a step of this call, on the safepoint word too
pub safe_step : {A : Type 0} {t : HeapCall} {rest : A → ℕ} {p : StepPlan} {f : ℕ → StepTree A} {n : ℕ} → p.task ≡ t
    → CountsBy (moment_of t) p.own
    → ((word : ℕ) → Spend (IsPlanOf t) rest n (f word)) → Spend (IsPlanOf t) rest (suc n) (step p f)
safe_step call counts h = spend_step (of_call call counts) h

-- nothing is left after the answer
abbrev pub Nothing : {A : Type 0} → A → ℕ
Nothing a = 0

module _ (e : CallContext) (k : Local) (o : ℕ) where
  pub hold_spends : (path : Path) → Spend (IsOwn e.task) Nothing 3 (hold_steps e k o path)
  hold_spends path =
      own_step {n = 2} refl tt tt (λ _. spend_either (is_entering k.wait)
      (own_step {n = 1} refl tt tt (λ _. own_step {n = 0} refl tt tt (λ _. spend_done (omega arith))))
      (own_step {n = 1} refl tt tt (λ _. spend_done (omega arith))))

  -- The hold is stored, and that is the answer.
  held_spends : (path : Path) → Spending (IsOwn e.task) Nothing Aside 3 (hold_steps e k o path >>= λ path. done_with path)
  held_spends path = spend_both (hold_spends path) (λ path. spend_end {n = 0} (omega arith) tt) (omega arith)

  pub stack_enter_spends : (form : Option MarkForm) (mark : ℕ) → Spending (IsOwn e.task) Nothing Aside 5 (stack_enter_at form e k o mark)
  stack_enter_spends (Some (Neutral hash age)) mark =
      own_step {n = 4} refl tt tt (λ _. own_step {n = 3} refl tt tt
      (λ found. spend_either (found == mark) (held_spends StackFirst) (spend_end (omega arith) tt)))
  stack_enter_spends (Some (Locked thread place)) mark = spend_more (omega arith) (own_step {n = 3} refl tt tt (λ _. held_spends StackAgain))
  stack_enter_spends _ mark = spend_never

  raise_spends : Spend (IsOwn e.task) Nothing 1 (raise_steps e k o)
  raise_spends =
      spend_either (hold_count o k.holds == 1) (own_step {n = 0} refl tt tt (λ _. spend_done (omega arith))) (spend_done (omega arith))

  -- where the object is inflated, so many are left for its monitor
  abbrev pub to_monitor : ℕ → StackOut → ℕ
  to_monitor n Left = 0
  to_monitor n (Monitor number) = n
  to_monitor n (Not why) = 0

  exit_at_spends : (n : ℕ) → 2 ≤ n → (form : Option MarkForm) (header mark : ℕ)
      → Spending (IsOwn e.task) (to_monitor n) OutAside n (stack_exit_at form e k o header mark)
  exit_at_spends n two (Some Inflating) header mark = spend_end (omega arith) tt
  exit_at_spends n two (Some (Locked thread place)) header mark =
      spend_more two (own_step {n = 1} refl tt tt (λ found. spend_either (found == mark)
      (own_step {n = 0} refl tt tt (λ _. spend_end (omega arith) tt)) (spend_end (omega arith) tt)))
  exit_at_spends n two (Some (Inflated monitor)) header mark = spend_end (omega arith) tt
  exit_at_spends n two _ header mark = spend_never

  pub stack_exit_spends : (n : ℕ) → 2 ≤ n → Spending (IsOwn e.task) (to_monitor n) OutAside (n + 3) (stack_exit_steps e k o)
  stack_exit_spends n two =
      spend_both {k = n + 2} raise_spends (λ _. spend_more (omega arith) (own_step {n = n + 1} refl tt tt (λ header. spend_either (header == 0)
      (spend_more (omega (arith, two)) (own_step {n = 0} refl tt tt (λ _. spend_end (omega arith) tt)))
      (spend_more (omega arith) (own_step {n = n} refl tt tt (λ mark. exit_at_spends n two (read_mark mark) header mark)))))) (omega arith)

  -- under a bias the exit is made, and else so many are left
  abbrev pub unless_biased : ℕ → Bool → ℕ
  unless_biased n biased = cond biased 0 n

  pub bias_exit_spends : (n : ℕ) → 1 ≤ n → Spend (IsOwn e.task) (unless_biased n) (n + 2) (bias_exit_steps e k o)
  bias_exit_spends n one =
      spend_both {k = n + 1} raise_spends (λ _. spend_more (omega arith) (own_step {n = n} refl tt tt (λ mark. spend_either (is_biased mark)
      (spend_more one (own_step {n = 0} refl tt tt (λ _. spend_done (omega arith))))
      (spend_done (omega arith))))) (omega arith)

  -- MONITORS
  naming_spends : (mark m : ℕ) → Spending (IsOwn e.task) Nothing Aside 1 (ask (with_own own.DropClaim (swap e (Mark o) mark (mark_of (Inflated m)))) >>= λ found.
      cond (found == mark) (done_with m) (pending_for (why.Raced mark found)))
  naming_spends mark m =
      own_step {n = 0} refl tt tt (λ found. spend_either (found == mark) (spend_end (omega arith) tt) (spend_end (omega arith) tt))

  inflated_spends : (m : ℕ) → Spending (IsOwn e.task) Nothing Aside 1 (ask (with_own own.DropClaim (store e (Mark o) (mark_of (Inflated m)))) >>= λ _. done_with m)
  inflated_spends m = own_step {n = 0} refl tt tt (λ _. spend_end (omega arith) tt)

  pub inflate_with_spends : (form : Option MarkForm) (mark m : ℕ) → Spending (IsOwn e.task) Nothing Aside 7 (inflate_with form e o mark m)
  inflate_with_spends (Some (Locked thread place)) mark m =
      own_step {n = 6} refl tt tt (λ found. spend_either (found == mark)
      (own_step {n = 5} refl tt tt (λ header. spend_both {k = 1} (spend_of (prepare_spends e (Inflates o thread place) o m header
      (owner_of (ByRecord thread place)))) (λ _. inflated_spends m) (omega arith)))
      (spend_end (omega arith) tt))
  inflate_with_spends (Some (Neutral hash age)) mark m =
      spend_both {k = 1} (spend_of (prepare_spends e Settled o m mark (owner_of Free))) (λ _. naming_spends mark m) (omega arith)
  inflate_with_spends _ mark m = spend_never

  inflate_by_spends : (s : Shape) (kept : Option ℕ) (mark : ℕ) → Spending (IsOwn e.task) Nothing Aside 9 (inflate_by kept s e o mark)
  inflate_by_spends s (Some m) mark = spend_more (omega arith) (inflate_with_spends (read_mark mark) mark m)
  inflate_by_spends s None mark =
      own_step {n = 8} refl tt tt (λ position. own_step {n = 7} refl tt tt (λ m. inflate_with_spends (read_mark mark) mark m))

  inflate_at_spends : (form : Option MarkForm) (s : Shape) (kept : Option ℕ) (mark : ℕ)
      → Spending (IsOwn e.task) Nothing Aside 9 (inflate_at form s e kept o mark)
  inflate_at_spends (Some Inflating) s kept mark = spend_end (omega arith) tt
  inflate_at_spends (Some (Inflated monitor)) s kept mark = spend_end (omega arith) tt
  inflate_at_spends _ s kept mark = inflate_by_spends s kept mark

  pub inflate_spends : (s : Shape) (kept : Option ℕ) → Spending (IsOwn e.task) Nothing Aside 10 (inflate_steps s e kept o)
  inflate_spends s kept = own_step {n = 9} refl tt tt (λ mark. inflate_at_spends (read_mark mark) s kept mark)

  record_spends : (stage : Stage) (path : Path) → Spending (IsOwn e.task) Nothing Aside 4 (record_steps e stage k o path)
  record_spends stage path = own_step {n = 3} refl tt tt (λ _. held_spends path)

  monitor_enter_at_spends : (form : Option OwnerForm) (m found : ℕ)
      → Spending (IsOwn e.task) Nothing Aside 6 (monitor_enter_at form e k o m found)
  monitor_enter_at_spends (Some Free) m found = spend_more (omega arith) (record_spends (MonitorAcquired o) MonitorFirst)
  monitor_enter_at_spends (Some (ByThread thread)) m found =
      spend_either (thread == k.thread) (own_step {n = 5} refl tt tt
      (λ recursions. own_step {n = 4} refl tt tt (λ _. record_spends (RecursionsRaised o) MonitorAgain)))
      (spend_more (omega arith) (own_step {n = 0} refl tt tt (λ _. spend_end (omega arith) tt)))
  monitor_enter_at_spends (Some (ByRecord thread place)) m found =
      spend_either (thread == k.thread) (own_step {n = 5} refl tt tt
      (λ _. own_step {n = 4} refl tt tt (λ _. record_spends (RecursionsRaised o) MonitorAgain)))
      (spend_more (omega arith) (own_step {n = 0} refl tt tt (λ _. spend_end (omega arith) tt)))
  monitor_enter_at_spends None m found = spend_never

  pub monitor_enter_spends : (m : ℕ) → Spending (IsOwn e.task) Nothing Aside 7 (monitor_enter_steps e k o m)
  monitor_enter_spends m = own_step {n = 6} refl tt tt (λ found. monitor_enter_at_spends (read_owner found) m found)

  pub monitor_exit_spends : (m : ℕ) → Spend (IsOwn e.task) Nothing 6 (monitor_exit_steps e k o m)
  monitor_exit_spends m =
      own_step {n = 5} refl tt tt (λ owner. spend_both {k = 3} (spend_of (own_spends (read_owner owner) e k o m)) (λ _.
      own_step {n = 2} refl tt tt (λ recursions. spend_either (recursions == 0)
      (own_step {n = 1} refl tt tt (λ _. own_step {n = 0} refl tt tt (λ _. spend_done (omega arith))))
      (own_step {n = 1} refl tt tt (λ _. own_step {n = 0} refl tt tt (λ _. spend_done (omega arith)))))) (omega arith))
