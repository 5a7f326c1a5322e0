-- The steps of each call: they are of it, and at most so many; and what is said of the answers of its parts.
use Rattle.std.proofs.Common.{refl, ◌≡◌, ℕ, zero, suc, ◌+◌, ◌*◌, ◌==◌, cond, Bool, true, false, length, nat_lt, Option, Some, None}
use Rattle.std.proofs.Common.{Result, Ok, Err, arith}
use Rattle.mark_word.specs.declared.mark.MarkForm.{MarkForm}
use Rattle.mark_word.specs.declared.mark.MarkForm.TheVariants.{Inflating, Neutral, Locked, Inflated}
use Rattle.mark_word.specs.Mark.{read_mark}
use Rattle.plain_monitor.specs.Limits.{most_holds, most_made}
use Rattle.plain_monitor.specs.declared.entry.Entry.TheVariants as entry
use Rattle.plain_monitor.specs.declared.entry.Ending.{Ending}
use Rattle.plain_monitor.specs.declared.entry.Value.{Value}
use Rattle.plain_monitor.specs.ValueWords.{read_value}
use Rattle.core_world.specs.declared.plan.StepPlan.{StepPlan}
use Rattle.core_world.specs.declared.stage.Stage.TheVariants.{Settled}
use Rattle.core_world.specs.declared.heap_call.Operation.TheVariants as op
use Rattle.core_world.specs.declared.heap_call.HeapCall.{HeapCall}
use Rattle.core_world.specs.declared.heap_call.HeapCall.TheVariants as task
use Rattle.core_world.specs.declared.answer.BiasTry.{BiasTry}
use Rattle.core_world.specs.declared.answer.BiasTry.TheVariants.{Took, Unbiased, Valid, Raced}
use Rattle.core_world.specs.declared.answer.StackOut.{StackOut}
use Rattle.core_world.specs.declared.answer.StackOut.TheVariants.{Left, Monitor, Not}
use Rattle.core_world.specs.declared.answer.Progress.{Progress}
use Rattle.core_world.specs.declared.answer.Progress.TheVariants.{Done, Pending}
use Rattle.core_world.specs.declared.answer.PendingCause.TheVariants as why
use Rattle.core_world.specs.Words.Forms.{waits_on}
use Rattle.core_world.specs.Threads.ThreadView.{Start}
use Rattle.core_world.specs.Locks.{hold_count}
use Rattle.core_world.specs.Trees.Plans.{CallContext, load, call_context, done_with, free_place}
use Rattle.core_world.specs.Words.Shape.{Shape}
use Rattle.core_world.specs.Threads.Stages.{Revocation}
use Rattle.core_world.specs.Trees.StepTree.{StepTree, ask, done, unreachable, step, ◌>>=◌}
use Rattle.core_world.specs.Trees.LockSteps.{stack_exit_steps}
use Rattle.core_world.specs.Trees.MonitorSteps.{monitor_enter_steps, inflate_steps}
use Rattle.core_world.specs.Trees.WaitSteps.{monitor_wait_steps, monitor_resume_steps}
use Rattle.core_world.specs.declared.word_id.WordId.TheVariants.{Mark}
use Rattle.core_world.specs.Trees.BiasSteps.{stage_after, bias_after_steps}
use Rattle.core_world.specs.Trees.Operations.{value_found, goes_on_with, and_then, answer, lone_context, revocation_steps, enter_monitor_steps}
use Rattle.core_world.specs.Trees.Operations.{enter_at, enter_unbiased, enter_revoked, enter_tried, enter_going, enter_steps, exit_at}
use Rattle.core_world.specs.Trees.Operations.{exit_going, exit_steps, revoked_steps, unbias_tried, unbias_steps, no_bias, wait_steps, notify_at}
use Rattle.core_world.specs.Trees.Operations.{notify_steps, notify_all_at, notify_all_steps, hash_steps, get_steps, put_steps, print_steps}
use Rattle.core_world.specs.Trees.Operations.{finish_steps, dump_steps, create_steps, check_ending, check_steps}
use Rattle.core_world.specs.Trees.CreateSteps.{count_made, next_made}
use Rattle.core_world.specs.Trees.Calls.{end, side_context, steps_of}
use Rattle.core_calls.specs.Bounds.{IsWithin, a_deflation, a_revocation, most_steps}
use Rattle.core_calls.specs.Moments.{moment_of, IsPlanOf}
use Rattle.core_calls.proofs.Stays.{Whatever, Aside, OutAside, IsOwn}
use Rattle.core_calls.proofs.Spends.{spend_so, spend_on, spend_with, spend_end, Spending, Spends, Spend, spend_done, spend_never}
use Rattle.core_calls.proofs.Spends.{spend_more, spend_either, spend_then, spend_both, spend_any}
use Rattle.core_calls.proofs.bias.RevocationSpends.{revoke_at_safepoint_spends}
use Rattle.core_calls.proofs.safepoint.LookSpends.{shot_spends, still_spends}
use Rattle.core_calls.proofs.deflation.DeflationSpends.{deflate_spends}
use Rattle.core_calls.proofs.LocksSpend.{own_step, safe_step, Nothing, stack_enter_spends, to_monitor, stack_exit_spends, unless_biased}
use Rattle.core_calls.proofs.LocksSpend.{bias_exit_spends, inflate_spends, monitor_enter_spends, monitor_exit_spends}
use Rattle.core_calls.proofs.PartsSpend.{monitor_wait_spends, monitor_resume_spends, publish_spends, notify_spends}
use Rattle.core_calls.proofs.PartsSpend.{notify_all_spends, to_revoke, to_enter, bias_drop_spends, bias_enter_spends}
use Rattle.core_calls.proofs.PartsSpend.{bias_after_spends, poll_spends, request_spends, reached_spends, safepoint_spends}
use Rattle.core_calls.proofs.PartsSpend.{release_spends, halt_spends, stop_spends, resume_spends, hash_header_spends}

-- a part that is done goes on with so many steps
then_spends : {A B : Type 0} {Q : StepPlan → Type 0} {n : ℕ} (f : A → StepTree (Progress B)) (progress : Progress A)
    → ((a : A) → Spend Q Nothing n (f a)) → Spend Q Nothing n (and_then progress f)
then_spends f (Done a) h = h a
then_spends f (Pending why) h = spend_done {a = Pending why} (omega arith)

-- the step is of its call if the revocation's moment is the call's
abbrev pub IsPlanIfGiven : CallContext → Revocation → StepPlan → Type 0
IsPlanIfGiven e b p = moment_of e.task ≡ Some b.now → IsPlanOf e.task p

-- the same of a part that leaves the safepoint word alone, and what goes on does
aside_spends : {A B : Type 0} {t : HeapCall} {n : ℕ} (f : A → StepTree (Progress B)) (progress : Progress A) → Aside progress
    → ((a : A) → Spending (IsOwn t) Nothing Aside n (f a)) → Spending (IsOwn t) Nothing Aside n (and_then progress f)
aside_spends f (Done a) aside h = h a
aside_spends f (Pending why) aside h = spend_end {a = Pending why} (omega arith) aside

module _ (s : Shape) (e : CallContext) where
  pub revocation_spends : (t : ℕ) (requesting : Bool) (b : Revocation)
      → Spend (IsPlanIfGiven e b) Nothing (a_revocation s) (revocation_steps s t requesting e b)
  revocation_spends t requesting b =
      spend_both {k = 8448 * s.threads + 141 + a_deflation s} (spend_so (λ p of _. of) (safepoint_spends e t requesting))
      (λ progress. then_spends _ progress (λ _.
      spend_both {k = a_deflation s + 1} (spend_so (λ p q. q.of) (revoke_at_safepoint_spends e b s t)) (λ outcome.
      spend_both {k = 1} (spend_so (λ p q _. q.of tt) (deflate_spends e s (stage_after outcome.took b.object))) (λ _.
      spend_both {k = 0} (spend_so (λ p of _. of) (release_spends e t (stage_after outcome.took b.object)))
      (λ _. spend_done {a = Done outcome.took} (omega arith)) (omega arith)) (omega arith)) (omega arith))) (omega arith)

  unbias_spends : (k : Start) (b : Revocation) → moment_of e.task ≡ Some b.now
      → Spend (IsPlanOf e.task) Nothing (a_revocation s + 3) (unbias_steps s e k b)
  unbias_spends k b given =
      spend_either k.requesting (spend_more (omega arith) (revoked true))
      (spend_then (spend_any (bias_drop_spends e b.object (a_revocation s) (omega arith) s)) tried)
    where
      revoked : (requesting : Bool) → Spend (IsPlanOf e.task) Nothing (a_revocation s) (revoked_steps s k.local.thread requesting e b)
      revoked requesting = spend_both {k = 0} (spend_so (λ p of. of given) (revocation_spends k.local.thread requesting b))
          (λ progress. then_spends (λ _. done_with tt) progress (λ _. spend_done {a = Done tt} (omega arith))) (omega arith)

      tried : (tried : BiasTry) → Spend (IsPlanOf e.task) Nothing (to_revoke (a_revocation s) tried) (unbias_tried tried s e k b)
      tried (Took path) = spend_never
      tried (Unbiased mark) = spend_done {a = Done tt} (omega arith)
      tried (Valid mark) = revoked false
      tried (Raced expected found) = spend_done {a = Pending (why.Raced expected found)} (omega arith)

module _ (s : Shape) (e : CallContext) (k : Start) where
  -- ENTER
  enter_monitor_spends : (o : ℕ) → Spending (IsOwn e.task) Nothing Aside 17 (enter_monitor_steps s e k o)
  enter_monitor_spends o = spend_with {k = 7} (inflate_spends e k.local o s k.kept)
      (λ progress aside. aside_spends (λ m. monitor_enter_steps e k.local o m) progress aside (monitor_enter_spends e k.local o)) (omega arith)

  pub enter_at_spends : (form : Option MarkForm) (o mark : ℕ) → Spending (IsOwn e.task) Nothing Aside 17 (enter_at form s e k o mark)
  enter_at_spends (Some Inflating) o mark = spend_end {a = Pending why.Inflating} (omega arith) tt
  enter_at_spends (Some (Neutral hash age)) o mark = spend_more (omega arith) (stack_enter_spends e k.local o (read_mark mark) mark)
  enter_at_spends (Some (Locked thread place)) o mark = spend_either (thread == k.local.thread)
      (spend_more (omega arith) (stack_enter_spends e k.local o (read_mark mark) mark)) (enter_monitor_spends o)
  enter_at_spends (Some (Inflated monitor)) o mark = spend_more (omega arith) (monitor_enter_spends e k.local o monitor)
  enter_at_spends _ o mark = spend_never

  pub unbiased_spends : (o n : ℕ) (tried : BiasTry) → Spending (IsOwn e.task) Nothing Aside (to_enter n 17 tried) (enter_unbiased tried s e k o)
  unbiased_spends o n (Took path) = spend_end {a = Done path} (omega arith) tt
  unbiased_spends o n (Unbiased mark) = enter_at_spends (read_mark mark) o mark
  unbiased_spends o n (Valid mark) = spend_never
  unbiased_spends o n (Raced expected found) = spend_end {a = Pending (why.Raced expected found)} (omega arith) tt

  pub again_spends : (o : ℕ) (took : Bool) → Spending (IsOwn e.task) Nothing Aside 18 (bias_after_steps e k.local o took >>= λ tried. enter_unbiased tried s e k o)
  again_spends o took = spend_then (bias_after_spends e k.local o 0 17 17 (omega arith) (omega arith) took) (unbiased_spends o 0)

  enter_revoked_spends : (requesting : Bool) (b : Revocation) → moment_of e.task ≡ Some b.now
      → Spend (IsPlanOf e.task) Nothing (a_revocation s + 18) (enter_revoked s requesting e k b)
  enter_revoked_spends requesting b given =
      spend_both {k = 18} (spend_so (λ p of. of given) (revocation_spends s e k.local.thread requesting b))
      (λ progress. then_spends _ progress (λ took.
      spend_any (again_spends b.object took))) (omega arith)

  pub tried_spends : (b : Revocation) → moment_of e.task ≡ Some b.now → (tried : BiasTry)
      → Spend (IsPlanOf e.task) Nothing (to_enter (a_revocation s + 18) 17 tried) (enter_tried tried s e k b)
  tried_spends b given (Valid mark) = enter_revoked_spends false b given
  tried_spends b given (Took path) = spend_done {a = Done path} (omega arith)
  tried_spends b given (Unbiased mark) = spend_any (unbiased_spends b.object 0 (Unbiased mark))
  tried_spends b given (Raced expected found) = spend_done {a = Pending (why.Raced expected found)} (omega arith)

  pub enter_going_spends : (b : Revocation) → moment_of e.task ≡ Some b.now
      → Spend (IsPlanOf e.task) Nothing (a_revocation s + 21) (enter_going s e k b)
  enter_going_spends b given =
      spend_either k.requesting (spend_more (omega arith) (enter_revoked_spends true b given))
      (spend_more (omega arith) (spend_then (spend_any (bias_enter_spends e k.local b.object (a_revocation s + 18) 17
      (a_revocation s + 18) (omega arith) (omega arith) (omega arith) s)) (tried_spends b given)))

-- the answer takes no step
pub answers : {A E : Type 0} {t : HeapCall} {n : ℕ} {d : StepTree A} → Spend (IsPlanOf t) Nothing n d
    → Spend (IsPlanOf t) Nothing n (d >>= λ a. answer {E = E} a)
answers h = spend_both {k = 0} h (λ a. spend_done {a = Ok a} (omega arith)) (omega arith)

refused : {A E : Type 0} {t : HeapCall} {n : ℕ} {d : StepTree (Result A E)} (b : Bool) (e : E) → Spend (IsPlanOf t) Nothing n d
    → Spend (IsPlanOf t) Nothing n (cond b (done (Err e)) d)
refused b e h = spend_either b (spend_done {a = Err e} (omega arith)) h

-- EXIT
module _ (e : CallContext) (k : Start) (o : ℕ) where
  by_out : (out : StackOut) → OutAside out → Spending (IsOwn e.task) Nothing Aside (to_monitor e k.local o 6 out) (exit_at out e k.local o)
  by_out Left aside = spend_end {a = Done tt} (omega arith) tt
  by_out (Not why) aside = spend_end {a = Pending why} (omega arith) aside
  by_out (Monitor number) aside =
      spend_both {k = 0} (monitor_exit_spends e k.local o number) (λ _. spend_end {a = Done tt} (omega arith) tt) (omega arith)

  by_bias : (biased : Bool) → Spending (IsOwn e.task) Nothing Aside (unless_biased e k.local o 9 biased)
      (cond biased (done_with tt) (stack_exit_steps e k.local o >>= λ out. exit_at out e k.local o))
  by_bias true = spend_end {a = Done tt} (omega arith) tt
  by_bias false = spend_on (stack_exit_spends e k.local o 6 (omega arith)) by_out

  pub exit_going_spends : Spending (IsOwn e.task) Nothing Aside 11 (exit_going e k.local o)
  exit_going_spends = spend_then (bias_exit_spends e k.local o 9 (omega arith)) by_bias

pub exit_spends : (k : Start) (o : ℕ) → Spend (IsPlanOf (task.Exit o)) Nothing 11 (exit_steps k o)
exit_spends k o = refused (hold_count o k.local.holds == 0) (record {})
    (answers (spend_any (exit_going_spends (call_context (task.Exit o) op.Exit o) k o)))

-- WAIT, without its revocation
module _ (e : CallContext) (k : Start) (o : ℕ) (s : Shape) where
  abbrev lets : ℕ → StepTree (Progress (Unit {0}))
  lets m = monitor_wait_steps e k.local o m >>= λ saved. monitor_resume_steps e k.local.thread saved o

  pub waits_spends : Spending (IsOwn e.task) Nothing Aside 24 (inflate_steps s e k.kept o >>= λ progress. and_then progress lets)
  waits_spends = spend_with {k = 14} (inflate_spends e k.local o s k.kept) (λ progress aside. aside_spends lets progress aside (λ m.
      spend_both {k = 6} (monitor_wait_spends e k.local o m) (λ saved. monitor_resume_spends e k.local.thread saved o) (omega arith)))
      (omega arith)

  -- NOTIFY and NOTIFYALL
  notify_at_spends : (form : Option MarkForm) → Spending (IsOwn e.task) Nothing Aside (s.threads + 1) (notify_at form s e k.local o)
  notify_at_spends (Some Inflating) = spend_end {a = Pending why.Inflating} (omega arith) tt
  notify_at_spends (Some (Locked thread place)) = spend_more {n = 1} (omega arith)
      (spend_both {k = 0} (publish_spends e k.local o (entry.Notify o None)) (λ _. spend_end {a = Done None} (omega arith) tt) (omega arith))
  notify_at_spends (Some (Inflated monitor)) =
      spend_both {k = 0} (notify_spends e k.local o s.threads) (λ woken. spend_end {a = Done woken} (omega arith) tt) (omega arith)
  notify_at_spends _ = spend_never

  pub notify_looks_spends : Spending (IsOwn e.task) Nothing Aside (s.threads + 2) (ask (load e (Mark o)) >>= λ mark. notify_at (read_mark mark) s e k.local o)
  notify_looks_spends = spend_more (omega arith) (own_step {n = s.threads + 1} refl tt tt (λ mark. notify_at_spends (read_mark mark)))

  notify_all_at_spends : (form : Option MarkForm) → Spending (IsOwn e.task) Nothing Aside (2 * s.threads + 1) (notify_all_at form s e k.local o)
  notify_all_at_spends (Some Inflating) = spend_end {a = Pending why.Inflating} (omega arith) tt
  notify_all_at_spends (Some (Locked thread place)) = spend_more {n = 1} (omega arith)
      (spend_both {k = 0} (publish_spends e k.local o (entry.NotifyAll o 0)) (λ _. spend_end {a = Done 0} (omega arith) tt) (omega arith))
  notify_all_at_spends (Some (Inflated monitor)) =
      spend_both {k = 0} (notify_all_spends e k.local o s.threads) (λ woken. spend_end {a = Done woken} (omega arith) tt) (omega arith)
  notify_all_at_spends _ = spend_never

  pub notify_all_looks_spends : Spending (IsOwn e.task) Nothing Aside (2 * s.threads + 2)
      (ask (load e (Mark o)) >>= λ mark. notify_all_at (read_mark mark) s e k.local o)
  notify_all_looks_spends =
      spend_more (omega arith) (own_step {n = 2 * s.threads + 1} refl tt tt (λ mark. notify_all_at_spends (read_mark mark)))

module _ (s : Shape) (k : Start) (o now : ℕ) where
  abbrev waiting : CallContext
  waiting = call_context (task.Wait o now) op.Wait o

  abbrev notifying : CallContext
  notifying = call_context (task.Notify o now) op.Notify o

  abbrev calling : CallContext
  calling = call_context (task.NotifyAll o now) op.NotifyAll o

  abbrev hashing : CallContext
  hashing = call_context (task.Hash o now) op.Hash o

  pub enter_spends : Spend (IsPlanOf (task.Enter o now)) Nothing (a_revocation s + 21) (enter_steps s k o now)
  enter_spends =
      spend_either (free_place k.local.holds == most_holds)
      (spend_either (goes_on_with op.Enter o k.unfinished) spend_never (spend_done {a = Err record {}} (omega arith)))
      (answers (enter_going_spends s (call_context (task.Enter o now) op.Enter o) k (record { object = o; rebias = true; now = now }) refl))

  pub wait_spends : Spend (IsPlanOf (task.Wait o now)) Nothing (a_revocation s + 27) (wait_steps s k o now)
  wait_spends = refused (hold_count o k.local.holds == 0) (record {}) (answers (spend_either (waits_on k.local.wait o)
      (spend_more (omega arith) (spend_any (monitor_resume_spends waiting k.local.thread k.saved o)))
      (spend_both {k = 24} (unbias_spends s waiting k (no_bias o now) refl) (λ progress. then_spends _ progress (λ _.
      spend_any (waits_spends waiting k o s))) (omega arith))))

  pub notify_call_spends : Spend (IsPlanOf (task.Notify o now)) Nothing (a_revocation s + s.threads + 5) (notify_steps s k o now)
  notify_call_spends = refused (hold_count o k.local.holds == 0) (record {}) (answers (
      spend_both {k = s.threads + 2} (unbias_spends s notifying k (no_bias o now) refl) (λ progress. then_spends _ progress (λ _.
      spend_any (notify_looks_spends notifying k o s))) (omega arith)))

  pub notify_all_call_spends : Spend (IsPlanOf (task.NotifyAll o now)) Nothing (a_revocation s + 2 * s.threads + 5) (notify_all_steps s k o now)
  notify_all_call_spends = refused (hold_count o k.local.holds == 0) (record {}) (answers (
      spend_both {k = 2 * s.threads + 2} (unbias_spends s calling k (no_bias o now) refl) (λ progress. then_spends _ progress (λ _.
      spend_any (notify_all_looks_spends calling k o s))) (omega arith)))

  -- HASH
  pub hash_call_spends : Spend (IsPlanOf (task.Hash o now)) Nothing (a_revocation s + 17) (hash_steps s k o now)
  hash_call_spends =
      spend_both {k = 14} (unbias_spends s hashing k (no_bias o now) refl) (λ progress. then_spends _ progress
      (λ _. spend_any (hash_header_spends s hashing k.local (record { number = k.draws + 1; value = k.draw }) o k.kept))) (omega arith)

-- SLOTS, PRINTS AND ENDS
pub get_spends : (k : Start) (o slot : ℕ) → Spend (IsPlanOf (task.Get o slot)) Nothing 1 (get_steps k o slot)
get_spends k o slot = refused (hold_count o k.local.holds == 0) (record {})
    (safe_step {n = 0} refl tt (λ found. spend_done {a = Ok (value_found (read_value found))} (omega arith)))

pub put_spends : (k : Start) (o slot : ℕ) (value : Value) → Spend (IsPlanOf (task.Put o slot value)) Nothing 1 (put_steps k o slot value)
put_spends k o slot value =
    refused (hold_count o k.local.holds == 0) (record {}) (safe_step {n = 0} refl tt (λ _. spend_done {a = Ok tt} (omega arith)))

pub print_spends : (k : Start) (value : Value) → Spend (IsPlanOf (task.Print value)) Nothing 1 (print_steps k value)
print_spends k value = safe_step {n = 0} refl tt (λ _. spend_done (omega arith))

pub create_spends : (s : Shape) (k : Start) (c : ℕ) → Spend (IsPlanOf (task.Create c)) Nothing 3 (create_steps s k c)
create_spends s k c =
    spend_either (nat_lt (count_made k.local) most_made)
    (safe_step {n = 2} refl tt (λ prototype. safe_step {n = 1} refl tt
    (λ _. safe_step {n = 0} refl tt (λ _. spend_done {a = Ok (next_made s k.local)} (omega arith)))))
    (spend_done {a = Err record {}} (omega arith))

pub finish_spends : (k : Start) (ending : Ending) → Spend (IsPlanOf (task.Finish ending)) Nothing 2 (finish_steps k ending)
finish_spends k ending = safe_step {n = 1} refl tt (λ _. safe_step {n = 0} refl tt (λ _. spend_done (omega arith)))

module _ (s : Shape) (k : Start) where
  abbrev dumping : CallContext
  dumping = call_context task.Dump op.Dump 0

  abbrev checking : CallContext
  checking = record { task = task.Check; unfinished = k.unfinished; check = true }

  pub dump_spends : Spend (IsPlanOf task.Dump) Nothing (67 * length s.objects + s.threads + 6 + a_deflation s) (dump_steps s k)
  dump_spends = refused (k.shots == 4) (record {}) (answers (
      spend_both {k = 67 * length s.objects + s.threads + 3 + a_deflation s}
      (safepoint_spends dumping k.local.thread k.requesting) (λ progress. then_spends _ progress (λ _.
      spend_both {k = a_deflation s + 2} (spend_so (λ p q. q.of tt) (shot_spends dumping s))
      (λ _. spend_both {k = 2} (spend_so (λ p q. q.of tt) (deflate_spends dumping s Settled)) (λ _.
      spend_both {k = 1} (release_spends dumping k.local.thread Settled) (λ _.
      spend_both {k = 0} (spend_any (publish_spends dumping k.local 0 (entry.Dump (k.shots + 1))))
      (λ _. spend_done {a = Done (k.shots + 1)} (omega arith)) (omega arith)) (omega arith)) (omega arith)) (omega arith))) (omega arith)))

  ending_spends : (stuck : Bool) → Spend (IsPlanOf task.Check) Nothing 1 (check_ending stuck checking k.local.thread)
  ending_spends true = spend_both {k = 0} (halt_spends checking k.local.thread) (λ _. spend_done {a = Done true} (omega arith)) (omega arith)
  ending_spends false = spend_both {k = 0} (release_spends checking k.local.thread Settled) (λ _. spend_done {a = Done false} (omega arith)) (omega arith)

  pub check_spends : Spend (IsPlanOf task.Check) Nothing (3 * s.threads + 4 + a_deflation s) (check_steps s k)
  check_spends =
      spend_both {k = 3 * s.threads + 1 + a_deflation s} (safepoint_spends checking k.local.thread k.requesting) (λ progress. then_spends _ progress (λ _.
      spend_both {k = a_deflation s + 1} (spend_so (λ p q. q.tame.of tt) (still_spends checking s)) (λ stuck.
      spend_both {k = 1} (spend_so (λ p q. q.of tt) (deflate_spends checking s Settled)) (λ _. ending_spends stuck) (omega arith))
      (omega arith))) (omega arith)

-- ALL CALLS
within : {A : Type 0} (Q : StepPlan → Type 0) (d : StepTree A) (n : ℕ) → Spends Q Nothing Whatever n d → IsWithin n d
within Q (done a) n h = tt
within Q unreachable n h = tt
within Q (step p f) zero h = absurd h
within Q (step p f) (suc n) h = λ word. within Q (f word) n (h.1 word)

pub spend_within : {A : Type 0} {Q : StepPlan → Type 0} (d : StepTree A) (n : ℕ) → Spend Q Nothing n d → IsWithin n d
spend_within {A} {Q} d n h = within Q d n h.by

-- whatever the answer is
ends : {A : Type 0} {t : HeapCall} {n : ℕ} {d : StepTree A} → Spend (IsPlanOf t) Nothing n d → Spend (IsPlanOf t) Nothing n (d >>= end)
ends h = spend_both {k = 0} h (λ a. spend_done (omega arith)) (omega arith)

pub call_spends : (s : Shape) (t : HeapCall) (k : Start) → Spend (IsPlanOf t) Nothing (most_steps s t) (steps_of s t k)
unfolding steps_of
call_spends s (task.Enter o now) k = ends (enter_spends s k o now)
call_spends s (task.Exit o) k = ends (exit_spends k o)
call_spends s (task.Wait o now) k = ends (wait_spends s k o now)
call_spends s (task.Notify o now) k = ends (notify_call_spends s k o now)
call_spends s (task.NotifyAll o now) k = ends (notify_all_call_spends s k o now)
call_spends s (task.Hash o now) k = ends (hash_call_spends s k o now)
call_spends s (task.Get o slot) k = ends (get_spends k o slot)
call_spends s (task.Put o slot value) k = ends (put_spends k o slot value)
call_spends s (task.Print value) k = print_spends k value
call_spends s task.Dump k = ends (dump_spends s k)
call_spends s (task.Create c) k = ends (create_spends s k c)
call_spends s (task.Finish ending) k = finish_spends k ending
call_spends s task.Poll k = ends (poll_spends (side_context task.Poll k) k.local.thread)
call_spends s task.Stop k = stop_spends (side_context task.Stop k) k.local
call_spends s task.Resume k = ends (resume_spends (side_context task.Resume k) k.local)
call_spends s task.Check k = ends (check_spends s k)
call_spends s (task.StackEnter o mark) k =
    ends (spend_any (stack_enter_spends (lone_context (task.StackEnter o mark)) k.local o (read_mark mark) mark))
call_spends s (task.StackExit o) k =
    spend_then (spend_any (stack_exit_spends (call_context (task.StackExit o) op.Exit o) k.local o 2 (omega arith)))
    (λ out. spend_done (omega arith))
call_spends s task.Request k = ends (request_spends (lone_context task.Request) k.local.thread)
call_spends s task.Reached k = ends (reached_spends (lone_context task.Reached) k.local.thread)
call_spends s task.Release k = release_spends (lone_context task.Release) k.local.thread Settled

pub call_within : (s : Shape) (t : HeapCall) (k : Start) → IsWithin (most_steps s t) (steps_of s t k)
call_within s t k = spend_within (steps_of s t k) (most_steps s t) (call_spends s t k)
