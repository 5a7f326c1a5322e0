-- The steps of the other parts of calls: waits, biases, safepoints, hashes.
use Rattle.std.proofs.Common.{refl, ℕ, ◌+◌, ◌≤◌, ◌==◌, cond, Bool, List, [], ◌∷◌, length, Option, Some, None, arith}
use Rattle.mark_word.specs.declared.mark.MarkForm.{MarkForm}
use Rattle.mark_word.specs.declared.mark.MarkForm.TheVariants.{Inflating, Neutral, Anonymous, Biased, Locked, Inflated}
use Rattle.mark_word.specs.declared.owner.OwnerForm.{OwnerForm}
use Rattle.mark_word.specs.declared.owner.OwnerForm.TheVariants.{Free, ByThread, ByRecord}
use Rattle.mark_word.specs.declared.wait.WaitForm.{WaitForm}
use Rattle.mark_word.specs.declared.wait.WaitForm.TheVariants as wait
use Rattle.mark_word.specs.Mark.{mark_of, read_mark}
use Rattle.mark_word.specs.Owner.{owner_of, read_owner}
use Rattle.mark_word.specs.Wait.{read_wait}
use Rattle.plain_monitor.specs.declared.entry.Entry.{Entry}
use Rattle.plain_monitor.specs.declared.entry.Path.{Path}
use Rattle.plain_monitor.specs.declared.entry.Path.TheVariants.{BiasOwn, BiasTaken}
use Rattle.core_world.specs.declared.word_id.WordId.{WordId}
use Rattle.core_world.specs.declared.word_id.WordId.TheVariants.{Waiting, Mark, Header, Recursions, Stamp, Owner}
use Rattle.core_world.specs.declared.act.Act.TheVariants.{FetchMax}
use Rattle.core_world.specs.declared.plan.LocalEffect.TheVariants as own
use Rattle.core_world.specs.declared.stage.Stage.{Stage}
use Rattle.core_world.specs.declared.stage.Stage.TheVariants.{Waits, Settled}
use Rattle.core_world.specs.declared.answer.BiasTry.{BiasTry}
use Rattle.core_world.specs.declared.answer.BiasTry.TheVariants.{Took, Unbiased, Valid, Raced}
use Rattle.core_world.specs.declared.answer.Progress.{Progress}
use Rattle.core_world.specs.declared.answer.Progress.TheVariants.{Done, Pending}
use Rattle.core_world.specs.declared.answer.PendingCause.{PendingCause}
use Rattle.core_world.specs.declared.answer.PendingCause.TheVariants as why
use Rattle.core_world.specs.Words.Forms.{epoch_in, is_biased, is_still, hash_in}
use Rattle.core_world.specs.Words.Shape.{Shape}
use Rattle.core_world.specs.Threads.ThreadView.{Local}
use Rattle.core_world.specs.Trees.Plans.{CallContext, quiet_plan, with_stage, with_own, load, store, pending_for, next_stamp}
use Rattle.core_world.specs.Trees.StepTree.{StepTree, done, ◌>>=◌, ask}
use Rattle.core_world.specs.Trees.WaitSteps.{log_wait_steps, monitor_wait_steps, resumed_steps, resume_owner_at, resume_mark_at}
use Rattle.core_world.specs.Trees.WaitSteps.{resume_at, monitor_resume_steps, waiters, by_age, publish_steps, notify_first}
use Rattle.core_world.specs.Trees.WaitSteps.{monitor_notify_steps, notify_each, notify_listed, monitor_notify_all_steps}
use Rattle.core_world.specs.Trees.BiasSteps.{took_steps, unbias_swap_steps, rebias_steps, bias_enter_at, bias_enter_by, bias_enter_steps}
use Rattle.core_world.specs.Trees.BiasSteps.{bias_drop_at, bias_drop_by, bias_drop_steps, bias_after_at, bias_after_steps}
use Rattle.core_world.specs.Trees.SafepointSteps.{has_requester, reached_word, bar, unless, stop_steps, resume_swap_steps}
use Rattle.core_world.specs.Trees.SafepointSteps.{resume_steps, poll_steps, request_swap_steps, request_steps, reached_steps}
use Rattle.core_world.specs.Trees.SafepointSteps.{then_reached, safepoint_steps, release_to, halt_steps}
use Rattle.core_world.specs.Trees.HashSteps.{NextDraw, draw_steps, hash_monitor_steps, hash_displaced_steps, hash_inflated}
use Rattle.core_world.specs.Trees.HashSteps.{hash_inflate_steps, hash_unless, hash_mark_steps, hash_header_steps}
use Rattle.core_world.specs.declared.act.Act.TheVariants.{CompareExchange}
use Rattle.core_calls.specs.Moments.{IsPlanOf}
use Rattle.core_calls.proofs.Stays.{IsApart, Aside, IsOwn}
use Rattle.core_calls.proofs.Spends.{of_call, Spend, Spending, spend_end, spend_with, spend_done, spend_never, spend_more}
use Rattle.core_calls.proofs.Spends.{spend_either, spend_then, spend_both, spend_list, spend_of, spend_class}
use Rattle.core_calls.proofs.monitor.MonitorsSay.{own_spends}
use Rattle.core_calls.proofs.wait.WaitsSay.{look_spends}
use Rattle.core_calls.proofs.LocksSpend.{own_step, safe_step, Nothing, hold_spends, inflate_spends}
use Rattle.core_calls.proofs.wait.Waiters.{as_many, few_waiters}

-- WAIT AND NOTIFY
-- from the load of the recursions on
abbrev lets_go : CallContext → Local → ℕ → ℕ → StepTree ℕ
lets_go e k o m = do
  recursions ← ask (with_own own.SaveRecursions (load e (Recursions m)))
  _ ← ask (quiet_plan e (Stamp o) (FetchMax (next_stamp k)))
  _ ← log_wait_steps e k o
  _ ← ask (with_stage (Waits o) (store e (Recursions m) 0))
  _ ← ask (store e (Owner m) (owner_of Free))
  done recursions

pub monitor_wait_spends : (e : CallContext) (k : Local) (o m : ℕ) → Spend (IsOwn e.task) Nothing 8 (monitor_wait_steps e k o m)
monitor_wait_spends e k o m =
    own_step {n = 7} refl tt tt (λ owner. spend_both {k = 5} (spend_of (own_spends (read_owner owner) e k o m)) (λ _. letting_go) (omega arith))
  where
    letting_go : Spend (IsOwn e.task) Nothing 5 (lets_go e k o m)
    letting_go = own_step {n = 4} refl tt tt (λ recursions. own_step {n = 3} refl tt tt
        (λ _. own_step {n = 2} refl tt tt (λ _. own_step {n = 1} refl tt tt (λ _. own_step {n = 0} refl tt tt (λ _. spend_done (omega arith))))))

module _ (e : CallContext) (t saved o : ℕ) where
  resumed_spends : (m : ℕ) → Spending (IsOwn e.task) Nothing Aside 3 (resumed_steps e t saved o m)
  resumed_spends m =
      own_step {n = 2} refl tt tt (λ _. own_step {n = 1} refl tt tt (λ _. own_step {n = 0} refl tt tt (λ _. spend_end (omega arith) tt)))

  owner_spends : (form : Option OwnerForm) (m found : ℕ) → Spending (IsOwn e.task) Nothing Aside 3 (resume_owner_at form e t saved o m found)
  owner_spends (Some Free) m found = resumed_spends m
  owner_spends (Some (ByThread thread)) m found = spend_either (thread == t) spend_never (spend_end (omega arith) tt)
  owner_spends (Some (ByRecord thread place)) m found = spend_either (thread == t) spend_never (spend_end (omega arith) tt)
  owner_spends None m found = spend_never

  mark_spends : (form : Option MarkForm) → Spending (IsOwn e.task) Nothing Aside 4 (resume_mark_at form e t saved o)
  mark_spends (Some (Inflated m)) = own_step {n = 3} refl tt tt (λ found. owner_spends (read_owner found) m found)
  mark_spends _ = spend_never

  wait_spends : (form : Option WaitForm) (word : ℕ) → Spending (IsOwn e.task) Nothing Aside 5 (resume_at form e t saved o word)
  wait_spends (Some (wait.Waiting object stamp)) word = spend_end (omega arith) tt
  wait_spends (Some (wait.Notified object)) word = own_step {n = 4} refl tt tt (λ mark. mark_spends (read_mark mark))
  wait_spends _ word = spend_never

  pub monitor_resume_spends : Spending (IsOwn e.task) Nothing Aside 6 (monitor_resume_steps e t saved o)
  monitor_resume_spends = own_step {n = 5} refl tt tt (λ word. wait_spends (read_wait word) word)

module _ (e : CallContext) (k : Local) (o : ℕ) where
  pub publish_spends : (told : Entry) → Spend (IsOwn e.task) Nothing 1 (publish_steps told e k)
  publish_spends told = own_step {n = 0} refl tt tt (λ _. spend_done (omega arith))

  first_spends : (ps : List (ℕ × ℕ)) → Spend (IsOwn e.task) Nothing 1 (notify_first ps e k o)
  first_spends [] = own_step {n = 0} refl tt tt (λ _. spend_done {a = None} (omega arith))
  first_spends (p ∷ ps) = own_step {n = 0} refl tt tt (λ _. spend_done {a = Some p.0} (omega arith))

  word_spends : (t : ℕ) → Spend (IsOwn e.task) Nothing 1 (ask (load e (Waiting t)))
  word_spends t = own_step {n = 0} refl tt tt (λ w. spend_done {a = w} (omega arith))

  pub notify_spends : (n : ℕ) → Spend (IsOwn e.task) Nothing (n + 1) (monitor_notify_steps e k n o)
  notify_spends n = spend_both {k = 1} (spend_list {n = 1} 0 n word_spends) (λ words. first_spends (by_age (waiters o 0 words))) (omega arith)

  each_spends : (p : ℕ × ℕ) (ps : List (ℕ × ℕ)) (told : ℕ) → Spend (IsOwn e.task) Nothing (length ps + 1) (notify_each (p ∷ ps) e o told)
  each_spends p [] told = own_step {n = 0} refl tt tt (λ _. spend_done (omega arith))
  each_spends p (q ∷ ps) told = spend_more (omega arith) (own_step {n = length ps + 1} refl tt tt (λ _. each_spends q ps (told + 1)))

  listed_spends : (ps : List (ℕ × ℕ)) → Spend (IsOwn e.task) Nothing (length ps + 1) (notify_listed ps e k o)
  listed_spends [] = own_step {n = 0} refl tt tt (λ _. spend_done {a = 0} (omega arith))
  listed_spends (p ∷ ps) = spend_both {k = 0} (each_spends p ps 0) (λ _. spend_done {a = length (p ∷ ps)} (omega arith)) (omega arith)

  pub notify_all_spends : (n : ℕ) → Spend (IsOwn e.task) Nothing (n + n + 1) (monitor_notify_all_steps e k n o)
  notify_all_spends n =
      spend_then (spend_of (look_spends e n 1))
      (λ words. spend_more (omega (arith, as_many (waiters o 0 words), few_waiters o 0 words)) (listed_spends (by_age (waiters o 0 words))))

-- BIASES. A valid bias needs a safepoint, for which so many are left; without a bias so many are left.
abbrev pub to_revoke : ℕ → BiasTry → ℕ
to_revoke n (Took path) = 0
to_revoke n (Unbiased mark) = 0
to_revoke n (Valid mark) = n
to_revoke n (Raced expected found) = 0

abbrev pub to_enter : ℕ → ℕ → BiasTry → ℕ
to_enter n u (Took path) = 0
to_enter n u (Unbiased mark) = u
to_enter n u (Valid mark) = n
to_enter n u (Raced expected found) = 0

module _ (e : CallContext) (o n : ℕ) (one : 1 ≤ n) where
  unbias_spends : (mark neutral : ℕ) → Spend (IsOwn e.task) (to_revoke n) n (unbias_swap_steps e o mark neutral)
  unbias_spends mark neutral = spend_more one (own_step {n = 0} refl tt tt
      (λ found. spend_either (found == mark) (spend_done {a = Unbiased neutral} (omega arith)) (spend_done {a = Raced mark found} (omega arith))))

  drop_at_spends : (form : Option MarkForm) (epoch mark : ℕ) → Spend (IsOwn e.task) (to_revoke n) n (bias_drop_at form epoch e o mark)
  drop_at_spends (Some (Biased thread old age)) epoch mark =
      spend_either (old == epoch) (spend_done {a = Valid mark} (omega arith)) (unbias_spends mark (mark_of (Neutral 0 0)))
  drop_at_spends (Some (Anonymous old age)) epoch mark = unbias_spends mark (mark_of (Neutral 0 0))
  drop_at_spends _ epoch mark = spend_never

  drop_by_spends : (epoch : Option ℕ) (mark prototype : ℕ) → Spend (IsOwn e.task) (to_revoke n) n (bias_drop_by epoch e o mark prototype)
  drop_by_spends None mark prototype = unbias_spends mark prototype
  drop_by_spends (Some epoch) mark prototype = drop_at_spends (read_mark mark) epoch mark

  pub bias_drop_spends : (s : Shape) → Spend (IsOwn e.task) (to_revoke n) (n + 3) (bias_drop_steps s e o)
  bias_drop_spends s =
      spend_more (omega arith) (own_step {n = n + 2} refl tt tt (λ mark. spend_either (is_biased mark)
      (spend_more (omega arith) (spend_class {n = n + 1} e Settled s o (record { of = of_call refl tt; apart = tt }) (λ class.
      spend_more (omega arith) (own_step {n = n} refl tt tt (λ prototype. drop_by_spends (epoch_in prototype) mark prototype)))))
      (spend_done {a = Unbiased mark} (omega arith))))

module _ (e : CallContext) (k : Local) (o n u : ℕ) where
  pub took_spends : (path : Path) → Spend (IsOwn e.task) (to_enter n u) 3 (took_steps e k o path)
  took_spends path = spend_both (hold_spends e k o path) (λ path. spend_done {a = Took path} {n = 0} (omega arith)) (omega arith)

module _ (e : CallContext) (k : Local) (o n u m : ℕ) (four : 4 ≤ m) (more : u + 1 ≤ m) (least : n ≤ m) where
  rebias_spends : (mark epoch : ℕ) → Spend (IsOwn e.task) (to_enter n u) m (rebias_steps e k o mark epoch)
  rebias_spends mark epoch = spend_more four
      (own_step {n = 3} refl tt tt (λ found. spend_either (found == mark) (took_spends e k o n u BiasTaken)
      (spend_done {a = Raced mark found} (omega arith))))

  enter_at_spends : (form : Option MarkForm) (epoch mark : ℕ) → Spend (IsOwn e.task) (to_enter n u) m (bias_enter_at form epoch e k o mark)
  enter_at_spends (Some (Biased thread old age)) epoch mark =
      spend_either (old == epoch) (spend_either (thread == k.thread) (spend_more (omega (arith, four)) (took_spends e k o n u BiasOwn))
      (spend_done {a = Valid mark} least)) (rebias_spends mark epoch)
  enter_at_spends (Some (Anonymous old age)) epoch mark = rebias_spends mark epoch
  enter_at_spends _ epoch mark = spend_never

  enter_by_spends : (form : Option MarkForm) (mark prototype : ℕ)
      → Spend (IsOwn e.task) (to_enter n u) m (bias_enter_by form e k o mark prototype)
  enter_by_spends (Some (Neutral hash age)) mark prototype =
      spend_more more (spend_more (omega arith) (own_step {n = u} refl tt tt (λ found. spend_either (found == mark)
      (spend_done {a = Unbiased prototype} (omega arith)) (spend_done {a = Raced mark found} (omega arith)))))
  enter_by_spends (Some (Anonymous epoch age)) mark prototype = enter_at_spends (read_mark mark) epoch mark
  enter_by_spends _ mark prototype = spend_never

  pub bias_enter_spends : (s : Shape) → Spend (IsOwn e.task) (to_enter n u) (m + 3) (bias_enter_steps s e k o)
  bias_enter_spends s =
      spend_more (omega arith) (own_step {n = m + 2} refl tt tt (λ mark. spend_either (is_biased mark)
      (spend_more (omega arith) (spend_class {n = m + 1} e Settled s o (record { of = of_call refl tt; apart = tt }) (λ class.
      spend_more (omega arith) (own_step {n = m} refl tt tt (λ prototype. enter_by_spends (read_mark prototype) mark prototype)))))
      (spend_done {a = Unbiased mark} (omega (arith, more)))))

-- after a revocation the mark is loaded again, and is not exchanged
module _ (e : CallContext) (k : Local) (o n u m : ℕ) (three : 3 ≤ m) (room : u ≤ m) where
  after_at_spends : (form : Option MarkForm) → Spend (IsOwn e.task) (to_enter n u) m (bias_after_at form e k o)
  after_at_spends (Some (Biased thread epoch age)) = spend_either (thread == k.thread) (spend_more three (took_spends e k o n u BiasTaken)) spend_never
  after_at_spends _ = spend_never

  pub bias_after_spends : (took : Bool) → Spend (IsOwn e.task) (to_enter n u) (m + 1) (bias_after_steps e k o took)
  bias_after_spends took =
      spend_more (omega arith) (own_step {n = m} refl tt tt
      (λ mark. spend_either (is_biased mark) (after_at_spends (read_mark mark)) (spend_done {a = Unbiased mark} room)))

-- SAFEPOINTS
module _ (e : CallContext) (t : ℕ) where
  pub poll_spends : Spend (IsPlanOf e.task) Nothing 1 (poll_steps e)
  poll_spends = safe_step {n = 0} refl tt (λ word. spend_either (has_requester word)
      (spend_done {a = Pending (why.Requested word)} (omega arith)) (spend_done {a = Done tt} (omega arith)))

  swap_spends : (word : ℕ) → Spend (IsPlanOf e.task) Nothing 1 (request_swap_steps e t word)
  swap_spends word =
      safe_step {n = 0} refl tt (λ found. spend_either (found == word) (spend_done {a = Done tt} (omega arith))
      (spend_either (has_requester found) (spend_done {a = Pending (why.Requested found)} (omega arith))
      (spend_done {a = Pending (why.Raced word found)} (omega arith))))

  pub request_spends : Spend (IsPlanOf e.task) Nothing 2 (request_steps e t)
  request_spends =
      safe_step {n = 1} refl tt (λ word. spend_either (has_requester word) (spend_done {a = Pending (why.Requested word)} (omega arith))
      (swap_spends word))

  pub reached_spends : Spend (IsPlanOf e.task) Nothing 1 (reached_steps e)
  reached_spends = safe_step {n = 0} refl tt
      (λ word. spend_either (is_still word) (spend_done {a = Done tt} (omega arith)) (spend_done {a = Pending (why.Stopping word)} (omega arith)))

  then_spends : (progress : Progress (Unit {0})) → Spend (IsPlanOf e.task) Nothing 1 (then_reached e progress)
  then_spends (Done x) = reached_spends
  then_spends (Pending why) = spend_done {a = Pending why} (omega arith)

  pub safepoint_spends : (requesting : Bool) → Spend (IsPlanOf e.task) Nothing 3 (safepoint_steps e t requesting)
  safepoint_spends requesting = spend_either requesting (spend_more (omega arith) reached_spends) (spend_both {k = 1} request_spends then_spends (omega arith))

  pub release_spends : (stage : Stage) → Spend (IsPlanOf e.task) Nothing 1 (release_to stage e t)
  release_spends stage = safe_step {n = 0} refl tt (λ found. spend_either (found == reached_word t) (spend_done (omega arith)) spend_never)

  pub halt_spends : Spend (IsPlanOf e.task) Nothing 1 (halt_steps e t)
  halt_spends = safe_step {n = 0} refl tt (λ found. spend_either (found == reached_word t) (spend_done (omega arith)) spend_never)

module _ (e : CallContext) (k : Local) where
  pub stop_spends : Spend (IsPlanOf e.task) Nothing 2 (stop_steps e k)
  stop_spends = safe_step {n = 1} refl tt (λ _. safe_step {n = 0} refl tt (λ _. spend_done (omega arith)))

  barred_spends : (bars : Option PendingCause) (n : ℕ) (d : StepTree (Progress (Unit {0}))) → Spend (IsPlanOf e.task) Nothing n d
      → Spend (IsPlanOf e.task) Nothing n (unless bars d)
  barred_spends (Some why) n d h = spend_done {a = Pending why} (omega arith)
  barred_spends None n d h = h

  resume_swap_spends : (word : ℕ) → Spend (IsPlanOf e.task) Nothing 1 (resume_swap_steps e k word)
  resume_swap_spends word =
      safe_step {n = 0} refl tt (λ found. spend_either (found == word) (spend_done {a = Done tt} (omega arith))
      (barred_spends (bar found) 0 (pending_for (why.Raced word found)) (spend_done {a = Pending (why.Raced word found)} (omega arith))))

  pub resume_spends : Spend (IsPlanOf e.task) Nothing 2 (resume_steps e k)
  resume_spends = safe_step {n = 1} refl tt (λ word. barred_spends (bar word) 1 (resume_swap_steps e k word) (resume_swap_spends word))

-- HASHES
module _ (s : Shape) (e : CallContext) (k : Local) (draw : NextDraw) (o : ℕ) where
  draw_spends : (at : WordId) (header : ℕ) → IsApart at (CompareExchange header (mark_of (Neutral draw.value 0)))
      → Spending (IsOwn e.task) Nothing Aside 1 (draw_steps e draw at o header)
  draw_spends at header apart = own_step {n = 0} refl tt apart (λ found. spend_either (found == header)
      (spend_end {a = Done draw.value} (omega arith) tt) (spend_end {a = Pending (why.Raced header found)} (omega arith) tt))

  hash_monitor_spends : (m : ℕ) → Spending (IsOwn e.task) Nothing Aside 2 (hash_monitor_steps e draw o m)
  hash_monitor_spends m = own_step {n = 1} refl tt tt
      (λ header. spend_either (hash_in header == 0) (draw_spends (Header m) header tt) (spend_end {a = Done (hash_in header)} (omega arith) tt))

  inflated_spends : (progress : Progress ℕ) → Aside progress → Spending (IsOwn e.task) Nothing Aside 2 (hash_inflated e draw o progress)
  inflated_spends (Done m) h = hash_monitor_spends m
  inflated_spends (Pending why) h = spend_end {a = Pending why} (omega arith) h

  hash_inflate_spends : (kept : Option ℕ) → Spending (IsOwn e.task) Nothing Aside 12 (hash_inflate_steps s e kept draw o)
  hash_inflate_spends kept = spend_with (inflate_spends e k o s kept) inflated_spends (omega arith)

  unless_spends : (found kept : Option ℕ) → Spending (IsOwn e.task) Nothing Aside 12 (hash_unless found s e kept draw o)
  unless_spends (Some value) kept = spend_end {a = Done value} (omega arith) tt
  unless_spends None kept = hash_inflate_spends kept

  displaced_spends : Spend (IsOwn e.task) Nothing 1 (hash_displaced_steps e k o)
  displaced_spends =
      own_step {n = 0} refl tt tt (λ header. spend_done {a = cond (hash_in header == 0) None (Some (hash_in header))} (omega arith))

  hash_at_spends : (form : Option MarkForm) (kept : Option ℕ) (mark : ℕ)
      → Spending (IsOwn e.task) Nothing Aside 13 (hash_mark_steps form s e k kept draw o mark)
  hash_at_spends (Some Inflating) kept mark = spend_end {a = Pending why.Inflating} (omega arith) tt
  hash_at_spends (Some (Neutral hash age)) kept mark =
      spend_either (hash == 0) (spend_more (omega arith) (draw_spends (Mark o) mark tt)) (spend_end {a = Done hash} (omega arith) tt)
  hash_at_spends (Some (Locked thread place)) kept mark =
      spend_either (thread == k.thread) (spend_both {k = 12} displaced_spends (λ found. unless_spends found kept) (omega arith))
      (spend_more (omega arith) (hash_inflate_spends kept))
  hash_at_spends (Some (Inflated monitor)) kept mark = spend_more (omega arith) (hash_monitor_spends monitor)
  hash_at_spends _ kept mark = spend_never

  pub hash_header_spends : (kept : Option ℕ) → Spending (IsOwn e.task) Nothing Aside 14 (hash_header_steps s e k kept draw o)
  hash_header_spends kept = own_step {n = 13} refl tt tt (λ mark. hash_at_spends (read_mark mark) kept mark)
