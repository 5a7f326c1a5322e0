-- Enters that began by a quick one: what is left of them, and what they say when they are over.
use Rattle.std.proofs.Common.{◌≡◌, ℕ, ◌<◌, ◌==◌, List, Bool, true, false, if◌then◌else◌, Option, Some, Result, Ok, Err, length, refl, sym, ap, ◌∙◌, subst}
use Rattle.mark_word.specs.declared.mark.MarkForm.{MarkForm}
use Rattle.mark_word.specs.declared.mark.MarkForm.TheVariants.{Neutral, Anonymous, Biased}
use Rattle.mark_word.specs.Mark.{read_mark}
use Rattle.mark_word.specs.Owner.{read_owner}
use Rattle.plain_monitor.specs.Limits.{most_holds}
use Rattle.plain_monitor.specs.declared.entry.Logged.{Logged}
use Rattle.plain_monitor.specs.declared.entry.Path.{Path}
use Rattle.plain_monitor.specs.declared.entry.Path.TheVariants.{BiasOwn}
use Rattle.core_world.specs.declared.answer.BiasTry.{BiasTry}
use Rattle.core_world.specs.declared.answer.BiasTry.TheVariants.{Valid}
use Rattle.core_world.specs.declared.answer.Progress.{Progress}
use Rattle.core_world.specs.declared.answer.IllegalMonitorState.{IllegalMonitorState}
use Rattle.core_world.specs.declared.answer.TooDeep.{TooDeep}
use Rattle.core_world.specs.declared.heap_call.HeapCall.{HeapCall}
use Rattle.core_world.specs.declared.heap_call.HeapCall.TheVariants.{Enter, Exit}
use Rattle.core_world.specs.Threads.ThreadView.{Local, Start, local_of}
use Rattle.core_world.specs.Due.{Runs}
use Rattle.core_world.specs.Locks.{hold_count}
use Rattle.core_world.specs.Threads.Stages.{Revocation}
use Rattle.core_world.specs.Trees.BiasSteps.{bias_enter_at, bias_enter_by, bias_valid_steps, rebias_steps, took_steps}
use Rattle.core_world.specs.Trees.Calls.{steps_of}
use Rattle.core_world.specs.Trees.MonitorSteps.{monitor_enter_at}
use Rattle.core_world.specs.Trees.Operations.{answer, exit_going, exit_steps, enter_going, enter_steps, enter_tried, full_steps}
use Rattle.core_world.specs.Trees.Plans.{CallContext, done_with, free_place}
use Rattle.core_world.specs.Trees.StepTree.{StepTree, done, ◌>>=◌}
use Rattle.core_world.specs.Words.Shape.{Shape}
use Rattle.core_calls.proofs.enter_exit.EntersSay.{enter_says, exit_says}
use Rattle.core_calls.proofs.Runs.{tells}
use Rattle.heap_table.specs.ExitParts.{owned_exit}
use Rattle.heap_table.specs.Parts.{IsDueOn, HasMadeSteps}
use Rattle.heap_table.specs.Quick.{IsBegun, entering, entered, leaving, marked_enter, owner_enter, owner_exit, prototype_enter}
use Rattle.heap_table.specs.Resting.{MayOperate, Rests, start_now}
use Rattle.heap_table.specs.Seen.{HeapSeen, PassSeen}
use Rattle.heap_table.proofs.Resting.{IsCallOf, rests_after}
use Rattle.heap_table.proofs.StepsLeft.{AreLeft, part_of}
use Rattle.lock_runtime.proofs.After.{arm_first, first_then}
use Rattle.lock_runtime.proofs.Begins.{room_one}
use Rattle.lock_runtime.proofs.Entered.{enters_alike, unbiased_alike}
use Rattle.lock_runtime.proofs.Enters.{first_if_full, first_to_enter}
use Rattle.lock_runtime.proofs.LeftNothing.{first_to_exit}
use Rattle.lock_runtime.proofs.PartMade.{then_ends}
use Rattle.lock_runtime.proofs.Refused.{held}
use Rattle.lock_runtime.proofs.Revoked.{revoked_alike}
use Rattle.lock_runtime.proofs.StandsCalls.{enter_leaves, exit_leaves}
use Rattle.lock_runtime.specs.Begun.{IsEntered, IsExited}

-- what comes after a try goes by what the thread knows of itself
tried_alike : (s : Shape) (e : CallContext) (k l : Start) (b : Revocation) → k.local ≡ l.local → k.kept ≡ l.kept → (t : BiasTry)
    → enter_tried t s e k b ≡ enter_tried t s e l b
tried_alike s e k l b local kept (Valid mark) = revoked_alike s false e k l b local kept
tried_alike s e k l b local kept t = unbiased_alike s e k l b.object local kept t

-- the first step of an enter by mark and prototype is one of its call
first_at : (f : Option MarkForm) (epoch : ℕ) (e : CallContext) (k : Local) (o mark : ℕ) → IsCallOf e.task (bias_enter_at f epoch e k o mark)
first_at (Some (Biased t old age)) epoch e k o mark =
    arm_first e.task (old == epoch) (bias_valid_steps e k o mark t) (rebias_steps e k o mark epoch)
    (arm_first e.task (t == k.thread) (took_steps e k o BiasOwn) (done (Valid mark)) refl tt) refl
first_at (Some (Anonymous old age)) epoch e k o mark = refl
first_at _ epoch e k o mark = tt

pub first_by : (f : Option MarkForm) (e : CallContext) (k : Local) (o mark prototype : ℕ) → IsCallOf e.task (bias_enter_by f e k o mark prototype)
first_by (Some (Neutral hash age)) e k o mark prototype = refl
first_by (Some (Anonymous epoch age)) e k o mark prototype = first_at (read_mark mark) epoch e k o mark
first_by _ e k o mark prototype = tt

-- the same call, in other words
pub due_in : {A : Type 0} (h : HeapSeen) (q : PassSeen) {t u : HeapCall} {d : StepTree A} → t ≡ u → IsDueOn h q t d → IsDueOn h q u d
due_in h q {d = d} same due = subst (λ (x : HeapCall). IsDueOn h q x d) same due

-- WHAT IS LEFT of a call, by what the thread knows now: it is due, there is room for its entry, and once it is made the whole is.
module _ {A E : Type 0} {h : HeapSeen} {t : HeapCall} {p q : PassSeen} {whole : StepTree (Result (Progress A) E)} {d : Start → StepTree (Progress A)}
    (alike : (k l : Start) → k.local ≡ l.local → k.kept ≡ l.kept → d k ≡ d l)
    (begun : IsBegun h t p whole q (d (start_now h p) >>= answer)) where
  same : d (start_now h p) ≡ d (start_now h q)
  same = alike (start_now h p) (start_now h q) (sym begun.local) (sym begun.kept)

  pub left_due : IsDueOn h q t (d (start_now h q))
  left_due = subst (IsDueOn h q t) same (part_of (answer {A = Progress A} {E = E}) begun.left)

  pub left_room : MayOperate h p t → length q.known.log < q.limit
  left_room may = subst (λ (m : ℕ). length q.known.log < m) (sym begun.limit)
      (subst (λ (l : List Logged). length l < p.limit) (sym (ap (λ (l : Local). l.log) begun.local)) (room_one h p t may))

  pub left_made : {r : PassSeen} {a : Progress A} → HasMadeSteps h (d (start_now h q)) q r a → HasMadeSteps h whole p r (Ok a)
  left_made {r = r} {a = a} made = begun.left.whole r (Ok a)
      (then_ends (answer {A = Progress A} {E = E}) refl (subst (λ x. HasMadeSteps h x q r a) (sym same) made))

module _ (h : HeapSeen) (p : PassSeen) (o now : ℕ) (may : MayOperate h p (Enter o now)) where
  abbrev whole : StepTree (Result (Progress Path) TooDeep)
  whole = enter_steps h.heap.shape (start_now h p) o now

  enter_is_call : IsCallOf (Enter o now) whole
  enter_is_call =
      let k = start_now h p in
      arm_first (Enter o now) (free_place k.local.holds == most_holds) (full_steps k o)
      (enter_going h.heap.shape (entering o now) k (entered o now) >>= answer) (first_if_full k o now)
      (first_then (Enter o now) (enter_going h.heap.shape (entering o now) k (entered o now)) answer
      (first_to_enter h.heap.shape (entering o now) k (entered o now)) (λ a. tt))

  -- once its steps are made the thread rests
  pub enter_rests : {q : PassSeen} {r : Result (Progress Path) TooDeep} → HasMadeSteps h whole p q r → Rests h q
  unfolding steps_of
  enter_rests {q = q} {r = r} run = rests_after h p (Enter o now) may.call whole refl enter_is_call q r run

  -- and all is said
  pub is_entered : {q : PassSeen} {r : Result (Progress Path) TooDeep} → HasMadeSteps h whole p q r → IsEntered h p q o now r
  is_entered {q = q} run =
      let leaves = enter_leaves h p q run.heap may.call.rests o now may.call.may run.ran in
      record { run = run; says = tells (enter_says h.heap.shape (start_now h p) o now) run.ran; stands = leaves.0; others = leaves.1 }

-- the three trees that may be left go by nothing else
pub marked_alike : (s : Shape) (o now mark : ℕ) (k l : Start) → k.local ≡ l.local → k.kept ≡ l.kept → marked_enter s k o now mark ≡ marked_enter s l o now mark
marked_alike s o now mark k l local kept = enters_alike s (entering o now) k l o local kept (read_mark mark) mark

pub prototype_alike : (s : Shape) (o now mark prototype : ℕ) (k l : Start) → k.local ≡ l.local → k.kept ≡ l.kept
    → prototype_enter s k o now mark prototype ≡ prototype_enter s l o now mark prototype
prototype_alike s o now mark prototype k l local kept = λ i. bias_enter_by (read_mark prototype) (entering o now) (local i) o mark prototype
    >>= (λ t. tried_alike s (entering o now) k l (entered o now) local kept t i)

pub owner_alike : (o now m found : ℕ) (k l : Start) → k.local ≡ l.local → k.kept ≡ l.kept → owner_enter k o now m found ≡ owner_enter l o now m found
owner_alike o now m found k l local kept = ap (λ (x : Local). monitor_enter_at (read_owner found) (entering o now) x o m found) local

-- THE EXIT goes by the thread's own words alone.
pub exit_alike : (o m owner : ℕ) (k l : Start) → k.local ≡ l.local → k.kept ≡ l.kept → owner_exit k o m owner ≡ owner_exit l o m owner
exit_alike o m owner k l local kept = λ i. owned_exit (read_owner owner) (leaving o) (local i) o m >>= (λ _. done_with (tt {0}))

module _ (h : HeapSeen) (p : PassSeen) (o : ℕ) (may : MayOperate h p (Exit o)) where
  abbrev whole_exit : StepTree (Result (Progress (Unit {0})) IllegalMonitorState)
  whole_exit = exit_steps (start_now h p) o

  exit_is_call : IsCallOf (Exit o) whole_exit
  exit_is_call =
      let k = start_now h p in
      arm_first (Exit o) (hold_count o k.local.holds == 0) (done (Err (record {}))) (exit_going (leaving o) k.local o >>= answer) tt
      (first_then (Exit o) (exit_going (leaving o) k.local o) answer (first_to_exit (leaving o) k.local o) (λ a. tt))

  pub exit_rests : {q : PassSeen} {r : Result (Progress (Unit {0})) IllegalMonitorState} → HasMadeSteps h whole_exit p q r → Rests h q
  unfolding steps_of
  exit_rests {q = q} {r = r} run = rests_after h p (Exit o) may.call whole_exit refl exit_is_call q r run

  -- what wasn't refused had a hold
  pub had_hold : {q : PassSeen} {a : Progress (Unit {0})} → HasMadeSteps h whole_exit p q (Ok a) → (hold_count o p.known.holds == 0) ≡ false
  had_hold {q = q} {a = a} run = cases (hold_count o p.known.holds == 0) run.ran.by
    where
      cases : (b : Bool) → Runs {A = Result (Progress (Unit {0})) IllegalMonitorState} h.heap.shape h.heap.start (if b then done (Err (record {})) else exit_going (leaving o) (local_of p.known) o >>= answer)
          p.known q.known (Ok a) → b ≡ false
      cases true made = absurd (cc made.1)
      cases false made = refl

  pub is_exited : {q : PassSeen} {a : Progress (Unit {0})} → HasMadeSteps h whole_exit p q (Ok a) → IsExited h p q o (Ok a)
  is_exited {q = q} {a = a} run = record {
    run = run;
    says = tells (exit_says (start_now h p) o) run.ran;
    stands = (exit_leaves h p q run.heap may.call.rests o may.call.may run.ran).0;
    owner = held h p may.call.rests o (had_hold run);
  }
