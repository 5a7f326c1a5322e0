-- How a thread stands after each call.
use Rattle.std.proofs.Common.{◌≡◌, ℕ, ◌<◌, ◌&&◌, not, cond, Bool, true, false, List, [], length, Option, Result, Ok, Err, sym, ap, ◌∙◌, subst}
use Rattle.plain_monitor.specs.declared.entry.Ending.{Ending}
use Rattle.plain_monitor.specs.declared.entry.Path.{Path}
use Rattle.plain_monitor.specs.declared.entry.Value.{Value}
use Rattle.core_world.specs.declared.answer.IllegalMonitorState.{IllegalMonitorState}
use Rattle.core_world.specs.declared.answer.TooDeep.{TooDeep}
use Rattle.core_world.specs.declared.answer.TooMany.{TooMany}
use Rattle.core_world.specs.declared.answer.TooManyDumps.{TooManyDumps}
use Rattle.core_world.specs.declared.answer.Progress.{Progress}
use Rattle.core_world.specs.declared.answer.Progress.TheVariants.{Done, Pending}
use Rattle.core_world.specs.declared.answer.PendingCause.TheVariants as why
use Rattle.core_world.specs.declared.answer.Unguarded.{Unguarded}
use Rattle.core_world.specs.declared.heap_call.Operation.{Operation}
use Rattle.core_world.specs.declared.heap_call.Operation.TheVariants as op
use Rattle.core_world.specs.declared.heap_call.HeapCall.TheVariants as task
use Rattle.core_world.specs.Clauses.Safepoints.{ends}
use Rattle.core_world.specs.Due.{Ran}
use Rattle.core_world.specs.Threads.AtRest.{AtRest}
use Rattle.core_world.specs.Threads.ThreadView.{ThreadView, Start, StepMade}
use Rattle.core_world.specs.Threads.References.{has_reference}
use Rattle.core_world.specs.Trees.Calls.{may_act, may_operate, side_context}
use Rattle.core_world.specs.Trees.Operations.{goes_on_with, enter_steps, exit_steps, wait_steps, notify_steps, notify_all_steps, hash_steps}
use Rattle.core_world.specs.Trees.Operations.{get_steps, put_steps, print_steps, finish_steps, dump_steps, create_steps, check_steps}
use Rattle.core_world.specs.Trees.SafepointSteps.{poll_steps, stop_steps, resume_steps}
use Rattle.core_world.specs.Trees.StepTree.{StepTree}
use Rattle.core_calls.specs.Stands.{Stand, IsGoing, IsOff, RunsAfter, ProgressStands, ResultStands, PollStands}
use Rattle.core_calls.specs.Stands.{ResumeStands, CheckStands, ThreadStandsAlong, stand_of, begun}
use Rattle.core_calls.specs.Paths.{Says}
use Rattle.core_calls.proofs.made.CreatesSay.{create_says}
use Rattle.core_calls.proofs.enter_exit.EntersSay.{enter_says, exit_says}
use Rattle.core_calls.proofs.safepoint.Leaving.{check_halts}
use Rattle.core_calls.proofs.OtherCallsSay.{get_says, put_says, dump_says}
use Rattle.core_calls.proofs.wait.WaitCallsSay.{wait_says, notify_says, notify_all_says}
use Rattle.core_calls.proofs.StandsCalls.{enter_stands, exit_stands, wait_stands, notify_call_stands, notify_all_call_stands}
use Rattle.core_calls.proofs.StandsCalls.{hash_stands, dump_stands, check_stands, poll_call_stands, stop_call_stands}
use Rattle.core_calls.proofs.StandsCalls.{resume_call_stands, get_stands, put_stands, print_stands, finish_stands, create_stands}
use Rattle.heap_table.specs.Resting.{Rests, start_now}
use Rattle.heap_table.specs.Seen.{HeapSeen, PassSeen, IsOf}
use Rattle.heap_table.proofs.Resting.{at_rest}
use Rattle.lock_runtime.specs.Standing.{IsRunning, HasStopped, StandsAfterTurn, StandsOrSame, RunsOrSame, StandsAfterResumeTurn, StandsAfterCheckTurn}
use Rattle.lock_runtime.specs.Others.{PendsForAnother, PendsOrRefused}
use Rattle.lock_runtime.proofs.Begins.{second_of}
use Rattle.lock_runtime.proofs.Stands.{low, stands, operates, progress_after, result_after, refused_same}
use Rattle.lock_runtime.proofs.StandsBefore.{unasked, stands_before, exit_unasked, wait_unasked, act_unasked, check_before, resume_before}

module _ (h : HeapSeen) (p q : PassSeen) (of_q : IsOf h q) where
  abbrev k : Start
  k = start_now h p

  -- the run of a call
  abbrev CallRan : {A : Type 0} → StepTree A → A → Type 0
  CallRan d a = Ran h.heap.shape h.heap.start d p.known q.known a

  -- how the thread stands after an operation, and for whom it is pending
  abbrev Leaves : {A E : Type 0} → Result (Progress A) E → Type 0
  Leaves r = StandsOrSame p.known q.known r × PendsOrRefused p.known.thread r

  -- an operation on o may begin
  abbrev MayOn : Operation → ℕ → Type 0
  MayOn which o = (has_reference h.heap.shape p.known o && may_operate p.known (goes_on_with which o p.known.unfinished)) ≡ true

  module _ (rests : Rests h p) where
    rest : AtRest h.heap.shape p.known
    rest = at_rest h p rests

    bit : p.known.thread < 32
    bit = low h p q rests.is_of of_q

    -- after an operation, by what is said of it
    result_so : {A E : Type 0} {d : StepTree (Result (Progress A) E)} {r : Result (Progress A) E} {P : List StepMade → Result (Progress A) E → Type 0}
        (going : Bool) → may_operate p.known going ≡ true → Says d P → ((ms : List StepMade) (e : E) → P ms (Err e) → ms ≡ [])
        → ThreadStandsAlong p.known.thread (begun k) d (ResultStands p.known.thread) → CallRan d r → Leaves r
    result_so {d = d} {r = r} {P = P} going may says none law ran =
        result_after h.heap.shape h.heap.start d p.known q.known r P says none ran
        (operates h p q rests.is_of of_q d r ran (stands_before h.heap.shape p.known rest going may) (ResultStands p.known.thread) law)

    -- and after one that makes its entry at once
    runs_so : {A E : Type 0} {d : StepTree (Result A E)} {r : Result A E} {P : List StepMade → Result A E → Type 0} → may_act p.known ≡ true → Says d P
        → ((ms : List StepMade) (e : E) → P ms (Err e) → ms ≡ []) → ThreadStandsAlong p.known.thread (begun k) d RunsAfter → CallRan d r
        → RunsOrSame p.known q.known r
    runs_so {A = A} {E = E} {d = d} {r = r} {P = P} may says none law ran =
        cases r ran (operates h p q rests.is_of of_q d r ran (stands_before h.heap.shape p.known rest false may) RunsAfter law)
      where
        cases : (r : Result A E) → CallRan d r → RunsAfter (stand_of q.known) r → RunsOrSame p.known q.known r
        cases (Ok a) ran so = record { runs = so.runs; asks = so.asks }
        cases (Err e) ran so = refused_same h.heap.shape h.heap.start d p.known q.known e P says (λ ms x. none ms e x) ran

    module _ (o : ℕ) where
      on_it : {A E : Type 0} {d : StepTree (Result (Progress A) E)} {r : Result (Progress A) E} {P : List StepMade → Result (Progress A) E → Type 0}
          (which : Operation) → MayOn which o → Says d P → ((ms : List StepMade) (e : E) → P ms (Err e) → ms ≡ [])
          → ThreadStandsAlong p.known.thread (begun k) d (ResultStands p.known.thread) → CallRan d r → Leaves r
      on_it which may says none law ran =
          result_so (goes_on_with which o p.known.unfinished) (second_of (has_reference h.heap.shape p.known o) _ may) says none law ran

      module _ (now : ℕ) where
        pub enter_leaves : {r : Result (Progress Path) TooDeep} → MayOn op.Enter o → CallRan (enter_steps h.heap.shape k o now) r → Leaves r
        enter_leaves may ran = on_it op.Enter may (enter_says h.heap.shape k o now) (λ ms e x. x.1) (enter_stands k bit h.heap.shape o now) ran

        pub wait_leaves : {r : Result (Progress (Unit {0})) IllegalMonitorState} → MayOn op.Wait o → CallRan (wait_steps h.heap.shape k o now) r → Leaves r
        wait_leaves may ran =
            let going = second_of (has_reference h.heap.shape p.known o) _ may in
            on_it op.Wait may (wait_says h.heap.shape k o now) (λ ms e x. x.1)
            (wait_stands k bit h.heap.shape o now (wait_unasked h.heap.shape p.known rest o going)) ran

        pub notify_leaves : {r : Result (Progress (Option ℕ)) IllegalMonitorState} → MayOn op.Notify o → CallRan (notify_steps h.heap.shape k o now) r
            → Leaves r
        notify_leaves may ran = on_it op.Notify may (notify_says h.heap.shape k o now) (λ ms e x. x.1) (notify_call_stands k bit h.heap.shape o now) ran

        pub notify_all_leaves : {r : Result (Progress ℕ) IllegalMonitorState} → MayOn op.NotifyAll o → CallRan (notify_all_steps h.heap.shape k o now) r
            → Leaves r
        notify_all_leaves may ran =
            on_it op.NotifyAll may (notify_all_says h.heap.shape k o now) (λ ms e x. x.1) (notify_all_call_stands k bit h.heap.shape o now) ran

        pub hash_leaves : (progress : Progress ℕ) → MayOn op.Hash o → CallRan (hash_steps h.heap.shape k o now) progress
            → StandsAfterTurn q.known progress × PendsForAnother p.known.thread progress
        hash_leaves progress may ran =
            let going = second_of (has_reference h.heap.shape p.known o) _ may in
            let before = stands_before h.heap.shape p.known rest (goes_on_with op.Hash o p.known.unfinished) going in
            progress_after p.known.thread q.known progress (operates h p q rests.is_of of_q (hash_steps h.heap.shape k o now) progress ran before
            (ProgressStands p.known.thread) (hash_stands k bit h.heap.shape o now))

      pub exit_leaves : {r : Result (Progress (Unit {0})) IllegalMonitorState} → MayOn op.Exit o → CallRan (exit_steps k o) r → Leaves r
      exit_leaves may ran =
          let going = second_of (has_reference h.heap.shape p.known o) _ may in
          on_it op.Exit may (exit_says k o) (λ ms e x. x.1) (exit_stands k bit (exit_unasked h.heap.shape p.known rest o going) o) ran

    module _ (may : may_act p.known ≡ true) where
      unasking : p.known.requesting ≡ false
      unasking = act_unasked h.heap.shape p.known rest may

      pub get_leaves : {r : Result Value Unguarded} (o slot : ℕ) → CallRan (get_steps k o slot) r → RunsOrSame p.known q.known r
      get_leaves o slot ran = runs_so may (get_says k o slot) (λ ms e x. x.1) (get_stands k bit unasking o slot) ran

      pub put_leaves : {r : Result (Unit {0}) Unguarded} (o slot : ℕ) (value : Value) → CallRan (put_steps k o slot value) r → RunsOrSame p.known q.known r
      put_leaves o slot value ran = runs_so may (put_says k o slot value) (λ ms e x. x.1) (put_stands k bit unasking o slot value) ran

      pub create_leaves : {r : Result ℕ TooMany} (c : ℕ) → CallRan (create_steps h.heap.shape k c) r → RunsOrSame p.known q.known r
      create_leaves c ran = runs_so may (create_says h.heap.shape k c) (λ ms e x. x.1) (create_stands k bit unasking h.heap.shape c) ran

      running : {d : StepTree (Unit {0})} → ThreadStandsAlong p.known.thread (begun k) d (λ b _. IsGoing b) → CallRan d tt → IsRunning q.known
      running {d = d} law ran =
          let g = operates h p q rests.is_of of_q d tt ran (stands_before h.heap.shape p.known rest false may) (λ b _. IsGoing b) law in
          record { runs = g.runs; asks = g.asks }

      pub print_leaves : (value : Value) → CallRan (print_steps k value) tt → IsRunning q.known
      print_leaves value ran = running (print_stands k bit unasking value) ran

      pub finish_leaves : (ending : Ending) → CallRan (finish_steps k ending) tt → IsRunning q.known
      finish_leaves ending ran = running (finish_stands k bit unasking ending) ran

    pub dump_leaves : {r : Result (Progress ℕ) TooManyDumps} → may_operate p.known (goes_on_with op.Dump 0 p.known.unfinished) ≡ true
        → CallRan (dump_steps h.heap.shape k) r → Leaves r
    dump_leaves may ran =
        result_so (goes_on_with op.Dump 0 p.known.unfinished) may (dump_says h.heap.shape k) (λ ms e x. x.1) (dump_stands k bit h.heap.shape) ran

    -- AT THE SAFEPOINT WORD
    module _ (runs : p.known.running ≡ true) where
      before : not p.known.requesting ≡ p.known.running
      before = ap not (unasked h.heap.shape p.known rest runs) ∙ sym runs

      pub poll_leaves : (progress : Progress (Unit {0})) → CallRan (poll_steps (side_context task.Poll k)) progress
          → IsRunning q.known × PendsForAnother p.known.thread progress
      poll_leaves progress ran =
          by_progress progress (operates h p q rests.is_of of_q
          (poll_steps (side_context task.Poll k)) progress ran before (PollStands p.known.thread)
          (poll_call_stands k bit (unasked h.heap.shape p.known rest runs)))
        where
          by_progress : (progress : Progress (Unit {0})) → PollStands p.known.thread (stand_of q.known) progress
              → IsRunning q.known × PendsForAnother p.known.thread progress
          by_progress (Done x) so = (record { runs = so.runs; asks = so.asks }, tt)
          by_progress (Pending why) so = (record { runs = so.0.runs; asks = so.0.asks }, so.1)

      -- its log is published whole
      pub stop_leaves : CallRan (stop_steps (side_context task.Stop k) k.local) tt → HasStopped q.known
      stop_leaves ran =
          let d = stop_steps (side_context task.Stop k) k.local in
          let off = operates h p q rests.is_of of_q d tt ran before (λ b _. IsOff b) (stop_call_stands k bit
          (unasked h.heap.shape p.known rest runs)) in
          let last = ran.by.1.1.0 in
          let log : q.known.log ≡ p.known.log = ap (λ (x : ThreadView). x.log) last in
          record { stopped = record { runs = off.runs; asks = off.asks }; published = ap (λ (x : ThreadView). x.published) last ∙ ap length (sym log) }

    pub check_leaves : (progress : Progress Bool) → (not (ends p.known.log) && cond p.known.requesting p.known.checking p.known.running) ≡ true
        → CallRan (check_steps h.heap.shape k) progress
        → StandsAfterCheckTurn q.known progress × PendsForAnother p.known.thread progress
    check_leaves progress may ran =
        by_progress progress ran (operates h p q rests.is_of of_q (check_steps h.heap.shape k) progress ran
        (check_before h.heap.shape p.known rest may) (CheckStands p.known.thread)
        (check_stands k bit h.heap.shape))
      where
        by_progress : (progress : Progress Bool) → CallRan (check_steps h.heap.shape k) progress
            → CheckStands p.known.thread (stand_of q.known) progress
            → StandsAfterCheckTurn q.known progress × PendsForAnother p.known.thread progress
        by_progress (Done true) ran so = (
          record {
            stopped = record { runs = so.runs; asks = so.asks };
            halted = check_halts h.heap.shape h.heap.start h.heap.shape
                k p.known q.known ran;
          },
          tt,
        )
        by_progress (Done false) ran so = (record { runs = so.runs; asks = so.asks }, tt)
        by_progress (Pending (why.Stopping word)) ran so = (record { runs = so.0.runs; asks = so.0.asks }, so.1)
        by_progress (Pending _) ran so = (record { runs = so.0.runs; asks = so.0.asks }, so.1)

    pub resume_leaves : (progress : Progress (Unit {0})) → (not p.known.running && not p.known.requesting) ≡ true
        → CallRan (resume_steps (side_context task.Resume k) k.local) progress
        → StandsAfterResumeTurn q.known progress × PendsForAnother p.known.thread progress
    resume_leaves progress may ran =
        let off = resume_before p.known.running p.known.requesting may in
        by_progress progress (stands h p q rests.is_of of_q (resume_steps (side_context task.Resume k) k.local) progress ran
        (ResumeStands p.known.thread)
        (subst (λ (b : Stand). ThreadStandsAlong p.known.thread b (resume_steps (side_context task.Resume k) k.local)
        (ResumeStands p.known.thread)) (λ i. record { running = sym off.0 i; asking = sym off.1 i })
        (resume_call_stands k bit)))
      where
        by_progress : (progress : Progress (Unit {0})) → ResumeStands p.known.thread (stand_of q.known) progress
            → StandsAfterResumeTurn q.known progress × PendsForAnother p.known.thread progress
        by_progress (Done x) so = (record { runs = so.runs; asks = so.asks }, tt)
        by_progress (Pending why) so = (record { runs = so.0.runs; asks = so.0.asks }, so.1)
