-- What the calls on slots and prints say, those at a safepoint, and the parts that are calls by themselves.
use Rattle.std.proofs.Common.{ℕ, ◌+◌, ◌==◌, cond, not, Bool, true, false, List, [], None, refl, ap, inl, inr}
use Rattle.mark_word.specs.Mark.{read_mark}
use Rattle.plain_monitor.specs.declared.entry.Entry.TheVariants as entry
use Rattle.plain_monitor.specs.declared.entry.Ending.{Ending}
use Rattle.plain_monitor.specs.declared.entry.Value.{Value}
use Rattle.plain_monitor.specs.Endings.{ending_entry}
use Rattle.core_world.specs.declared.heap_call.Operation.TheVariants as op
use Rattle.core_world.specs.declared.heap_call.HeapCall.TheVariants as task
use Rattle.core_world.specs.declared.stage.Stage.TheVariants.{Settled}
use Rattle.core_world.specs.declared.answer.Progress.{Progress}
use Rattle.core_world.specs.declared.answer.Progress.TheVariants.{Done, Pending}
use Rattle.core_world.specs.Threads.ThreadView.{Start, StepMade}
use Rattle.core_world.specs.Locks.{hold_count}
use Rattle.core_world.specs.Trees.Plans.{CallContext, call_context, done_with}
use Rattle.core_world.specs.Words.Shape.{Shape}
use Rattle.core_world.specs.Trees.StepTree.{StepTree, ◌>>=◌}
use Rattle.core_world.specs.Trees.LockSteps.{stack_enter_steps, stack_exit_steps}
use Rattle.core_world.specs.Trees.SafepointSteps.{released_word, halted_word, safepoint_steps, release_safepoint, halt_steps}
use Rattle.core_world.specs.Trees.SafepointSteps.{stop_steps, resume_steps, poll_steps, request_steps, reached_steps}
use Rattle.core_world.specs.Trees.DeflateSteps.{deflate_steps}
use Rattle.core_world.specs.Trees.LookSteps.{take_shot_steps, stands_still_steps}
use Rattle.core_world.specs.Trees.WaitSteps.{publish_steps}
use Rattle.core_world.specs.Trees.Operations.{and_then, answer, lone_context, get_steps, put_steps, print_steps}
use Rattle.core_world.specs.Trees.Operations.{finish_steps, dump_going, dump_steps, check_ending, check_steps}
use Rattle.core_world.specs.Trees.Calls.{side_context}
use Rattle.core_world.specs.declared.answer.TooManyDumps.{TooManyDumps}
use Rattle.core_calls.specs.Paths.{Always, Says, Leaves}
use Rattle.core_calls.specs.Causes.{Caused, CausedUnder, Overtaken, is_stopping, of_requests, of_safepoints}
use Rattle.core_calls.specs.CallsSay.{unfinished_on, GetSays, PutSays, PrintSays, FinishSays, DumpProgressSays, DumpSays, PollSays, StopSays}
use Rattle.core_calls.specs.CallsSay.{ResumeSays, CheckSays, IsGiven, StackEnterSays, StackExitSays, RequestSays, ReachedSays, ReleaseSays}
use Rattle.core_calls.specs.CallsSay.{ResultSays}
use Rattle.core_calls.proofs.Paths.{missed_loaded, missed_seen, always_then, always_so, either_way, Silent, Still, still, still_logged}
use Rattle.core_calls.proofs.Paths.{now_logged}
use Rattle.core_calls.proofs.Spends.{spend_quietly, spend_so}
use Rattle.core_calls.proofs.enter_exit.LocksSay.{OutTells, stack_enter_says, stack_exit_says}
use Rattle.core_calls.proofs.wait.WaitsSay.{publish_says}
use Rattle.core_calls.proofs.safepoint.SafepointsSay.{Polled, poll_says, stop_says, resume_says, SafeProgress, Asked, request_says}
use Rattle.core_calls.proofs.safepoint.SafepointsSay.{reached_says, safepoint_says, Released, release_says, halt_says}
use Rattle.core_calls.proofs.safepoint.LookSpends.{shot_spends, still_spends}
use Rattle.core_calls.proofs.deflation.DeflationSpends.{deflate_spends}
use Rattle.core_calls.proofs.OperationsSay.{then_says, working, no_check}
use Rattle.core_calls.proofs.enter_exit.EntersSay.{nothing_yet}
use Rattle.core_calls.proofs.Reasons.{Seeing, ProgressSees, ResultSees, result_said, result_seen}

pub get_says : (k : Start) (o slot : ℕ) → Says (get_steps k o slot) (GetSays k o slot)
get_says k o slot =
    record {
      by = either_way (GetSays k o slot) [] (hold_count o k.local.holds == 0) _ _ (λ none. (none, refl)) (λ some n.
          (some, (record { entries = refl; unfinished = λ before. refl; checking = λ before. refl }, (n, refl, inl (refl, refl, refl)))));
    }

pub put_says : (k : Start) (o slot : ℕ) (value : Value) → Says (put_steps k o slot value) (PutSays k o slot value)
put_says k o slot value =
    record {
      by = either_way (PutSays k o slot value) [] (hold_count o k.local.holds == 0) _ _ (λ none. (none, refl))
          (λ some n. (some, (record { entries = refl; unfinished = λ before. refl; checking = λ before. refl }, inl (refl, refl))));
    }

pub print_says : (k : Start) (value : Value) → Says (print_steps k value) (PrintSays value)
print_says k value = record { by = publish_says (lone_context (task.Print value)) k.local (entry.Print value) [] nothing_yet }

pub finish_says : (k : Start) (ending : Ending) → Says (finish_steps k ending) (FinishSays ending)
finish_says k ending = record {
  by = λ n w.
      still_logged _ w _ refl refl refl refl (still (now_logged (ending_entry ending) None false _ n [] refl refl refl refl nothing_yet));
}

-- what a safepoint of a dump or of a check is pending for
safely : (e : CallContext) (k : Start) (ms : List StepMade) → Still ms
    → Always (SafeProgress e k.local.thread (Seeing (CausedUnder of_safepoints k.requesting k.local.thread 0))) ms
    (safepoint_steps e k.local.thread k.requesting)
safely e k ms h =
    safepoint_says e k.local.thread (Seeing (CausedUnder of_safepoints k.requesting k.local.thread 0)) k.requesting
    (λ word ms moves loaded stands. ((record { among = refl; cause = (moves, loaded) }, stands), tt))
    (λ none expected found ms missed. ((record { among = ap not none; cause = missed_loaded ms missed }, tt), missed_seen ms missed))
    (λ none word ms other there. ((record { among = ap not none; cause = (other, there) }, tt), tt)) ms h

-- DUMP
module _ (s : Shape) (k : Start) where
  abbrev dumping : CallContext
  dumping = working task.Dump (unfinished_on op.Dump 0)

  abbrev Reaching : List StepMade → Progress (Unit {0}) → Type 0
  Reaching = SafeProgress dumping k.local.thread (Seeing (CausedUnder of_safepoints k.requesting k.local.thread 0))

  abbrev DumpTells : List StepMade → Progress ℕ → Type 0
  DumpTells ms progress = DumpProgressSays k ms progress × ProgressSees ms progress

  dump_going_says : Always DumpTells [] (dump_going s dumping k)
  dump_going_says =
      always_then Reaching DumpTells (safepoint_steps dumping k.local.thread k.requesting) (λ progress. and_then progress shoots) []
      (safely dumping k [] nothing_yet)
      (λ ms progress so. then_says Reaching DumpTells progress shoots ms so
      (λ _ reached. always_then (λ ms _. Silent dumping ms) DumpTells
      (take_shot_steps dumping s) (λ _. deflates) ms (spend_quietly ms (shot_spends dumping s) reached.0)
      (λ ms _ silent. always_then (λ ms _. Silent dumping ms) DumpTells (deflate_steps s dumping Settled)
      (λ _. releases) ms (spend_quietly ms (deflate_spends dumping s Settled) silent)
      (λ ms _ silent. always_then (Released dumping k.local.thread (released_word k.local.thread)) DumpTells
      (release_safepoint dumping k.local.thread) (λ _. tells) ms (release_says dumping k.local.thread Settled ms (still silent))
      (λ ms _ so n. ((refl, now_logged (entry.Dump (k.shots + 1)) None false _ n ms refl refl refl refl (still so.0), inr so.1), tt)))))
      (λ why so. ((no_check why so.0, so.1.0), so.1.1)))
    where
      tells : StepTree (Progress ℕ)
      tells = publish_steps (entry.Dump (k.shots + 1)) dumping k.local >>= λ _. done_with (k.shots + 1)

      releases : StepTree (Progress ℕ)
      releases = release_safepoint dumping k.local.thread >>= λ _. tells

      deflates : StepTree (Progress ℕ)
      deflates = deflate_steps s dumping Settled >>= λ _. releases

      shoots : Unit {0} → StepTree (Progress ℕ)
      shoots _ = take_shot_steps dumping s >>= λ _. deflates

  dump_tells : Always (ResultSays (k.shots == 4) DumpTells) [] (dump_steps s k)
  dump_tells =
      either_way (ResultSays (k.shots == 4) DumpTells) [] (k.shots == 4) _ _
      (λ many. (many, refl))
      (λ room. always_then DumpTells (ResultSays (k.shots == 4) DumpTells) (dump_going s dumping k) answer [] dump_going_says
      (λ ms progress so. (room, so)))

  pub dump_says : Says (dump_steps s k) (DumpSays k)
  dump_says = record {
    by = always_so (ResultSays (k.shots == 4) DumpTells) (DumpSays k) (dump_steps s k) [] dump_tells
        (result_said (k.shots == 4) DumpTells (DumpProgressSays k) (λ ms a h. h.0));
  }

  pub dump_sees : Always (ResultSees {A = ℕ} {E = TooManyDumps}) [] (dump_steps s k)
  dump_sees = always_so (ResultSays (k.shots == 4) DumpTells) (ResultSees {A = ℕ} {E = TooManyDumps}) (dump_steps s k) [] dump_tells
      (result_seen (k.shots == 4) DumpTells (λ ms a h. h.1))

-- POLL, STOP, RESUME
module _ (k : Start) where
  pub poll_call_says : Says (poll_steps (side_context task.Poll k)) (PollSays k)
  poll_call_says = record {
    by = always_so (Polled (side_context task.Poll k) k.local.thread) (PollSays k) (poll_steps (side_context task.Poll k)) []
        (poll_says (side_context task.Poll k) k.local.thread [] nothing_yet) by_progress;
  }
    where
      by_progress : (ms : List StepMade) (progress : Progress (Unit {0}))
          → Polled (side_context task.Poll k) k.local.thread ms progress → PollSays k ms progress
      by_progress ms (Done x) so = so
      by_progress ms (Pending why) so = so

  pub stop_call_says : Says (stop_steps (side_context task.Stop k) k.local) (StopSays k)
  stop_call_says = record { by = stop_says (side_context task.Stop k) k.local [] nothing_yet }

  pub resume_call_says : Says (resume_steps (side_context task.Resume k) k.local) (ResumeSays k)
  resume_call_says = record { by = resume_says (side_context task.Resume k) k.local [] nothing_yet }

-- CHECK
module _ (s : Shape) (k : Start) where
  abbrev checking : CallContext
  checking = record { task = task.Check; unfinished = k.unfinished; check = true }

  abbrev Halting : List StepMade → Progress (Unit {0}) → Type 0
  Halting = SafeProgress checking k.local.thread (Seeing (CausedUnder of_safepoints k.requesting k.local.thread 0))

  abbrev CheckTells : List StepMade → Progress Bool → Type 0
  CheckTells ms progress = CheckSays k ms progress × ProgressSees ms progress

  ending_says : (stuck : Bool) (ms : List StepMade) → Still ms → Always CheckTells ms (check_ending stuck checking k.local.thread)
  ending_says true ms h = always_then (Released checking k.local.thread halted_word) CheckTells
      (halt_steps checking k.local.thread) (λ _. done_with true) ms (halt_says checking k.local.thread ms h) (λ ms _ so. (so, tt))
  ending_says false ms h =
      always_then (Released checking k.local.thread (released_word k.local.thread)) CheckTells (release_safepoint checking k.local.thread)
      (λ _. done_with false) ms (release_says checking k.local.thread Settled ms h) (λ ms _ so. (so, tt))

  check_tells : Always CheckTells [] (check_steps s k)
  check_tells =
      always_then Halting CheckTells (safepoint_steps checking k.local.thread k.requesting) (λ progress. and_then progress looks) []
      (safely checking k [] nothing_yet)
      (λ ms progress so. then_says Halting CheckTells progress looks ms so
      (λ _ reached. always_then (λ ms _. Silent checking ms) CheckTells (stands_still_steps checking s) deflates ms
      (spend_quietly ms (spend_so (λ p look. look.tame) (still_spends checking s)) reached.0)
      (λ ms stuck silent. always_then (λ ms _. Silent checking ms) CheckTells
      (deflate_steps s checking Settled) (λ _. check_ending stuck checking k.local.thread) ms
      (spend_quietly ms (deflate_spends checking s Settled) silent) (λ ms _ silent. ending_says stuck ms (still silent))))
      (λ why so. ((flag (is_stopping why) so.0, so.1.0), so.1.1)))
    where
      deflates : Bool → StepTree (Progress Bool)
      deflates stuck = deflate_steps s checking Settled >>= λ _. check_ending stuck checking k.local.thread

      looks : Unit {0} → StepTree (Progress Bool)
      looks _ = stands_still_steps checking s >>= deflates

      flag : {ms : List StepMade} (b : Bool) → Leaves [] k.unfinished (cond b true false) ms → Leaves [] k.unfinished b ms
      flag true h = h
      flag false h = h

  pub check_says : Says (check_steps s k) (CheckSays k)
  check_says = record { by = always_so CheckTells (CheckSays k) (check_steps s k) [] check_tells (λ ms a h. h.0) }

  pub check_sees : Always (ProgressSees {A = Bool}) [] (check_steps s k)
  check_sees = always_so CheckTells (ProgressSees {A = Bool}) (check_steps s k) [] check_tells (λ ms a h. h.1)

-- THE PARTS
pub stack_enter_call_says : (k : Start) (o mark : ℕ) → Says (stack_enter_steps (lone_context (task.StackEnter o mark)) k.local o mark) (StackEnterSays o mark)
stack_enter_call_says k o mark = record {
  by = stack_enter_says (lone_context (task.StackEnter o mark)) k.local o (Overtaken (IsGiven o mark)) (IsGiven o mark)
      (λ m word ms other given. given) (λ expected found ms missed. missed) (read_mark mark) mark [] (refl, refl) nothing_yet;
}

pub stack_exit_call_says : (k : Start) (o : ℕ) → Says (stack_exit_steps (call_context (task.StackExit o) op.Exit o) k.local o) (StackExitSays k o)
stack_exit_call_says k o = record {
  by = always_so (OutTells (call_context (task.StackExit o) op.Exit o) k.local o) (StackExitSays k o)
      (stack_exit_steps (call_context (task.StackExit o) op.Exit o) k.local o) []
      (stack_exit_says (call_context (task.StackExit o) op.Exit o) k.local o [] nothing_yet) (λ ms out h. h.0);
}

-- no check is unfinished
module _ (k : Start) where
  abbrev Requesting : List StepMade → Progress (Unit {0}) → Type 0
  Requesting = Asked (lone_context task.Request) k.local.thread (Seeing (Caused of_requests k.local.thread 0))

  request_tells : Always Requesting [] (request_steps (lone_context task.Request) k.local.thread)
  request_tells =
      request_says (lone_context task.Request) k.local.thread (Seeing (Caused of_requests k.local.thread 0))
      (λ expected found ms missed. (record { among = refl; cause = missed_loaded ms missed }, missed_seen ms missed))
      (λ word ms other there. (record { among = refl; cause = (other, there) }, tt)) [] nothing_yet

request_aside : (k : Start) → Always (RequestSays k) [] (request_steps (lone_context task.Request) k.local.thread)
request_aside k =
    always_so (Requesting k) (RequestSays k) (request_steps (lone_context task.Request) k.local.thread) [] (request_tells k) by_progress
  where
    by_progress : (ms : List StepMade) (progress : Progress (Unit {0})) → Requesting k ms progress → RequestSays k ms progress
    by_progress ms (Done x) so = so
    by_progress ms (Pending why) so = (no_check why so.0, so.1.0)

reached_aside : (k : Start) → Always (ReachedSays k) [] (reached_steps (lone_context task.Reached))
reached_aside k =
    always_so (SafeProgress (lone_context task.Reached) k.local.thread (λ why ms. Caused is_stopping k.local.thread 0 why ms))
    (ReachedSays k) (reached_steps (lone_context task.Reached)) []
    (reached_says (lone_context task.Reached) k.local.thread (λ why ms. Caused is_stopping k.local.thread 0 why ms) true
    (λ word ms moves loaded stands. record { among = refl; cause = (moves, loaded) }) [] (inl refl) nothing_yet) by_progress
  where
    by_progress : (ms : List StepMade) (progress : Progress (Unit {0})) → SafeProgress (lone_context task.Reached) k.local.thread
        (λ why ms. Caused is_stopping k.local.thread 0 why ms) ms progress → ReachedSays k ms progress
    by_progress ms (Done x) so = so
    by_progress ms (Pending why) so = (no_check why so.0, so.1)

pub request_call_says : (k : Start) → Says (request_steps (lone_context task.Request) k.local.thread) (RequestSays k)
request_call_says k = record { by = request_aside k }

pub reached_call_says : (k : Start) → Says (reached_steps (lone_context task.Reached)) (ReachedSays k)
reached_call_says k = record { by = reached_aside k }

pub release_call_says : (k : Start) → Says (release_safepoint (lone_context task.Release) k.local.thread) (ReleaseSays k)
release_call_says k = record { by = release_says (lone_context task.Release) k.local.thread Settled [] nothing_yet }
