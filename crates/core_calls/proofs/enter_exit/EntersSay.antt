-- What the calls of enter and exit say.
use Rattle.std.proofs.Common.{◌≡◌, ◌⊎◌, ℕ, ◌==◌, ◌&&◌, not, cond, Bool, true, false, List, [], ◌∷◌, Option, Some, refl, ap, ◌∙◌, inl, inr}
use Rattle.std.proofs.Common.{Result}
use Rattle.mark_word.specs.declared.mark.MarkForm.{MarkForm}
use Rattle.mark_word.specs.declared.mark.MarkForm.TheVariants.{Inflating, Neutral, Locked, Inflated}
use Rattle.mark_word.specs.Mark.{read_mark}
use Rattle.plain_monitor.specs.Limits.{most_holds}
use Rattle.plain_monitor.specs.declared.entry.Entry.TheVariants as entry
use Rattle.plain_monitor.specs.declared.entry.Path.{Path}
use Rattle.core_world.specs.declared.word_id.WordId.TheVariants.{Mark}
use Rattle.core_world.specs.declared.heap_call.Operation.TheVariants as op
use Rattle.core_world.specs.declared.heap_call.HeapCall.TheVariants as task
use Rattle.core_world.specs.declared.answer.BiasTry.{BiasTry}
use Rattle.core_world.specs.declared.answer.BiasTry.TheVariants.{Took, Unbiased, Valid, Raced}
use Rattle.core_world.specs.declared.answer.StackOut.{StackOut}
use Rattle.core_world.specs.declared.answer.StackOut.TheVariants.{Left, Monitor, Not}
use Rattle.core_world.specs.declared.answer.Progress.{Progress}
use Rattle.core_world.specs.declared.answer.PendingCause.TheVariants as why
use Rattle.core_world.specs.Threads.ThreadView.{Start, StepMade}
use Rattle.core_world.specs.Locks.{hold_count}
use Rattle.core_world.specs.Trees.Plans.{CallContext, done_with, free_place}
use Rattle.core_world.specs.Words.Shape.{Shape}
use Rattle.core_world.specs.Threads.Stages.{Revocation}
use Rattle.core_world.specs.Trees.StepTree.{StepTree, ◌>>=◌}
use Rattle.core_world.specs.Trees.LockSteps.{stack_enter_steps, stack_exit_steps}
use Rattle.core_world.specs.Trees.MonitorSteps.{inflate_steps, monitor_enter_steps, monitor_exit_steps}
use Rattle.core_world.specs.Trees.BiasSteps.{bias_enter_steps, bias_exit_steps, bias_after_steps}
use Rattle.core_world.specs.Trees.Operations.{goes_on_with, and_then, answer, revocation_steps, enter_monitor_steps, enter_at, enter_unbiased}
use Rattle.core_world.specs.Trees.Operations.{enter_revoked, enter_tried, enter_going, full_steps, enter_steps, exit_at, exit_going, exit_steps}
use Rattle.core_world.specs.declared.answer.PendingCause.{PendingCause}
use Rattle.core_world.specs.declared.answer.TooDeep.{TooDeep}
use Rattle.core_world.specs.declared.word_id.WordId.{WordId}
use Rattle.core_world.specs.Threads.ThreadView.{left_by, last_seen}
use Rattle.core_world.specs.declared.answer.IllegalMonitorState.{IllegalMonitorState}
use Rattle.core_calls.specs.Paths.{Always, Says}
use Rattle.core_calls.specs.Causes.{Loaded, Put, Cause, of_exchanges}
use Rattle.core_calls.specs.CallsSay.{ProgressSays, unfinished_on, PutInMark, EnterCause, EnterSays, ExitSays}
use Rattle.core_calls.specs.CallsSay.{ResultSays, IsPendingBy, is_full}
use Rattle.core_calls.specs.Causes.{Caused}
use Rattle.core_calls.specs.CallsSay.{has_none}
use Rattle.core_calls.proofs.Paths.{always_then, either_way, Silent, Still, still}
use Rattle.core_calls.proofs.enter_exit.LocksSay.{OutTells, EnterProgress, stack_enter_says, Exited, stack_exit_says}
use Rattle.core_calls.proofs.monitor.MonitorsSay.{InflateProgress, inflate_says, monitor_enter_says, monitor_exit_says}
use Rattle.core_calls.proofs.bias.BiasSay.{TrySays, bias_enter_says, bias_after_says, BiasExitSays, bias_exit_says}
use Rattle.core_calls.proofs.Reasons.{enter_reasons}
use Rattle.core_calls.proofs.OperationsSay.{then_says, working, PartProgress, revocation_says}
use Rattle.core_calls.proofs.Paths.{always_so, Saw, LastSeen, missed_so}
use Rattle.core_calls.proofs.Reasons.{Reasons, Seeing, seeing, ResultSees, result_said, result_seen, pending_said, pending_seen}

-- no step is made yet
pub nothing_yet : Still []
nothing_yet = record { are = refl }

abbrev SawPut : ℕ → WordId → ℕ → List StepMade → Type 0
SawPut o at word ms = PutInMark o at word ms × LastSeen at word ms

module _ (s : Shape) (k : Start) (o now : ℕ) where
  -- the context of an enter, what its parts say, and what the revocation in it says
  abbrev entering : CallContext
  entering = working (task.Enter o now) (unfinished_on op.Enter o)

  abbrev revoking : Revocation
  revoking = record { object = o; rebias = true; now = now }

  -- why it is pending, with what was seen last
  abbrev SeenCause : PendingCause → List StepMade → Type 0
  SeenCause = Seeing (EnterCause k.requesting k.local.thread o)

  reasons : Reasons k.requesting k.local.thread o SeenCause
  reasons = seeing (enter_reasons k.requesting k.local.thread o)

  abbrev Entering : List StepMade → Progress Path → Type 0
  Entering = EnterProgress entering k.local o SeenCause

  abbrev Inflation : List StepMade → Progress ℕ → Type 0
  Inflation = InflateProgress entering k.requesting k.local.thread o SeenCause reasons

  abbrev RevocationProgress : List StepMade → Progress Bool → Type 0
  RevocationProgress = PartProgress s k (task.Enter o now) (unfinished_on op.Enter o) o
      SeenCause reasons Bool

  owned : (word : ℕ) (ms : List StepMade) → Cause k.local.thread o (why.Owned word) ms → SeenCause (why.Owned word) ms
  owned word ms cause = (inl (record { among = refl; cause = cause }, tt), tt)

  enter_monitor_says : (ms : List StepMade) → Still ms → Always Entering ms (enter_monitor_steps s entering k o)
  enter_monitor_says ms h =
      always_then Inflation Entering (inflate_steps s entering k.kept o) (λ progress. and_then progress (λ m. monitor_enter_steps entering k.local o m)) ms
      (inflate_says entering k.requesting k.local.thread o SeenCause reasons s k.kept ms h)
      (λ ms progress so. then_says Inflation Entering progress (λ m. monitor_enter_steps entering k.local o m) ms so
      (λ m silent. monitor_enter_says entering k.local o SeenCause owned m ms silent)
      (λ why so. (so.0, so.1)))

  -- by the lock record, whichever way the enter has the mark
  by_record_says : (mark : ℕ) (ms : List StepMade) → Saw (Mark o) mark ms ⊎ (Put (Mark o) mark ms × LastSeen (Mark o) mark ms)
      → Still ms → Always Entering ms (stack_enter_steps entering k.local o mark)
  by_record_says mark ms (inl saw) h =
      stack_enter_says entering k.local o SeenCause Saw (λ m word ms other saw.
      (inr saw.0, ap (λ b. cond b (Some (left_by m)) (last_seen (Mark o) ms)) other ∙ saw.1))
      reasons.races (read_mark mark) mark ms saw h
  by_record_says mark ms (inr put) h =
      stack_enter_says entering k.local o SeenCause (SawPut o)
      (λ m word ms other put. ((put.0.0, inr put.0.1), ap (λ b. cond b (Some (left_by m)) (last_seen (Mark o) ms)) other ∙ put.1))
      (λ expected found ms missed. (inr (missed_so ms (λ at word before x. x.0) missed), missed_so ms (λ at word before x. x.1) missed))
      (read_mark mark) mark ms ((refl, put.0), put.1) h

  enter_at_says : (form : Option MarkForm) (mark : ℕ) (ms : List StepMade) → read_mark mark ≡ form
      → (read_mark mark ≡ Some Inflating → Loaded (Mark o) 0 ms) → Saw (Mark o) mark ms ⊎ (Put (Mark o) mark ms × LastSeen (Mark o) mark ms)
      → Silent entering ms → Always Entering ms (enter_at form s entering k o mark)
  enter_at_says (Some Inflating) mark ms is inflating had h = (h, (inl (record { among = refl; cause = inflating is }, tt), tt))
  enter_at_says (Some (Neutral hash age)) mark ms is inflating had h = by_record_says mark ms had (still h)
  enter_at_says (Some (Locked thread place)) mark ms is inflating had h =
      either_way Entering ms (thread == k.local.thread) _ _
      (λ own. by_record_says mark ms had (still h))
      (λ other. enter_monitor_says ms (still h))
  enter_at_says (Some (Inflated monitor)) mark ms is inflating had h =
      monitor_enter_says entering k.local o SeenCause owned monitor ms h
  enter_at_says _ mark ms is inflating had h = tt

  unbiased_says : (tried : BiasTry) (ms : List StepMade) → TrySays entering k.local o ms tried → Always Entering ms (enter_unbiased tried s entering k o)
  unbiased_says (Took path) ms h = h
  unbiased_says (Unbiased mark) ms h = enter_at_says (read_mark mark) mark ms refl h.1 h.2 h.0
  unbiased_says (Valid mark) ms h = tt
  unbiased_says (Raced expected found) ms h = (h.0, reasons.races expected found ms h.1)

  revoked_says : (requesting : Bool) → k.requesting ≡ requesting → (ms : List StepMade)
      → Still ms → Always Entering ms (enter_revoked s requesting entering k revoking)
  revoked_says requesting same ms h =
      always_then RevocationProgress Entering (revocation_steps s k.local.thread requesting entering revoking) (λ progress. and_then progress goes_on) ms
      (revocation_says s k (task.Enter o now) (unfinished_on op.Enter o) o SeenCause reasons requesting same revoking ms h)
      (λ ms progress so. then_says RevocationProgress Entering progress goes_on ms so
      (λ took silent. always_then (TrySays entering k.local o) Entering
      (bias_after_steps entering k.local o took) (λ tried. enter_unbiased tried s entering k o) ms
      (bias_after_says entering k.local o took ms silent) (λ ms tried so. unbiased_says tried ms so))
      (λ why so. (so.0, so.1)))
    where
      goes_on : Bool → StepTree (Progress Path)
      goes_on took = bias_after_steps entering k.local o took >>= λ tried. enter_unbiased tried s entering k o

  tried_says : k.requesting ≡ false → (tried : BiasTry) (ms : List StepMade)
      → TrySays entering k.local o ms tried → Always Entering ms (enter_tried tried s entering k revoking)
  tried_says none (Valid mark) ms h = revoked_says false none ms (still h)
  tried_says none (Took path) ms h = unbiased_says (Took path) ms h
  tried_says none (Unbiased mark) ms h = unbiased_says (Unbiased mark) ms h
  tried_says none (Raced expected found) ms h = unbiased_says (Raced expected found) ms h

  going_says : (ms : List StepMade) → Still ms → Always Entering ms (enter_going s entering k revoking)
  going_says ms h =
      either_way Entering ms k.requesting _ _ (λ stands. revoked_says true stands ms h)
      (λ none. always_then (TrySays entering k.local o) Entering (bias_enter_steps s entering k.local o) (λ tried. enter_tried tried s entering k revoking) ms
      (bias_enter_says entering k.local o s ms h) (λ ms tried so. tried_says none tried ms so))

  -- the answer, with its cause and with what was seen last
  abbrev pub EnterTells : List StepMade → Result (Progress Path) TooDeep → Type 0
  EnterTells = ResultSays (is_full k o) Entering

  pub enter_tells : Always EnterTells [] (enter_steps s k o now)
  enter_tells = by_place (free_place k.local.holds == most_holds) refl
    where
      by_place : (full : Bool) → (free_place k.local.holds == most_holds) ≡ full
          → Always EnterTells [] (cond full (full_steps k o) (enter_going s entering k revoking >>= answer))
      by_place true full =
          either_way EnterTells [] (goes_on_with op.Enter o k.unfinished) _ _ (λ _. tt)
          (λ new. (ap (λ b. b && not (goes_on_with op.Enter o k.unfinished)) full ∙ ap not new, refl))
      by_place false room =
          always_then Entering EnterTells (enter_going s entering k revoking) answer [] (going_says [] nothing_yet)
          (λ ms progress so. (ap (λ b. b && not (goes_on_with op.Enter o k.unfinished)) room, so))

  pub enter_says : Says (enter_steps s k o now) (EnterSays k o)
  enter_says = record {
    by = always_so EnterTells (EnterSays k o) (enter_steps s k o now) [] enter_tells (result_said (is_full k o) Entering
        (IsPendingBy (λ path. entry.Enter o path ∷ []) (EnterCause k.requesting k.local.thread o) (unfinished_on op.Enter o) false)
        (pending_said (λ path. entry.Enter o path ∷ []) (EnterCause k.requesting k.local.thread o) (unfinished_on op.Enter o) false));
  }

  -- what a missed exchange expects, the call saw last
  pub enter_sees : Always (ResultSees {A = Path} {E = TooDeep}) [] (enter_steps s k o now)
  enter_sees =
      always_so EnterTells (ResultSees {A = Path} {E = TooDeep}) (enter_steps s k o now) [] enter_tells (result_seen (is_full k o) Entering
      (pending_seen (λ path. entry.Enter o path ∷ []) (EnterCause k.requesting k.local.thread o) (unfinished_on op.Enter o) false))

module _ (k : Start) (o : ℕ) where
  abbrev exiting : CallContext
  exiting = working (task.Exit o) (unfinished_on op.Exit o)

  abbrev Exiting : List StepMade → Progress (Unit {0}) → Type 0
  Exiting = IsPendingBy (λ _. entry.Exit o ∷ []) (Seeing (Caused of_exchanges k.local.thread o)) (unfinished_on op.Exit o) false

  exit_at_says : (out : StackOut) (ms : List StepMade) → OutTells exiting k.local o ms out → Always Exiting ms (exit_at out exiting k.local o)
  exit_at_says Left ms h = h.0
  exit_at_says (Not why) ms h = (h.0.0, (h.0.1, h.1))
  exit_at_says (Monitor number) ms h =
      always_then (Exited exiting k.local o) Exiting (monitor_exit_steps exiting k.local o number)
      (λ _. done_with tt) ms (monitor_exit_says exiting k.local o number ms (still h.0.0)) (λ ms _ so. so)

  exit_going_says : (ms : List StepMade) → Still ms → Always Exiting ms (exit_going exiting k.local o)
  exit_going_says ms h =
      always_then (BiasExitSays exiting k.local o) Exiting (bias_exit_steps exiting k.local o) goes_on ms (bias_exit_says exiting k.local o ms h) by_bias
    where
      goes_on : Bool → StepTree (Progress (Unit {0}))
      goes_on biased = cond biased (done_with tt) (stack_exit_steps exiting k.local o >>= λ out. exit_at out exiting k.local o)

      by_bias : (ms : List StepMade) (biased : Bool) → BiasExitSays exiting k.local o ms biased → Always Exiting ms (goes_on biased)
      by_bias ms true so = so
      by_bias ms false so =
          always_then (OutTells exiting k.local o) Exiting (stack_exit_steps exiting k.local o)
          (λ out. exit_at out exiting k.local o) ms (stack_exit_says exiting k.local o ms so) (λ ms out so. exit_at_says out ms so)

  exit_tells : Always (ResultSays (has_none k o) Exiting) [] (exit_steps k o)
  exit_tells =
      either_way (ResultSays (has_none k o) Exiting) [] (hold_count o k.local.holds == 0) _ _
      (λ none. (none, refl))
      (λ some. always_then Exiting (ResultSays (has_none k o) Exiting) (exit_going exiting k.local o) answer [] (exit_going_says [] nothing_yet)
      (λ ms progress so. (some, so)))

  pub exit_says : Says (exit_steps k o) (ExitSays k o)
  exit_says = record {
    by = always_so (ResultSays (has_none k o) Exiting) (ExitSays k o) (exit_steps k o) [] exit_tells (result_said (has_none k o) Exiting
        (ProgressSays (λ _. entry.Exit o ∷ []) of_exchanges k.local.thread o (unfinished_on op.Exit o) false)
        (pending_said (λ _. entry.Exit o ∷ []) (Caused of_exchanges k.local.thread o) (unfinished_on op.Exit o) false));
  }

  pub exit_sees : Always (ResultSees {A = Unit {0}} {E = IllegalMonitorState}) [] (exit_steps k o)
  exit_sees = always_so (ResultSays (has_none k o) Exiting) (ResultSees {A = Unit {0}} {E = IllegalMonitorState}) (exit_steps k o) [] exit_tells
      (result_seen (has_none k o) Exiting
      (pending_seen (λ _. entry.Exit o ∷ []) (Caused of_exchanges k.local.thread o) (unfinished_on op.Exit o) false))
