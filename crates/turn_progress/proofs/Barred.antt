-- A turn of a thread that is left alone is blocked by the plain monitors, or the halt.
use Rattle.std.proofs.Common.{◌≡◌, ℕ, ◌≤◌, ◌&&◌, ◌||◌, not, cond, Bool, true, false, nat_le, ◌+◌, ◌==◌, List, []}
use Rattle.std.proofs.Common.{◌++◌, length, Some, None, Ok, eq-eqb, refl, sym, ap, ◌∙◌, subst, append_assoc, true≢false}
use Rattle.std.proofs.lemmas.List.{append_cancel_right}
use Rattle.plain_monitor.specs.History.{objects_after}
use Rattle.plain_monitor.specs.Objects.{PlainObject}
use Rattle.core_world.specs.declared.answer.Progress.{Progress}
use Rattle.core_world.specs.declared.answer.Progress.TheVariants.{Done, Pending}
use Rattle.core_world.specs.declared.answer.PendingCause.{PendingCause}
use Rattle.core_world.specs.declared.answer.PendingCause.TheVariants.{Halted, Requested}
use Rattle.core_world.specs.declared.word_id.WordId.{WordId}
use Rattle.core_world.specs.declared.word_id.WordId.TheVariants.{Safepoint, Waiting}
use Rattle.core_world.specs.declared.heap_call.Operation.TheVariants as op
use Rattle.core_world.specs.declared.heap_call.HeapCall.{HeapCall}
use Rattle.core_world.specs.declared.heap_call.HeapCall.TheVariants as task
use Rattle.core_world.specs.Locks.{monitor_of}
use Rattle.core_world.specs.Steps.{is_idle}
use Rattle.core_world.specs.Clauses.Lengths.{log_limit}
use Rattle.core_world.specs.Threads.ThreadView.{ThreadView, Local, Start, StepMade, start_of}
use Rattle.core_world.specs.Threads.References.{has_reference}
use Rattle.core_world.specs.Trees.Calls.{steps_of, side_context, may_operate, most_logged, end}
use Rattle.core_world.specs.Trees.Operations.{goes_on_with, enter_steps, exit_steps, wait_steps, notify_steps, notify_all_steps, hash_steps, dump_steps}
use Rattle.core_world.specs.Trees.Plans.{CallContext}
use Rattle.core_world.specs.Trees.SafepointSteps.{poll_steps, resume_steps, resume_swap_steps, unless, stop_steps, has_requester}
use Rattle.core_world.specs.Trees.StepTree.{StepTree, ◌>>=◌}
use Rattle.core_world.specs.Words.Forms.{waits_on, is_halted}
use Rattle.core_world.specs.Words.Names.{same_name}
use Rattle.core_world.specs.Words.Shape.{Shape, IsInLimits}
use Rattle.core_world.specs.World.{World, logs}
use Rattle.core_world.proofs.bias.LookWhileRevoking.{forgotten}
use Rattle.core_calls.specs.CallsSay.{has_none, is_full}
use Rattle.core_calls.specs.Paths.{IsPath, FollowsTree}
use Rattle.core_calls.proofs.Runs.{knows}
use Rattle.core_law.specs.Logic.{Heap, heap_of}
use Rattle.core_law.specs.Reached.{IsReachable}
use Rattle.core_law.specs.WholeLaw.{LawsHold}
use Rattle.core_law.proofs.Lawful.{sound_rests}
use Rattle.core_steps.proofs.ReachedWorlds.{reached_worlds_sound, reached_worlds_valid}
use Rattle.heap_table.specs.Resting.{start_now}
use Rattle.heap_table.specs.Ruled.{known_after_steps}
use Rattle.heap_table.specs.Seen.{HeapSeen, PassSeen}
use Rattle.thread_calls.specs.Advances.{RanFrom, PendedIn}
use Rattle.thread_interp.specs.declared.moved.Moved.{Moved}
use Rattle.thread_interp.specs.declared.moved.RunState.TheVariants.{Blocked}
use Rattle.thread_interp.specs.Moves.{IsState, IsSetStill, LastCall}
use Rattle.thread_interp.specs.Runners.{RunnerSeen}
use Rattle.solo_progress.specs.Answers.{is_other, is_told, is_pending, hash_due, IsDone, PendsWhere, WaitsWhere, LetsGo, RefusedWhere}
use Rattle.solo_progress.specs.Alone.{AnswersAlone}
use Rattle.solo_progress.specs.LeftAlone.{start_in, MayCall}
use Rattle.solo_progress.specs.Moves.{Moves, GetsThrough}
use Rattle.solo_progress.proofs.Exact.{enters_exactly}
use Rattle.solo_progress.proofs.Laws.{exits, hashes, notifies, notify_alls, waits_first, waits_again, dumps, polls_itself}
use Rattle.solo_progress.proofs.Mids.{moved_comes}
use Rattle.solo_progress.proofs.OneRun.{Alone, alone_either, answers_alone}
use Rattle.solo_progress.proofs.Runs.{gets_through}
use Rattle.turn_progress.specs.Barred.{Bars, WaitBars, NamesOwner, IsBarred}
use Rattle.turn_progress.specs.Turns.{OthersStand, TurnAlone}
use Rattle.turn_progress.proofs.Calls.{second, first_of_two, might_begin, others_on, left_alone, operates}
use Rattle.turn_progress.proofs.Calls.{unasked_fits, no_requester, CallAlone, says_so, ReadyAlone, ready_alone}
use Rattle.turn_progress.proofs.Owners.{EnterNames, enters_named, WaitNames, waits_named, lets_go_named}
use Rattle.turn_progress.proofs.Steps.{same_heap, along_thread, known_by_steps, moved_steps, IsCut, cut_at}

-- THE TREES of the calls that may be pending
module _ (s : Shape) (k : Start) where
  enter_is : (o now : ℕ) → steps_of s (task.Enter o now) k ≡ (enter_steps s k o now >>= end)
  unfolding steps_of
  enter_is o now = refl

  exit_is : (o : ℕ) → steps_of s (task.Exit o) k ≡ (exit_steps k o >>= end)
  unfolding steps_of
  exit_is o = refl

  wait_is : (o now : ℕ) → steps_of s (task.Wait o now) k ≡ (wait_steps s k o now >>= end)
  unfolding steps_of
  wait_is o now = refl

  notify_is : (o now : ℕ) → steps_of s (task.Notify o now) k ≡ (notify_steps s k o now >>= end)
  unfolding steps_of
  notify_is o now = refl

  notify_all_is : (o now : ℕ) → steps_of s (task.NotifyAll o now) k ≡ (notify_all_steps s k o now >>= end)
  unfolding steps_of
  notify_all_is o now = refl

  hash_is : (o now : ℕ) → steps_of s (task.Hash o now) k ≡ (hash_steps s k o now >>= end)
  unfolding steps_of
  hash_is o now = refl

  dump_is : steps_of s task.Dump k ≡ (dump_steps s k >>= end)
  unfolding steps_of
  dump_is = refl

  poll_is : steps_of s task.Poll k ≡ (poll_steps (side_context task.Poll k) >>= end)
  unfolding steps_of
  poll_is = refl

  resume_is : steps_of s task.Resume k ≡ (resume_steps (side_context task.Resume k) k.local >>= end)
  unfolding steps_of
  resume_is = refl

-- A RESUME where nobody asks: it is pending only where the run is halted, and for that.
abbrev ResumesWhere : Bool → Progress (Unit {0}) → Type 0
ResumesWhere halted (Done a) = Unit {0}
ResumesWhere halted (Pending cause) = (cause ≡ Halted) × (halted ≡ true)

resumes_through : (e : CallContext) (k : Local) (f : WordId → ℕ) → has_requester (f Safepoint) ≡ false
    → AnswersAlone f (resume_steps e k) (ResumesWhere (is_halted (f Safepoint)))
resumes_through e k f none =
    answers_alone (ResumesWhere (is_halted (f Safepoint))) f (resume_steps e k) (by_bars (is_halted (f Safepoint)) (has_requester (f Safepoint)) none)
  where
    by_bars : (halted asked : Bool) → asked ≡ false → Alone (λ g progress. ResumesWhere halted progress)
        (λ n. cond (same_name n Safepoint) (f Safepoint) (f n))
        (unless (cond halted (Some Halted) (cond asked (Some (Requested (f Safepoint))) None)) (resume_swap_steps e k (f Safepoint)))
    by_bars true asked none = (refl, refl)
    by_bars false true none = absurd (cc none)
    by_bars false false none =
        alone_either (λ g progress. ResumesWhere false progress) _ (f Safepoint == f Safepoint) _ _ (λ _. tt)
        (λ miss. let same = eq-eqb (f Safepoint) (f Safepoint) refl in absurd (cc (miss, same)))

resumes_alone : (heap : Heap) (w : World) (t : ℕ) → MayCall heap w t task.Resume → has_requester (w.words Safepoint) ≡ false
    → GetsThrough heap w t task.Resume (resume_steps (side_context task.Resume (start_in w t)) (start_in w t).local)
    (ResumesWhere (is_halted (w.words Safepoint)))
resumes_alone heap w t ready none =
    gets_through heap ready.limits w t task.Resume ready.reached ready.within ready.idle ready.may
    (resume_steps (side_context task.Resume (start_in w t)) (start_in w t).local) (ResumesWhere (is_halted (w.words Safepoint)))
    (resume_is w.shape (start_in w t))
    (resumes_through (side_context task.Resume (start_in w t)) (start_in w t).local w.words none)

-- ONE PASS AFTER ANOTHER
pub record IsAfter (p q : PassSeen) : Type 0 where
  pub steps : List StepMade
  pub added : q.known.steps ≡ steps ++ p.known.steps
  pub thread : q.known.thread ≡ p.known.thread

pub ran_after : {A : Type 0} (h : HeapSeen) (d : StepTree A) (p q : PassSeen) (a : A) → RanFrom h d p q a → IsAfter p q
ran_after h d p q a ran =
    let f = knows ran in
    record {
      steps = f.steps;
      added = f.added;
      thread = ap (λ (k : ThreadView). k.thread) f.known ∙ along_thread h.heap.shape h.heap.start f.steps p.known;
    }

pub stop_after : (h : HeapSeen) (b : Bool) (p q : PassSeen) → IsSetStill b h p q → IsAfter p q
stop_after h true p q ran = ran_after h (stop_steps (side_context task.Stop (start_now h p)) (start_now h p).local) p q tt ran
stop_after h false p q same = record { steps = []; added = ap (λ (x : PassSeen). x.known.steps) same; thread = ap (λ (x : PassSeen). x.known.thread) same }

-- THE TURN, which was blocked
module _ (h : HeapSeen) (quantum t : ℕ) (w v : World) (r q : RunnerSeen) (m : Moved)
    (why : PendingCause) (limits : IsInLimits h.heap.shape) (c : IsReachable h.heap w)
    (o : OthersStand w t) (turn : TurnAlone h quantum t w r v q m) (blocked : m.state ≡ Blocked why) where
  last : LastCall (PendedIn h why) h r.pass q.pass
  last = (subst (IsState h quantum m.instructions r.pass q) blocked turn.moved.state).1

  abbrev before : PassSeen
  before = last.called.before

  abbrev after : PassSeen
  after = last.after

  stop : IsAfter after q.pass
  stop = stop_after h after.known.running after q.pass last.still

  comes_after : IsReachable h.heap v
  comes_after = moved_comes h.heap w t turn.steps v o.within c turn.moves

  numbered : q.pass.known.thread ≡ t
  numbered =
      ap (λ (k : ThreadView). k.thread) (sym turn.knows ∙ known_by_steps h.heap v t comes_after)
      ∙ along_thread h.heap.shape h.heap.start (v.known t).steps _

  -- its last call, in the world in which that began
  record Begun {A : Type 0} (job : HeapCall) (d : Shape → Start → StepTree A) (a : A) : Type 0 where
    same : last.called.call.task ≡ job
    world : World
    moves : Moves w t last.called.earlier world
    knew : world.known t ≡ before.known
    alone : CallAlone h.heap world t job (d world.shape (start_in world t)) a

  module _ {A : Type 0} (job : HeapCall) (d : Shape → Start → StepTree A) (a : A) (is : (s : Shape) (k : Start) → steps_of s job k ≡ (d s k >>= end))
      (same : last.called.call.task ≡ job)
      (ran : RanFrom h (d h.heap.shape (start_now h before)) before after a) where
    f : FollowsTree h.heap.shape h.heap.start (d h.heap.shape (start_now h before)) before.known after.known a
    f = knows ran

    thread_is : before.known.thread ≡ t
    thread_is =
        let b = ran_after h (d h.heap.shape (start_now h before)) before after a ran in
        sym b.thread ∙ sym stop.thread ∙ numbered

    some : 1 ≤ length f.steps
    some =
        let s = last.called.call.stepped in
        subst (λ (l : List StepMade). 1 ≤ length l) (append_cancel_right s.steps f.steps before.known.steps (sym s.added ∙ f.added)) s.some

    -- the turn's steps are those of the stop, of the call, and those before it
    abbrev earlier : List StepMade
    earlier = last.called.earlier

    abbrev own : List StepMade
    own = r.pass.known.steps

    in_order : turn.steps ≡ stop.steps ++ (f.steps ++ earlier)
    in_order =
        append_cancel_right turn.steps (stop.steps ++ (f.steps ++ earlier)) own
        (ap (λ (k : ThreadView). turn.steps ++ k.steps) (sym turn.knew)
        ∙ sym (moved_steps w t turn.steps v turn.moves)
        ∙ ap (λ (k : ThreadView). k.steps) turn.knows
        ∙ stop.added
        ∙ ap (λ (l : List StepMade). stop.steps ++ l) (f.added ∙ ap (λ (l : List StepMade). f.steps ++ l) last.called.begun
        ∙ sym (append_assoc f.steps earlier own))
        ∙ sym (append_assoc stop.steps (f.steps ++ earlier) own))

    whole : IsCut w t stop.steps (f.steps ++ earlier) v
    whole = cut_at w t stop.steps (f.steps ++ earlier) turn.steps v in_order turn.moves

    call_cut : IsCut w t f.steps earlier whole.mid
    call_cut = cut_at w t f.steps earlier (f.steps ++ earlier) whole.mid refl whole.first

    abbrev x : World
    x = call_cut.mid

    comes_x : IsReachable h.heap x
    comes_x = moved_comes h.heap w t earlier x o.within c call_cut.first

    is_x : heap_of x ≡ h.heap
    is_x = same_heap h.heap x comes_x

    knew_x : x.known t ≡ before.known
    knew_x =
        let same : (x.known t).steps ≡ before.known.steps =
        moved_steps w t earlier x call_cut.first ∙ ap (λ (k : ThreadView). earlier ++ k.steps) turn.knew ∙ sym last.called.begun in
        known_by_steps h.heap x t comes_x
        ∙ (λ i. known_after_steps h.heap (sym thread_is i) (same i))
        ∙ sym last.called.rests.is_of.real.is

    path_x : IsPath (d x.shape (start_in x t)) [] f.steps a
    path_x =
        subst (λ (z : Shape × Start). IsPath (d z.0 z.1) [] f.steps a)
        (λ i. ((sym is_x i).shape, start_of (sym is_x i).start (sym knew_x i))) f.path

    idle_x : is_idle x.shape (x.known t) ≡ true
    idle_x = (λ i. is_idle (is_x i).shape (knew_x i)) ∙ last.called.rests.over

    others_x : OthersStand x t
    others_x = others_on w t earlier x call_cut.first o

    begun : Begun job d a
    begun =
        record {
          same = same;
          world = x;
          moves = call_cut.first;
          knew = knew_x;
          alone = record {
            call = record {
              limits = limits;
              reached = comes_x;
              within = others_x.within;
              idle = idle_x;
              may =
                  might_begin x t job (d x.shape (start_in x t)) f.steps whole.mid a idle_x (is x.shape (start_in x t)) path_x
                  call_cut.rest some;
            };
            others = others_x;
            rest = sound_rests x t (reached_worlds_sound h.heap x limits comes_x) others_x.within idle_x;
            made = f.steps;
            last = whole.mid;
            moved = call_cut.rest;
            path = path_x;
          };
        }

  -- where its thread runs or asks it is ready; and what its law says, it answered
  module _ {A : Type 0} {job : HeapCall} {d : Shape → Start → StepTree A} {a : A} (b : Begun job d a) where
    ready : ((b.world.known t).running || (b.world.known t).requesting) ≡ true → ReadyAlone h.heap b.world t job
    ready goes = ready_alone h.heap b.world t job b.alone.call (left_alone b.world t b.alone.others b.alone.rest goes)

    says : (P : A → Type 0) → GetsThrough h.heap b.world t job (d b.world.shape (start_in b.world t)) P → P a
    says P g = says_so h.heap b.world t job (d b.world.shape (start_in b.world t)) a P b.alone g

    told : (objects : List PlainObject) → objects_after b.world.shape.objects (logs b.world) ≡ Some objects → Bars b.world objects t job why
        → IsBarred h w t why r q
    told objects history bars =
        record {
          last = last;
          world = b.world;
          moves = b.moves;
          knew = b.knew;
          objects = objects;
          history = history;
          bars = subst (λ (z : HeapCall). Bars b.world objects t z why) (sym b.same) bars;
        }

  -- THE CASES. An operation on o begins where its thread runs or asks.
  goes_on : (x : World) (o : ℕ) (going : Bool) → (has_reference x.shape (x.known t) o && may_operate (x.known t) going) ≡ true
      → ((x.known t).running || (x.known t).requesting) ≡ true
  goes_on x o going may = operates (x.known t) going (second (has_reference x.shape (x.known t) o) (may_operate (x.known t) going) may)

  enter_barred : (o now : ℕ) → Begun (task.Enter o now) (λ s k. enter_steps s k o now) (Ok (Pending why)) → IsBarred h w t why r q
  enter_barred o now b =
      let y = ready b (goes_on b.world o (goes_on_with op.Enter o (b.world.known t).unfinished) b.alone.call.may) in
      told b y.objects y.ready.history (
        (says b (RefusedWhere (is_full (start_in b.world t) o) (PendsWhere (is_other (monitor_of y.objects o).owner t)))
            (enters_exactly h.heap b.world y.objects t o now y.ready)).1,
        says b (EnterNames (monitor_of y.objects o).owner) (enters_named h.heap b.world y.objects t o now y.ready),
      )

  exit_barred : (o : ℕ) → Begun (task.Exit o) (λ s k. exit_steps k o) (Ok (Pending why)) → IsBarred h w t why r q
  exit_barred o b =
      let y = ready b (goes_on b.world o (goes_on_with op.Exit o (b.world.known t).unfinished) b.alone.call.may) in
      absurd (says b (RefusedWhere (has_none (start_in b.world t) o) IsDone) (exits h.heap b.world y.objects t o y.ready)).1

  notify_barred : (o now : ℕ) → Begun (task.Notify o now) (λ s k. notify_steps s k o now) (Ok (Pending why)) → IsBarred h w t why r q
  notify_barred o now b =
      let y = ready b (goes_on b.world o (goes_on_with op.Notify o (b.world.known t).unfinished) b.alone.call.may) in
      absurd (says b (RefusedWhere (has_none (start_in b.world t) o) IsDone) (notifies h.heap b.world y.objects t o now y.ready)).1

  notify_all_barred : (o now : ℕ) → Begun (task.NotifyAll o now) (λ s k. notify_all_steps s k o now) (Ok (Pending why)) → IsBarred h w t why r q
  notify_all_barred o now b =
      let y = ready b (goes_on b.world o (goes_on_with op.NotifyAll o (b.world.known t).unfinished) b.alone.call.may) in
      absurd (says b (RefusedWhere (has_none (start_in b.world t) o) IsDone) (notify_alls h.heap b.world y.objects t o now y.ready)).1

  hash_barred : (o now : ℕ) → Begun (task.Hash o now) (λ s k. hash_steps s k o now) (Pending why) → IsBarred h w t why r q
  hash_barred o now b =
      let y = ready b (goes_on b.world o (goes_on_with op.Hash o (b.world.known t).unfinished) b.alone.call.may) in
      let none = says b (λ turn. turn ≡ Done (hash_due y.objects o (start_in b.world t))) (hashes h.heap b.world y.objects t o now y.ready) in
      absurd (cc none)

  dump_barred : Begun task.Dump (λ s k. dump_steps s k) (Ok (Pending why)) → IsBarred h w t why r q
  dump_barred b =
      let y = ready b (operates (b.world.known t) (goes_on_with op.Dump 0 (b.world.known t).unfinished) b.alone.call.may) in
      let none = (says b (RefusedWhere ((start_in b.world t).shots == 4) (λ turn. turn ≡ Done ((start_in b.world t).shots + 1)))
      (dumps h.heap b.world y.objects t y.ready)).1 in
      absurd (cc none)

  -- a wait that begins, or goes on
  wait_barred : (o now : ℕ) → Begun (task.Wait o now) (λ s k. wait_steps s k o now) (Ok (Pending why)) → IsBarred h w t why r q
  wait_barred o now b = told b y.objects y.ready.history (by_word (waits_on (b.world.known t).wait o) refl)
    where
      k : ThreadView
      k = b.world.known t

      y : ReadyAlone h.heap b.world t (task.Wait o now)
      y =
          ready b (operates k (goes_on_with op.Wait o k.unfinished)
          (second (has_reference b.world.shape k o) (may_operate k (goes_on_with op.Wait o k.unfinished))
          (first_of_two (has_reference b.world.shape k o && may_operate k (goes_on_with op.Wait o k.unfinished))
          (nat_le (length k.log + most_logged k (task.Wait o now)) log_limit) b.alone.call.may)))

      told_so : Bool
      told_so = is_told (b.world.words (Waiting t))

      owned : Bool
      owned = is_other (monitor_of y.objects o).owner t

      by_word : (waits : Bool) → waits_on (b.world.known t).wait o ≡ waits
          → WaitBars (waits_on (b.world.known t).wait o) told_so owned why × NamesOwner (monitor_of y.objects o).owner why
      by_word false is =
          let lets_go = (says b (RefusedWhere (has_none (start_in b.world t) o) LetsGo) (waits_first h.heap b.world y.objects t o now y.ready is)).1 in
          (subst (λ z. WaitBars z told_so owned why) (sym is) lets_go, lets_go_named (monitor_of y.objects o).owner why lets_go)
      by_word true is = (
        subst (λ z. WaitBars z told_so owned why) (sym is)
            (says b (RefusedWhere (has_none (start_in b.world t) o) (WaitsWhere told_so owned))
            (waits_again h.heap b.world y.objects t o now y.ready is)).1,
        (says b (RefusedWhere (has_none (start_in b.world t) o) (WaitNames (monitor_of y.objects o).owner))
            (waits_named h.heap b.world y.objects t o now y.ready is)).1,
      )

  -- a poll finds no requester, since nobody asks
  poll_barred : Begun task.Poll (λ s k. poll_steps (side_context task.Poll k)) (Pending why) → IsBarred h w t why r q
  poll_barred b =
      let runs : (b.world.known t).running ≡ true = b.alone.call.may in
      let free = unless_runs (b.world.known t).requesting runs b.alone.rest.stopped in
      let valid = reached_worlds_valid h.heap b.world limits b.alone.call.reached in
      let none = no_requester b.world valid.objects t b.alone.others free
      (unasked_fits b.world valid.objects t b.alone.others free (forgotten LawsHold b.world valid.objects valid.is)) in
      let asked = says b (λ turn. is_pending turn ≡ has_requester (b.world.words Safepoint)) (polls_itself h.heap b.world t b.alone.call) in
      absurd (true≢false (asked ∙ none))
    where
      unless_runs : (asks : Bool) → (b.world.known t).running ≡ true → (asks ≡ true → (b.world.known t).running ≡ false) → asks ≡ false
      unless_runs true runs stopped = absurd (true≢false (sym runs ∙ stopped refl))
      unless_runs false runs stopped = refl

  -- nor does a resume, which then is pending for the halt alone
  resume_barred : Begun task.Resume (λ s k. resume_steps (side_context task.Resume k) k.local) (Pending why) → IsBarred h w t why r q
  resume_barred b =
      let free = not_false (b.world.known t).requesting
      (second (not (b.world.known t).running) (not (b.world.known t).requesting) b.alone.call.may) in
      let valid = reached_worlds_valid h.heap b.world limits b.alone.call.reached in
      let fits = unasked_fits b.world valid.objects t b.alone.others free (forgotten LawsHold b.world valid.objects valid.is) in
      let none = no_requester b.world valid.objects t b.alone.others free fits in
      told b valid.objects fits.taken
      (says b (ResumesWhere (is_halted (b.world.words Safepoint))) (resumes_alone h.heap b.world t b.alone.call none))
    where
      not_false : (asks : Bool) → not asks ≡ true → asks ≡ false
      not_false true h = absurd (cc h)
      not_false false h = refl

  barred : (job : HeapCall) → last.called.call.task ≡ job → PendedIn h why before after job → IsBarred h w t why r q
  barred (task.Enter o now) same ran =
      enter_barred o now (begun (task.Enter o now) (λ s k. enter_steps s k o now) (Ok (Pending why)) (λ s k. enter_is s k o now) same ran)
  barred (task.Exit o) same ran = exit_barred o (begun (task.Exit o) (λ s k. exit_steps k o) (Ok (Pending why)) (λ s k. exit_is s k o) same ran)
  barred (task.Wait o now) same ran =
      wait_barred o now (begun (task.Wait o now) (λ s k. wait_steps s k o now) (Ok (Pending why)) (λ s k. wait_is s k o now) same ran)
  barred (task.Notify o now) same ran =
      notify_barred o now (begun (task.Notify o now) (λ s k. notify_steps s k o now) (Ok (Pending why)) (λ s k. notify_is s k o now) same ran)
  barred (task.NotifyAll o now) same ran =
      notify_all_barred o now
      (begun (task.NotifyAll o now) (λ s k. notify_all_steps s k o now) (Ok (Pending why)) (λ s k. notify_all_is s k o now) same ran)
  barred (task.Hash o now) same ran =
      hash_barred o now (begun (task.Hash o now) (λ s k. hash_steps s k o now) (Pending why) (λ s k. hash_is s k o now) same ran)
  barred task.Dump same ran = dump_barred (begun task.Dump (λ s k. dump_steps s k) (Ok (Pending why)) dump_is same ran)
  barred task.Poll same ran = poll_barred (begun task.Poll (λ s k. poll_steps (side_context task.Poll k)) (Pending why) poll_is same ran)
  barred task.Resume same ran =
      resume_barred (begun task.Resume (λ s k. resume_steps (side_context task.Resume k) k.local) (Pending why) resume_is same ran)
  barred job same ran = absurd ran

  pub blocked_barred : IsBarred h w t why r q
  blocked_barred = barred last.called.call.task refl last.called.call.is
