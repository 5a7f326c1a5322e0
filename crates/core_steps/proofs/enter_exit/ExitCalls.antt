-- Exit begins well.
use Rattle.std.proofs.Common.{◌≡◌, ℕ, ◌==◌, Bool, true, false, cond, Some, refl, sym, ◌∙◌, subst, inl, inr, eqb-true, eq-eqb, max}
use Rattle.core_world.specs.declared.act.Act.TheVariants.{FetchMax}
use Rattle.core_world.specs.declared.answer.Progress.{Progress}
use Rattle.core_world.specs.declared.word_id.WordId.TheVariants as id
use Rattle.core_world.specs.declared.stage.Stage.TheVariants.{Settled}
use Rattle.core_world.specs.declared.heap_call.Operation.TheVariants as op
use Rattle.core_world.specs.declared.heap_call.HeapCall.TheVariants.{Exit}
use Rattle.core_world.specs.Threads.AtRest.{AtRest, MayAsk}
use Rattle.core_world.specs.Trees.BiasSteps.{bias_exit_steps}
use Rattle.core_world.specs.Trees.Calls.{steps_of, may_begin, may_operate}
use Rattle.core_world.specs.Threads.References.{has_reference}
use Rattle.core_world.specs.Words.Forms.{is_biased}
use Rattle.core_world.specs.Threads.ThreadView.{ThreadView, local_of, start_of, last_seen}
use Rattle.core_world.specs.Locks.{hold_count}
use Rattle.core_world.specs.Trees.LockSteps.{leave_steps, stack_exit_steps, raise_stamp_plan}
use Rattle.core_world.specs.Trees.MonitorSteps.{monitor_exit_steps}
use Rattle.core_world.specs.Trees.Operations.{answer, exit_at, exit_going, goes_on_with}
use Rattle.core_world.specs.Trees.Plans.{CallContext, call_context, quiet_plan, load, done_with, top_place, next_stamp}
use Rattle.core_world.specs.Steps.{known_hit}
use Rattle.core_world.specs.Trees.StepTree.{StepTree, done, ask, ◌>>=◌}
use Rattle.core_locks.specs.Knowing.{GoesOn}
use Rattle.core_locks.specs.LockLaws.{HasRaised}
use Rattle.core_law.specs.Logic.{Heap, Does}
use Rattle.core_law.specs.Sound.{Finishes}
use Rattle.core_law.specs.Begins.{BeginsWell}
use Rattle.core_steps.proofs.Looks.{looks_running}
use Rattle.core_steps.proofs.Facts.{Untold, Unwaiting, out_here, ready_here}
use Rattle.core_steps.proofs.LawRules.{raises, leaves_rule}
use Rattle.core_steps.proofs.monitor.MonitorExits.{monitor_exit_does}
use Rattle.core_law.proofs.Places.{top_here, few_here}
use Rattle.core_steps.proofs.Resting.{unasking, rests, logged_carries}
use Rattle.core_steps.proofs.safepoint.SafeCalls.{closes}
use Rattle.core_steps.proofs.SeenSteps.{saw_newest, saw_older}
use Rattle.core_steps.proofs.enter_exit.StackExits.{Leaving, leaving_begins, RaisedStamp, max_right, unwaiting_exit, unentering_exit, stack_exit_does}
use Rattle.core_steps.proofs.Tests.{both, some_named, asking_goes, free_runs, Operates, operates, nothing_goes, going_is, goes_on_or_begins, refers}
use Rattle.core_steps.proofs.Trees.{answers, chooses, chooses_then, follows, binds, hitting}

module _ (heap : Heap) where
  abbrev then_stack : ThreadView → CallContext → ℕ → Bool → StepTree (Progress (Unit {0}))
  then_stack k e o biased = cond biased (done_with tt) (do
    out ← stack_exit_steps e (local_of k) o
    exit_at out e (local_of k) o)

  -- after the look that found no bias pattern: by the record, or by the monitor
  unbiased_does : (k : ThreadView) (e : CallContext) (o mark : ℕ) → Leaving heap k.running k.requesting k.moving k.log k.holds e o
      → k.stage ≡ Settled → k.unfinished ≡ e.unfinished → e.check ≡ k.checking → Untold k
      → last_seen (id.Mark o) k.seen ≡ Some mark → is_biased mark ≡ false → Does heap false (then_stack k e o false) k (λ b r l. AtRest heap.shape l)
  unbiased_does k e o mark a calm mine check untold saw plain_mark =
      binds heap false (stack_exit_steps e (local_of k) o) (λ out. exit_at out e (local_of k) o) k _ (
      stack_exit_does heap (λ b r l. Does heap b (exit_at r e (local_of k) o) l (λ b r l. AtRest heap.shape l)) false k e o
      (record {
        left = λ l x. answers heap false _ l _ x;
        raced = λ l w x. answers heap false _ l _ x;
        monitor = λ l m same b.
            binds heap false (monitor_exit_steps e (local_of k) o m) (λ u. done_with tt) l _ (
            follows heap false _ l _ _
            (subst (λ z. Does heap false (monitor_exit_steps e z o m) l (λ b r l. AtRest heap.shape l)) same (monitor_exit_does heap e o m l b))
            (λ b r l x. answers heap b _ l _ x));
      })
      a calm (inl (sym mine)) check untold (unwaiting_exit k o (mine ∙ a.exits)) (inr (refl, (mark, saw, plain_mark))))

  -- under a bias: the hold word is cleared, which logs Exit
  biased_does : (k : ThreadView) (e : CallContext) (o mark : ℕ)
      → Leaving heap k.running k.requesting k.moving k.log k.holds e o → k.stage ≡ Settled → k.unfinished ≡ e.unfinished → Untold k
      → last_seen (id.Mark o) k.seen ≡ Some mark → is_biased mark ≡ true → (hold_count o k.holds ≡ 1 → HasRaised k o)
      → Does heap false (leave_steps e (local_of k) o >>= (λ u. done true)) k (λ b r l. Does heap b (then_stack k e o r) l (λ b r l. AtRest heap.shape l))
  biased_does k e o mark a calm mine untold saw biased raised =
      let exits = mine ∙ a.exits in
      hitting heap false _ _ k _ (λ n. refl)
      (λ i. leaves_rule heap k e o (hold_count o k.holds) (top_place o k.holds) (λ v. (top_here heap k v a.runs o a.some).1) (λ v. record {
        runs = a.runs;
        ready = ready_here heap k v a.runs (unwaiting_exit k o exits) (unentering_exit k o exits) untold a.live;
        object = record { within = a.object; known = a.known };
        hold = (top_here heap k v a.runs o a.some).0;
        deepest = refl;
        small = few_here heap k v a.runs o;
        before = inr (inr (calm, (mark, saw, biased), raised));
        own_entry = record { operation = inr exits; shot = tt };
        room = a.room;
      }))
      (λ n i was. answers heap false true _ _
      (answers heap false _ _ _ (rests heap.shape _ refl a.unasks a.unchecks (logged_carries k.log _ k.wait _ a.still a.live refl untold))))

  -- the look at the mark
  mark_does : (fresh : Bool) (k : ThreadView) (e : CallContext) (o : ℕ)
      → Leaving heap k.running k.requesting k.moving k.log k.holds e o → k.stage ≡ Settled → GoesOn k e → e.check ≡ k.checking → Untold k
      → (hold_count o k.holds ≡ 1 → RaisedStamp fresh k o)
      → Does heap fresh (ask (load e (id.Mark o)) >>= (λ mark. cond (is_biased mark) (leave_steps e (local_of k) o >>= (λ u. done true)) (done false))) k
      (λ b r l. Does heap b (then_stack k e o r) l (λ b r l. AtRest heap.shape l))
  mark_does fresh k e o a calm goes check untold stamped =
      let look = load e (id.Mark o) in
      hitting heap fresh look _ k _ (λ n. refl) (λ i. looks_running heap k e Settled (id.Mark o) refl a.runs (sym calm) check goes (λ v. a.object)
      (leaving_begins heap k e o a goes) (λ free. a.known)) (λ mark i was.
      let l = known_hit heap.shape heap.start look mark k in
      chooses heap false (is_biased mark) (leave_steps e (local_of k) o >>= (λ u. done true))
      (done false) l (λ b r l. Does heap b (then_stack k e o r) l (λ b r l. AtRest heap.shape l))
      (λ yes. biased_does l e o mark a refl refl untold (saw_newest heap look mark k) yes
      (λ one. let raised = stamped one in (raised.1.0, saw_older heap look mark k (id.Stamp o) (i ∙ raised.0) refl refl ∙ raised.1.1, raised.1.2)))
      (λ no. answers heap false _ _ _ (
      unbiased_does l e o mark a refl refl refl untold (saw_newest heap look mark k) no)))

  exit_going_does : (k : ThreadView) (e : CallContext) (o : ℕ) → Leaving heap k.running k.requesting k.moving k.log k.holds e o
      → k.stage ≡ Settled → GoesOn k e → e.check ≡ k.checking → Untold k → Unwaiting k
      → Does heap true (exit_going e (local_of k) o) k (λ b r l. AtRest heap.shape l)
  exit_going_does k e o a calm goes check untold none =
      binds heap true (bias_exit_steps e (local_of k) o) (then_stack k e o) k _ (
      chooses_then heap true (hold_count o k.holds == 1) _ _
      (λ u. ask (load e (id.Mark o)) >>= (λ mark. cond (is_biased mark) (leave_steps e (local_of k) o >>= (λ u. done true)) (done false))) k _
      (λ one. hitting heap true (raise_stamp_plan e o (next_stamp (local_of k))) _ k _ (λ n. refl)
      (λ i. raises heap k e o a.object (λ v. record {
        runs = a.runs;
        calm = calm;
        out = out_here heap k v a.runs none untold;
        holds = a.some;
        goes_on = goes;
        letting = inr (a.exits, eqb-true (hold_count o k.holds) 1 one);
      }) (leaving_begins heap k e o a goes))
      (λ n i was. mark_does false _ e o a refl (inl refl) refl untold
      (λ one. (
        refl,
        (
          max n (next_stamp (local_of k)),
          saw_newest heap (quiet_plan e (id.Stamp o) (FetchMax (next_stamp (local_of k)))) n k,
          max_right n (next_stamp (local_of k)),
        ),
      ))))
      (λ many. mark_does true k e o a calm goes check untold (λ one. absurd (cc (eq-eqb _ _ one, many)))))

  -- an exit asks for no safepoint, so that its thread runs
  runs_to_exit : (k : ThreadView) (o : ℕ) → AtRest heap.shape k → Operates k (goes_on_with op.Exit o k.unfinished) → k.running ≡ true
  runs_to_exit k o rest a = cases k.requesting refl
    where
      cases : (b : Bool) → k.requesting ≡ b → k.running ≡ true
      cases false g = free_runs k.running k.requesting (goes_on_with op.Exit o k.unfinished) a.runs g
      cases true g =
          let going = asking_goes k.running k.requesting (goes_on_with op.Exit o k.unfinished) a.runs (rest.stopped g) in
          absurd (subst (MayAsk heap.shape k) (going_is op.Exit o k.unfinished going) (rest.asks g a.unchecking))

  exit_finishes : (k : ThreadView) (o : ℕ) → AtRest heap.shape k → may_begin heap.shape heap.biasing k (Exit o) ≡ true
      → Finishes heap true (steps_of heap.shape (Exit o) (start_of heap.start k)) k
  unfolding steps_of
  exit_finishes k o rest may =
      let going = goes_on_with op.Exit o k.unfinished in
      let m = both (has_reference heap.shape k o) (may_operate k going) may in
      let reference = refers heap.shape k o m.0 in
      let a = operates k going m.1 in
      let runs = runs_to_exit k o rest a in
      let goes = goes_on_or_begins op.Exit o k.unfinished a.free in
      let e = call_context (Exit o) op.Exit o in
      closes heap true _ k (
      chooses heap true (hold_count o k.holds == 0) _ _ k _ (λ h. answers heap true _ k _ rest) (λ h.
      binds heap true (exit_going e (local_of k) o) answer k _ (
      follows heap true _ k _ _ (exit_going_does k e o
      (record {
        works = record {
          may = record { unchecks = refl; live = a.live; room = a.room; object = reference.within; known = reference.known };
          runs = runs;
          unasks = unasking heap.shape k rest runs;
          still = rest.still;
        };
        some = some_named (hold_count o k.holds) h;
        exits = refl;
      })
      rest.calm goes (sym a.unchecking) rest.untold (elim goes [
        | inl g ↦ unwaiting_exit k o (sym g)
        | inr g ↦ nothing_goes k g
      ]))
      (λ b r l x. answers heap b _ l _ x))))

  pub exit_begins : (o : ℕ) → BeginsWell heap (Exit o)
  exit_begins o = record { does = λ k v rest may. exit_finishes k o rest may }
