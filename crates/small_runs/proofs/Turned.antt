-- The turns of the thread of a small program, as their contract says them.
use Rattle.std.proofs.Common.{◌≡◌, ◌+◌, ◌*◌, ◌<◌, [], ◌∷◌, replicate, true, Ok, refl, sym, subst, arith}
use Rattle.atomic_table.specs.Seated.{TableId}
use Rattle.plain_monitor.specs.declared.entry.Ending.TheVariants.{Spent}
use Rattle.plain_monitor.specs.declared.entry.Path.TheVariants.{StackFirst}
use Rattle.core_world.specs.declared.answer.PendingCause.TheVariants.{Halted}
use Rattle.core_world.specs.declared.answer.Progress.TheVariants.{Done, Pending}
use Rattle.core_world.specs.declared.heap_call.HeapCall.TheVariants.{Enter, Finish, Stop, Resume}
use Rattle.core_world.specs.Threads.ThreadView.{start_of}
use Rattle.core_world.specs.Trees.Calls.{side_context}
use Rattle.core_world.specs.Trees.Operations.{enter_steps, finish_steps}
use Rattle.core_world.specs.Trees.SafepointSteps.{resume_steps, stop_steps}
use Rattle.core_world.specs.Words.Shape.{IsInLimits}
use Rattle.core_world.specs.World.{World}
use Rattle.core_law.specs.Reached.{IsReachable, opens}
use Rattle.heap_table.specs.Seen.{HeapSeen}
use Rattle.step_history.specs.Examples.{lone, world_of}
use Rattle.thread_calls.specs.Advances.{DoneIn, PendedIn}
use Rattle.thread_frame.specs.Frames.{unspent}
use Rattle.thread_interp.specs.declared.moved.Moved.{Moved}
use Rattle.thread_interp.specs.declared.moved.RunState.TheVariants.{Live, Blocked}
use Rattle.thread_interp.specs.Moves.{HasMoved, LastCall, IsSetStill}
use Rattle.turn_progress.specs.Barred.{IsBarred}
use Rattle.turn_progress.specs.Turns.{LiveTurns, no_turn, one_more, LiveAlone, no_turn_alone, one_more_alone, OthersStand, TurnAlone}
use Rattle.turn_progress.proofs.Barred.{blocked_barred}
use Rattle.turn_progress.proofs.Lone.{lone_others}
use Rattle.turn_progress.proofs.Steps.{moved_steps}
use Rattle.small_runs.specs.Runs.{lone_in, pass_in}
use Rattle.small_runs.specs.Turns.{polled, entered, turned, left, finished, ended, halted, barred}
use Rattle.small_runs.specs.Turns.{begun, runner_at_first, runner_halfway, runner_at_end, runner_halted, runner_barred, ends, finds_the_halt}
use Rattle.small_runs.proofs.Alone.{stepped_by, ran_along}
use Rattle.small_runs.proofs.AtRest.{rests_in}
use Rattle.small_runs.proofs.TurnWorlds.{polled_comes, left_comes, halted_is_reached, polled_over, left_over, halted_over}
use Rattle.small_runs.proofs.TurnWorlds.{polled_of, entered_of, left_of, finished_of, halted_of, enters, stops_entered, stops_finished, spends, finds}
use Rattle.small_runs.proofs.TurnWorlds.{to_polled, to_entered, to_left, to_finished, to_barred, first_turn, last_turn}
use Rattle.small_runs.proofs.TurnWorlds.{entered_runs, finished_runs, turned_stands, ended_stands, barred_stands}
use Rattle.small_runs.proofs.Worlds.{limits}

abbrev pub first : World
first = world_of lone []

-- what the first turn did
abbrev pub goes_on : Moved
goes_on = record { instructions = 2; state = Live }

module _ (table : TableId) where
  abbrev h : HeapSeen
  h = lone_in table

  -- THE LAST CALLS of the turns, with the stops after them
  pub stops : (w v : World) → (w.known 0).running ≡ true
      → DoneIn h (pass_in h w) (pass_in h v) Stop → IsSetStill (w.known 0).running h (pass_in h w) (pass_in h v)
  stops w v runs done = subst (λ b. IsSetStill b h (pass_in h w) (pass_in h v)) (sym runs) done

  entering : LastCall (DoneIn h) h (pass_in h first) (pass_in h turned)
  unfolding turned entered
  entering = record {
    after = pass_in h entered;
    called = record {
      before = pass_in h polled;
      rests = rests_in table polled polled_comes polled_over;
      call = record {
        task = Enter 0 0;
        is = (
          StackFirst,
          ran_along h 0 (enter_steps lone.shape (start_of lone.start (polled.known 0)) 0 0) (replicate 5 (Enter 0 0)) polled (Ok (Done StackFirst)) polled_of
              enters,
        );
        stepped = stepped_by h 0 polled entered 0 to_entered;
      };
      earlier = to_polled.steps;
      begun = moved_steps first 0 to_polled.steps polled to_polled.moves;
    };
    still =
        stops entered turned entered_runs
        (ran_along h 0 (stop_steps (side_context Stop (start_of lone.start (entered.known 0))) (start_of lone.start (entered.known 0)).local)
        (replicate 2 Stop) entered tt entered_of stops_entered);
  }

  ending : LastCall (DoneIn h) h (pass_in h turned) (pass_in h ended)
  unfolding ended finished
  ending = record {
    after = pass_in h finished;
    called = record {
      before = pass_in h left;
      rests = rests_in table left left_comes left_over;
      call = record {
        task = Finish Spent;
        is = ran_along h 0 (finish_steps (start_of lone.start (left.known 0)) Spent) (replicate 2 (Finish Spent)) left tt left_of spends;
        stepped = stepped_by h 0 left finished 0 to_finished;
      };
      earlier = to_left.steps;
      begun = moved_steps turned 0 to_left.steps left to_left.moves;
    };
    still =
        stops finished ended finished_runs
        (ran_along h 0 (stop_steps (side_context Stop (start_of lone.start (finished.known 0))) (start_of lone.start (finished.known 0)).local)
        (replicate 2 Stop) finished tt finished_of stops_finished);
  }

  resuming : LastCall (PendedIn h Halted) h (pass_in h halted) (pass_in h barred)
  unfolding barred
  resuming = record {
    after = pass_in h barred;
    called = record {
      before = pass_in h halted;
      rests = rests_in table halted halted_is_reached halted_over;
      call = record {
        task = Resume;
        is =
            ran_along h 0 (resume_steps (side_context Resume (start_of lone.start (halted.known 0))) (start_of lone.start (halted.known 0)).local) (Resume ∷ [])
            halted (Pending Halted) halted_of finds;
        stepped = stepped_by h 0 halted barred 0 to_barred;
      };
      earlier = [];
      begun = refl;
    };
    still = subst (λ b. IsSetStill b h (pass_in h barred) (pass_in h barred)) (sym barred_stands.runs) refl;
  }

  -- THE TURNS
  live_turn : HasMoved h 2 (runner_at_first table) (runner_halfway table) goes_on
  live_turn = record {
    most = omega arith;
    spent = refl;
    stepped = stepped_by h 0 first turned 2 first_turn;
    polls = let p = first_turn.polled in omega (arith, p);
    state = (refl, refl, entering);
    stands = turned_stands;
  }

  end_turn : HasMoved h 2 (runner_halfway table) (runner_at_end table) ends
  end_turn = record {
    most = omega arith;
    spent = refl;
    stepped = stepped_by h 0 turned ended 1 last_turn;
    polls = let p = last_turn.polled in omega (arith, p);
    state = (refl, ending);
    stands = ended_stands;
  }

  blocked_turn : HasMoved h 2 (runner_halted table) (runner_barred table) finds_the_halt
  blocked_turn = record {
    most = omega arith;
    spent = refl;
    stepped = stepped_by h 0 halted barred 0 to_barred;
    polls = omega arith;
    state = (refl, resuming);
    stands = barred_stands;
  }

  pub first_alone : TurnAlone h 2 0 first (runner_at_first table) turned (runner_halfway table) goes_on
  first_alone = record { moved = live_turn; steps = first_turn.steps; moves = first_turn.moves; knew = refl; knows = refl }

  last_alone : TurnAlone h 2 0 turned (runner_halfway table) ended (runner_at_end table) ends
  last_alone = record { moved = end_turn; steps = last_turn.steps; moves = last_turn.moves; knew = refl; knows = refl }

  blocked_alone : TurnAlone h 2 0 halted (runner_halted table) barred (runner_barred table) finds_the_halt
  blocked_alone = record { moved = blocked_turn; steps = to_barred.steps; moves = to_barred.moves; knew = refl; knows = refl }

  -- WHAT THE LAWS ASK FOR
  pub live : LiveTurns h 2 (runner_at_first table) 1 (runner_halfway table)
  live = one_more 0 (runner_at_first table) (runner_halfway table) goes_on no_turn live_turn refl

  pub ends_alone : IsInLimits lone.shape × IsReachable lone first × OthersStand first 0
      × LiveAlone h 2 0 first (runner_at_first table) 1 turned (runner_halfway table)
      × TurnAlone h 2 0 turned (runner_halfway table) ended (runner_at_end table) ends
      × (unspent begun < 1 * 2 + 2)
  ends_alone = (
    limits,
    opens,
    lone_others lone first refl opens,
    one_more_alone 0 first turned (runner_at_first table) (runner_halfway table) goes_on no_turn_alone first_alone refl,
    last_alone,
    omega arith,
  )

  pub is_blocked : IsInLimits lone.shape × IsReachable lone halted × OthersStand halted 0
      × TurnAlone h 2 0 halted (runner_halted table) barred (runner_barred table) finds_the_halt
      × (finds_the_halt.state ≡ Blocked Halted)
  is_blocked = (limits, halted_is_reached, lone_others lone halted refl halted_is_reached, blocked_alone, refl)

  pub is_barred : IsInLimits lone.shape × (lone.shape.threads ≡ 1) × IsReachable lone halted
      × IsBarred h halted 0 Halted (runner_halted table) (runner_barred table)
  is_barred = (
    limits,
    refl,
    halted_is_reached,
    blocked_barred h 2 0 halted barred (runner_halted table) (runner_barred table) finds_the_halt Halted limits halted_is_reached
        (lone_others lone halted refl halted_is_reached) blocked_alone refl,
  )
