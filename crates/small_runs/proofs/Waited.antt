-- The turn in which the thread of a small program waits, as its contract says it.
use Rattle.std.proofs.Common.{◌≡◌, ◌+◌, ◌*◌, ◌<◌, replicate, Ok, refl, arith}
use Rattle.atomic_table.specs.Seated.{TableId}
use Rattle.core_world.specs.declared.answer.Progress.TheVariants.{Pending}
use Rattle.core_world.specs.declared.heap_call.HeapCall.TheVariants.{Wait, Stop}
use Rattle.core_world.specs.Threads.ThreadView.{start_of}
use Rattle.core_world.specs.Trees.Calls.{side_context}
use Rattle.core_world.specs.Trees.Operations.{wait_steps}
use Rattle.core_world.specs.Trees.SafepointSteps.{stop_steps}
use Rattle.core_world.specs.Words.Shape.{IsInLimits}
use Rattle.core_law.specs.Reached.{IsReachable, opens}
use Rattle.heap_table.specs.Seen.{HeapSeen}
use Rattle.step_history.specs.Examples.{lone}
use Rattle.thread_calls.specs.Advances.{PendedIn}
use Rattle.thread_frame.specs.Frames.{unspent}
use Rattle.thread_interp.specs.declared.moved.RunState.TheVariants.{Blocked}
use Rattle.thread_interp.specs.Moves.{HasMoved, LastCall}
use Rattle.turn_progress.specs.Barred.{IsBarred}
use Rattle.turn_progress.specs.Turns.{LiveAlone, no_turn_alone, one_more_alone, OthersStand, TurnAlone}
use Rattle.turn_progress.proofs.Barred.{blocked_barred}
use Rattle.turn_progress.proofs.Lone.{lone_others}
use Rattle.turn_progress.proofs.Steps.{moved_steps}
use Rattle.small_runs.specs.Runs.{lone_in, pass_in}
use Rattle.small_runs.specs.Turns.{turned, resumed, let_go, waited, begun, runner_at_first, runner_halfway, runner_waiting, not_notified, lets_go}
use Rattle.small_runs.proofs.Alone.{stepped_by, ran_along}
use Rattle.small_runs.proofs.AtRest.{rests_in}
use Rattle.small_runs.proofs.Turned.{first, goes_on, first_alone, stops}
use Rattle.small_runs.proofs.TurnWorlds.{turned_comes}
use Rattle.small_runs.proofs.WaitWorlds.{resumed_comes, resumed_over, resumed_of, let_go_of, to_resumed, to_let_go, waiting_turn}
use Rattle.small_runs.proofs.WaitWorlds.{waits, stops_let_go, let_go_runs, waited_stands}
use Rattle.small_runs.proofs.Worlds.{limits}

module _ (table : TableId) where
  abbrev h : HeapSeen
  h = lone_in table

  waiting : LastCall (PendedIn h not_notified) h (pass_in h turned) (pass_in h waited)
  unfolding let_go waited
  waiting = record {
    after = pass_in h let_go;
    called = record {
      before = pass_in h resumed;
      rests = rests_in table resumed resumed_comes resumed_over;
      call = record {
        task = Wait 0 0;
        is =
            ran_along h 0 (wait_steps lone.shape (start_of lone.start (resumed.known 0)) 0 0) (replicate 20 (Wait 0 0)) resumed (Ok (Pending not_notified))
            resumed_of waits;
        stepped = stepped_by h 0 resumed let_go 0 to_let_go;
      };
      earlier = to_resumed.steps;
      begun = moved_steps turned 0 to_resumed.steps resumed to_resumed.moves;
    };
    still =
        stops table let_go waited let_go_runs
        (ran_along h 0 (stop_steps (side_context Stop (start_of lone.start (let_go.known 0))) (start_of lone.start (let_go.known 0)).local)
        (replicate 2 Stop) let_go tt let_go_of stops_let_go);
  }

  waiting_moved : HasMoved h 2 (runner_halfway table) (runner_waiting table) lets_go
  waiting_moved = record {
    most = omega arith;
    spent = refl;
    stepped = stepped_by h 0 turned waited 1 waiting_turn;
    polls = omega arith;
    state = (refl, waiting);
    stands = waited_stands;
  }

  alone : TurnAlone h 2 0 turned (runner_halfway table) waited (runner_waiting table) lets_go
  alone = record { moved = waiting_moved; steps = waiting_turn.steps; moves = waiting_turn.moves; knew = refl; knows = refl }

  pub is_blocked : IsInLimits lone.shape × IsReachable lone first × OthersStand first 0
      × LiveAlone h 2 0 first (runner_at_first table) 1 turned (runner_halfway table)
      × TurnAlone h 2 0 turned (runner_halfway table) waited (runner_waiting table) lets_go
      × (lets_go.state ≡ Blocked not_notified)
      × (unspent begun < 1 * 2 + 2)
  is_blocked = (
    limits,
    opens,
    lone_others lone first refl opens,
    one_more_alone 0 first turned (runner_at_first table) (runner_halfway table) goes_on no_turn_alone (first_alone table) refl,
    alone,
    refl,
    omega arith,
  )

  pub is_barred : IsInLimits lone.shape × (lone.shape.threads ≡ 1) × IsReachable lone turned × OthersStand turned 0
      × IsBarred h turned 0 not_notified (runner_halfway table) (runner_waiting table)
  is_barred = (
    limits,
    refl,
    turned_comes,
    lone_others lone turned refl turned_comes,
    blocked_barred h 2 0 turned waited (runner_halfway table) (runner_waiting table) lets_go not_notified limits turned_comes
        (lone_others lone turned refl turned_comes) alone refl,
  )
