-- The turn of a thread that is to enter an object which the other thread holds, as its contract says it.
use Rattle.std.proofs.Common.{◌≡◌, ◌+◌, ◌*◌, ◌<◌, replicate, Ok, refl, sym, subst, arith}
use Rattle.atomic_table.specs.Seated.{TableId}
use Rattle.core_world.specs.declared.answer.Progress.TheVariants.{Pending}
use Rattle.core_world.specs.declared.heap_call.HeapCall.TheVariants.{Enter, Stop}
use Rattle.core_world.specs.Threads.ThreadView.{start_of}
use Rattle.core_world.specs.Trees.Calls.{side_context}
use Rattle.core_world.specs.Trees.Operations.{enter_steps}
use Rattle.core_world.specs.Trees.SafepointSteps.{stop_steps}
use Rattle.core_world.specs.Words.Shape.{IsInLimits}
use Rattle.core_law.specs.Reached.{IsReachable}
use Rattle.heap_table.specs.Seen.{HeapSeen}
use Rattle.step_history.specs.Race.{rivals}
use Rattle.thread_calls.specs.Advances.{PendedIn}
use Rattle.thread_frame.specs.Frames.{unspent}
use Rattle.thread_interp.specs.declared.moved.RunState.TheVariants.{Blocked}
use Rattle.thread_interp.specs.Moves.{HasMoved, LastCall, IsSetStill}
use Rattle.turn_progress.specs.Barred.{IsBarred}
use Rattle.turn_progress.specs.Turns.{LiveAlone, no_turn_alone, OthersStand, TurnAlone}
use Rattle.turn_progress.proofs.Barred.{blocked_barred}
use Rattle.turn_progress.proofs.Steps.{moved_steps}
use Rattle.small_runs.specs.Runs.{pass_of}
use Rattle.small_runs.specs.Rivals.{rivals_in, taken, arrived, pended, kept_out, runner_of_rival, runner_kept_out, other_owns, finds_the_owner}
use Rattle.small_runs.specs.Turns.{begun}
use Rattle.small_runs.proofs.Alone.{stepped_by, ran_along}
use Rattle.small_runs.proofs.Ends.{resting}
use Rattle.small_runs.proofs.RivalWorlds.{limits, taken_comes, arrived_comes, arrived_over, arrived_of, pended_of, other_stands}
use Rattle.small_runs.proofs.RivalWorlds.{to_arrived, to_pended, whole_turn, finds, stops, pended_runs, kept_out_stands}

module _ (table : TableId) where
  abbrev h : HeapSeen
  h = rivals_in table

  entering : LastCall (PendedIn h other_owns) h (pass_of h 1 taken) (pass_of h 1 kept_out)
  unfolding pended kept_out
  entering = record {
    after = pass_of h 1 pended;
    called = record {
      before = pass_of h 1 arrived;
      rests = resting h 1 arrived limits refl (omega arith) arrived_comes arrived_over;
      call = record {
        task = Enter 0 0;
        is =
            ran_along h 1 (enter_steps rivals.shape (start_of rivals.start (arrived.known 1)) 0 0) (replicate 13 (Enter 0 0)) arrived (Ok (Pending other_owns))
            arrived_of finds;
        stepped = stepped_by h 1 arrived pended 0 to_pended;
      };
      earlier = to_arrived.steps;
      begun = moved_steps taken 1 to_arrived.steps arrived to_arrived.moves;
    };
    still =
        subst (λ b. IsSetStill b h (pass_of h 1 pended) (pass_of h 1 kept_out)) (sym pended_runs)
        (ran_along h 1 (stop_steps (side_context Stop (start_of rivals.start (pended.known 1))) (start_of rivals.start (pended.known 1)).local)
        (replicate 2 Stop) pended tt pended_of stops);
  }

  owned_turn : HasMoved h 4 (runner_of_rival table) (runner_kept_out table) finds_the_owner
  owned_turn = record {
    most = omega arith;
    spent = refl;
    stepped = stepped_by h 1 taken kept_out 2 whole_turn;
    polls = let p = whole_turn.polled in omega (arith, p);
    state = (refl, entering);
    stands = kept_out_stands;
  }

  alone : TurnAlone h 4 1 taken (runner_of_rival table) kept_out (runner_kept_out table) finds_the_owner
  alone = record { moved = owned_turn; steps = whole_turn.steps; moves = whole_turn.moves; knew = refl; knows = refl }

  pub is_owned : IsInLimits rivals.shape × IsReachable rivals taken × OthersStand taken 1
      × LiveAlone h 4 1 taken (runner_of_rival table) 0 taken (runner_of_rival table)
      × TurnAlone h 4 1 taken (runner_of_rival table) kept_out (runner_kept_out table) finds_the_owner
      × (finds_the_owner.state ≡ Blocked other_owns)
      × (unspent begun < 0 * 4 + 4)
  is_owned = (limits, taken_comes, other_stands, no_turn_alone, alone, refl, omega arith)

  pub is_barred : IsBarred h taken 1 other_owns (runner_of_rival table) (runner_kept_out table)
  is_barred =
      blocked_barred h 4 1 taken kept_out (runner_of_rival table) (runner_kept_out table) finds_the_owner other_owns limits taken_comes other_stands alone refl
