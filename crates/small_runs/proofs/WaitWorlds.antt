-- The turn in which the thread of a small program waits, by computing.
use Rattle.std.proofs.Common.{◌≡◌, [], ◌∷◌, replicate, true, Ok, refl, arith}
use Rattle.mark_word.specs.Mark.{read_mark}
use Rattle.mark_word.specs.Safe.{read_safe}
use Rattle.mark_word.specs.Owner.{read_owner}
use Rattle.mark_word.specs.Wait.{read_wait}
use Rattle.mark_word.specs.Hold.{read_hold}
use Rattle.core_world.specs.declared.answer.Progress.TheVariants.{Pending}
use Rattle.core_world.specs.declared.heap_call.HeapCall.TheVariants.{Wait, Poll, Stop, Resume}
use Rattle.core_world.specs.Due.{steps_due}
use Rattle.core_world.specs.Steps.{is_idle}
use Rattle.core_world.specs.Threads.ThreadView.{start_of}
use Rattle.core_world.specs.Trees.Calls.{steps_of, side_context}
use Rattle.core_world.specs.Trees.Operations.{wait_steps}
use Rattle.core_world.specs.Trees.SafepointSteps.{stop_steps}
use Rattle.core_world.specs.Words.Shape.{ring_bits}
use Rattle.core_law.specs.Logic.{heap_of}
use Rattle.core_law.specs.Reached.{IsReachable}
use Rattle.lock_runtime.specs.Standing.{IsStopped}
use Rattle.step_history.specs.Examples.{lone}
use Rattle.step_history.proofs.Turned.{turns_reach}
use Rattle.small_runs.specs.Turns.{turns_of, polled, entered, turned, resumed, let_go, waited, not_notified}
use Rattle.small_runs.proofs.Alone.{Goes, HasMade, goes_by, goes_further, Along}
use Rattle.small_runs.proofs.TurnWorlds.{turned_comes, made_turned}

-- THE WORLD before the wait is reached, and the thread rests there.
pub resumed_comes : IsReachable lone resumed
unfolding steps_due is_idle steps_of read_safe read_mark read_hold read_wait read_owner ring_bits polled entered turned resumed
resumed_comes = turns_reach lone turned (turns_of 0 (Resume ∷ Resume ∷ Poll ∷ [])) turned_comes refl

pub resumed_over : is_idle lone.shape (resumed.known 0) ≡ true
unfolding steps_due is_idle steps_of read_safe read_mark read_hold read_wait read_owner ring_bits polled entered turned resumed
resumed_over = refl

pub resumed_of : heap_of resumed ≡ lone
unfolding steps_due is_idle steps_of read_safe read_mark read_hold read_wait read_owner ring_bits polled entered turned resumed
resumed_of = refl

pub let_go_of : heap_of let_go ≡ lone
unfolding steps_due is_idle steps_of read_safe read_mark read_hold read_wait read_owner ring_bits polled entered turned resumed let_go
let_go_of = refl

-- HOW MANY STEPS the thread has made in each of them
made_resumed : HasMade 0 resumed 14 3
unfolding steps_due is_idle steps_of read_safe read_mark read_hold read_wait read_owner ring_bits polled entered turned resumed
made_resumed = record { number = refl; polled = refl }

made_let_go : HasMade 0 let_go 34 3
unfolding steps_due is_idle steps_of read_safe read_mark read_hold read_wait read_owner ring_bits polled entered turned resumed let_go
made_let_go = record { number = refl; polled = refl }

made_waited : HasMade 0 waited 36 3
unfolding steps_due is_idle steps_of read_safe read_mark read_hold read_wait read_owner ring_bits polled entered turned resumed let_go waited
made_waited = record { number = refl; polled = refl }

-- from each to the next one, and in the turn
pub to_resumed : Goes 0 turned resumed 1
unfolding steps_due is_idle steps_of read_safe read_mark read_hold read_wait read_owner ring_bits polled entered turned resumed
to_resumed = goes_by 0 turned (Resume ∷ Resume ∷ Poll ∷ []) 11 2 14 3 1 refl made_turned made_resumed (omega arith) (omega arith)

pub to_let_go : Goes 0 resumed let_go 0
unfolding steps_due is_idle steps_of read_safe read_mark read_hold read_wait read_owner ring_bits polled entered turned resumed let_go
to_let_go = goes_by 0 resumed (replicate 20 (Wait 0 0)) 14 3 34 3 0 refl made_resumed made_let_go (omega arith) (omega arith)

to_waited : Goes 0 let_go waited 0
unfolding steps_due is_idle steps_of read_safe read_mark read_hold read_wait read_owner ring_bits polled entered turned resumed let_go waited
to_waited = goes_by 0 let_go (replicate 2 Stop) 34 3 36 3 0 refl made_let_go made_waited (omega arith) (omega arith)

pub waiting_turn : Goes 0 turned waited 1
waiting_turn =
    goes_further 0 turned resumed waited 1 0 1 to_resumed
    (goes_further 0 resumed let_go waited 0 0 0 to_let_go to_waited (omega arith)) (omega arith)

-- THE LAST CALL of the turn, and the stop after it
pub waits : Along 0 (wait_steps lone.shape (start_of lone.start (resumed.known 0)) 0 0) (replicate 20 (Wait 0 0)) resumed (Ok (Pending not_notified))
unfolding steps_due is_idle steps_of read_safe read_mark read_hold read_wait read_owner ring_bits polled entered turned resumed
waits = (
  refl,
  (
    refl,
    (
      refl,
      (
        refl,
        (
          refl,
          (
            refl,
            (
              refl,
              (
                refl,
                (
                  refl,
                  (
                    refl,
                    (
                      refl,
                      (
                        refl,
                        (
                          refl,
                          (
                            refl,
                            (
                              refl,
                              (
                                refl,
                                (refl, (refl, (refl, (refl, refl)))),
                              ),
                            ),
                          ),
                        ),
                      ),
                    ),
                  ),
                ),
              ),
            ),
          ),
        ),
      ),
    ),
  ),
)

pub stops_let_go : Along 0 (stop_steps (side_context Stop (start_of lone.start (let_go.known 0))) (start_of lone.start (let_go.known 0)).local)
    (replicate 2 Stop) let_go tt
unfolding steps_due is_idle steps_of read_safe read_mark read_hold read_wait read_owner ring_bits polled entered turned resumed let_go
stops_let_go = (refl, (refl, refl))

pub let_go_runs : (let_go.known 0).running ≡ true
unfolding steps_due is_idle steps_of read_safe read_mark read_hold read_wait read_owner ring_bits polled entered turned resumed let_go
let_go_runs = refl

pub waited_stands : IsStopped (waited.known 0)
unfolding steps_due is_idle steps_of read_safe read_mark read_hold read_wait read_owner ring_bits polled entered turned resumed let_go waited
waited_stands = record { runs = refl; asks = refl }
