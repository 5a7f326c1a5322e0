-- The turns of the thread of a small program, by computing.
use Rattle.std.proofs.Common.{◌≡◌, [], ◌∷◌, ◌++◌, replicate, true, Ok, refl, arith}
use Rattle.mark_word.specs.Mark.{read_mark}
use Rattle.mark_word.specs.Safe.{read_safe}
use Rattle.mark_word.specs.Owner.{read_owner}
use Rattle.mark_word.specs.Wait.{read_wait}
use Rattle.mark_word.specs.Hold.{read_hold}
use Rattle.plain_monitor.specs.declared.entry.Ending.TheVariants.{Spent}
use Rattle.plain_monitor.specs.declared.entry.Path.TheVariants.{StackFirst}
use Rattle.core_world.specs.declared.answer.PendingCause.TheVariants.{Halted}
use Rattle.core_world.specs.declared.answer.Progress.TheVariants.{Done, Pending}
use Rattle.core_world.specs.declared.heap_call.HeapCall.TheVariants.{Enter, Exit, Finish, Poll, Stop, Resume}
use Rattle.core_world.specs.Due.{steps_due}
use Rattle.core_world.specs.Steps.{is_idle}
use Rattle.core_world.specs.Threads.ThreadView.{start_of}
use Rattle.core_world.specs.Trees.Calls.{steps_of, side_context}
use Rattle.core_world.specs.Trees.Operations.{enter_steps, finish_steps}
use Rattle.core_world.specs.Trees.SafepointSteps.{resume_steps, stop_steps}
use Rattle.core_world.specs.Words.Shape.{ring_bits}
use Rattle.core_law.specs.Logic.{heap_of}
use Rattle.core_law.specs.Reached.{IsReachable, opens}
use Rattle.lock_runtime.specs.Standing.{IsStopped}
use Rattle.step_history.specs.Examples.{lone, world_of}
use Rattle.step_history.proofs.Turned.{turns_reach}
use Rattle.small_runs.specs.Turns.{turns_of, polled, entered, turned, left, finished, ended, halted, barred}
use Rattle.small_runs.proofs.Alone.{Goes, HasMade, goes_by, goes_further, Along}
use Rattle.small_runs.proofs.Worlds.{halted_comes}

-- THE WORLDS are reached, and their thread rests there before its calls.
pub polled_comes : IsReachable lone polled
unfolding steps_due is_idle steps_of read_safe read_mark read_hold read_wait read_owner ring_bits polled
polled_comes = turns_reach lone (world_of lone []) (turns_of 0 (Resume ∷ Resume ∷ Poll ∷ Poll ∷ [])) opens refl

pub entered_comes : IsReachable lone entered
unfolding steps_due is_idle steps_of read_safe read_mark read_hold read_wait read_owner ring_bits polled entered
entered_comes = turns_reach lone polled (turns_of 0 (replicate 5 (Enter 0 0))) polled_comes refl

pub turned_comes : IsReachable lone turned
unfolding steps_due is_idle steps_of read_safe read_mark read_hold read_wait read_owner ring_bits polled entered turned
turned_comes = turns_reach lone entered (turns_of 0 (replicate 2 Stop)) entered_comes refl

pub left_comes : IsReachable lone left
unfolding steps_due is_idle steps_of read_safe read_mark read_hold read_wait read_owner ring_bits polled entered turned left
left_comes = turns_reach lone turned (turns_of 0 (Resume ∷ Resume ∷ Poll ∷ replicate 7 (Exit 0) ++ Poll ∷ [])) turned_comes refl

pub halted_is_reached : IsReachable lone halted
unfolding halted
halted_is_reached = halted_comes

pub polled_over : is_idle lone.shape (polled.known 0) ≡ true
unfolding steps_due is_idle steps_of read_safe read_mark read_hold read_wait read_owner ring_bits polled
polled_over = refl

pub left_over : is_idle lone.shape (left.known 0) ≡ true
unfolding steps_due is_idle steps_of read_safe read_mark read_hold read_wait read_owner ring_bits polled entered turned left
left_over = refl

pub halted_over : is_idle lone.shape (halted.known 0) ≡ true
unfolding steps_due is_idle steps_of read_safe read_mark read_hold read_wait read_owner ring_bits halted
halted_over = refl

pub polled_of : heap_of polled ≡ lone
unfolding steps_due is_idle steps_of read_safe read_mark read_hold read_wait read_owner ring_bits polled
polled_of = refl

pub entered_of : heap_of entered ≡ lone
unfolding steps_due is_idle steps_of read_safe read_mark read_hold read_wait read_owner ring_bits polled entered
entered_of = refl

pub left_of : heap_of left ≡ lone
unfolding steps_due is_idle steps_of read_safe read_mark read_hold read_wait read_owner ring_bits polled entered turned left
left_of = refl

pub finished_of : heap_of finished ≡ lone
unfolding steps_due is_idle steps_of read_safe read_mark read_hold read_wait read_owner ring_bits polled entered turned left finished
finished_of = refl

pub halted_of : heap_of halted ≡ lone
unfolding steps_due is_idle steps_of read_safe read_mark read_hold read_wait read_owner ring_bits halted
halted_of = refl

-- HOW MANY STEPS the thread has made in each of them
made_first : HasMade 0 (world_of lone []) 0 0
unfolding steps_due is_idle steps_of read_safe read_mark read_hold read_wait read_owner ring_bits
made_first = record { number = refl; polled = refl }

made_polled : HasMade 0 polled 4 2
unfolding steps_due is_idle steps_of read_safe read_mark read_hold read_wait read_owner ring_bits polled
made_polled = record { number = refl; polled = refl }

made_entered : HasMade 0 entered 9 2
unfolding steps_due is_idle steps_of read_safe read_mark read_hold read_wait read_owner ring_bits polled entered
made_entered = record { number = refl; polled = refl }

pub made_turned : HasMade 0 turned 11 2
unfolding steps_due is_idle steps_of read_safe read_mark read_hold read_wait read_owner ring_bits polled entered turned
made_turned = record { number = refl; polled = refl }

made_left : HasMade 0 left 22 4
unfolding steps_due is_idle steps_of read_safe read_mark read_hold read_wait read_owner ring_bits polled entered turned left
made_left = record { number = refl; polled = refl }

made_finished : HasMade 0 finished 24 4
unfolding steps_due is_idle steps_of read_safe read_mark read_hold read_wait read_owner ring_bits polled entered turned left finished
made_finished = record { number = refl; polled = refl }

made_ended : HasMade 0 ended 26 4
unfolding steps_due is_idle steps_of read_safe read_mark read_hold read_wait read_owner ring_bits polled entered turned left finished ended
made_ended = record { number = refl; polled = refl }

made_halted : HasMade 0 halted 38 0
unfolding steps_due is_idle steps_of read_safe read_mark read_hold read_wait read_owner ring_bits halted
made_halted = record { number = refl; polled = refl }

made_barred : HasMade 0 barred 39 0
unfolding steps_due is_idle steps_of read_safe read_mark read_hold read_wait read_owner ring_bits halted barred
made_barred = record { number = refl; polled = refl }

-- from each to the next one
pub to_polled : Goes 0 (world_of lone []) polled 2
unfolding steps_due is_idle steps_of read_safe read_mark read_hold read_wait read_owner ring_bits polled
to_polled = goes_by 0 (world_of lone []) (Resume ∷ Resume ∷ Poll ∷ Poll ∷ []) 0 0 4 2 2 refl made_first made_polled (omega arith) (omega arith)

pub to_entered : Goes 0 polled entered 0
unfolding steps_due is_idle steps_of read_safe read_mark read_hold read_wait read_owner ring_bits polled entered
to_entered = goes_by 0 polled (replicate 5 (Enter 0 0)) 4 2 9 2 0 refl made_polled made_entered (omega arith) (omega arith)

pub to_turned : Goes 0 entered turned 0
unfolding steps_due is_idle steps_of read_safe read_mark read_hold read_wait read_owner ring_bits polled entered turned
to_turned = goes_by 0 entered (replicate 2 Stop) 9 2 11 2 0 refl made_entered made_turned (omega arith) (omega arith)

pub to_left : Goes 0 turned left 2
unfolding steps_due is_idle steps_of read_safe read_mark read_hold read_wait read_owner ring_bits polled entered turned left
to_left =
    goes_by 0 turned (Resume ∷ Resume ∷ Poll ∷ replicate 7 (Exit 0) ++ Poll ∷ []) 11 2 22 4 2 refl made_turned made_left
    (omega arith) (omega arith)

pub to_finished : Goes 0 left finished 0
unfolding steps_due is_idle steps_of read_safe read_mark read_hold read_wait read_owner ring_bits polled entered turned left finished
to_finished = goes_by 0 left (replicate 2 (Finish Spent)) 22 4 24 4 0 refl made_left made_finished (omega arith) (omega arith)

pub to_ended : Goes 0 finished ended 0
unfolding steps_due is_idle steps_of read_safe read_mark read_hold read_wait read_owner ring_bits polled entered turned left finished ended
to_ended = goes_by 0 finished (replicate 2 Stop) 24 4 26 4 0 refl made_finished made_ended (omega arith) (omega arith)

pub to_barred : Goes 0 halted barred 0
unfolding steps_due is_idle steps_of read_safe read_mark read_hold read_wait read_owner ring_bits halted barred
to_barred = goes_by 0 halted (Resume ∷ []) 38 0 39 0 0 refl made_halted made_barred (omega arith) (omega arith)

-- and in each turn
pub first_turn : Goes 0 (world_of lone []) turned 2
first_turn =
    goes_further 0 (world_of lone []) polled turned 2 0 2 to_polled
    (goes_further 0 polled entered turned 0 0 0 to_entered to_turned (omega arith)) (omega arith)

pub last_turn : Goes 0 turned ended 1
last_turn =
    goes_further 0 turned left ended 2 0 1 to_left (goes_further 0 left finished ended 0 0 0 to_finished to_ended (omega arith)) (omega arith)

-- THE LAST CALLS of the turns, and the stops after them
pub enters : Along 0 (enter_steps lone.shape (start_of lone.start (polled.known 0)) 0 0) (replicate 5 (Enter 0 0)) polled (Ok (Done StackFirst))
unfolding steps_due is_idle steps_of read_safe read_mark read_hold read_wait read_owner ring_bits polled
enters = (refl, (refl, (refl, (refl, (refl, refl)))))

pub stops_entered : Along 0 (stop_steps (side_context Stop (start_of lone.start (entered.known 0))) (start_of lone.start (entered.known 0)).local)
    (replicate 2 Stop) entered tt
unfolding steps_due is_idle steps_of read_safe read_mark read_hold read_wait read_owner ring_bits polled entered
stops_entered = (refl, (refl, refl))

pub stops_finished : Along 0 (stop_steps (side_context Stop (start_of lone.start (finished.known 0))) (start_of lone.start (finished.known 0)).local)
    (replicate 2 Stop) finished tt
unfolding steps_due is_idle steps_of read_safe read_mark read_hold read_wait read_owner ring_bits polled entered turned left finished
stops_finished = (refl, (refl, refl))

pub spends : Along 0 (finish_steps (start_of lone.start (left.known 0)) Spent) (replicate 2 (Finish Spent)) left tt
unfolding steps_due is_idle steps_of read_safe read_mark read_hold read_wait read_owner ring_bits polled entered turned left
spends = (refl, (refl, refl))

pub finds : Along 0 (resume_steps (side_context Resume (start_of lone.start (halted.known 0))) (start_of lone.start (halted.known 0)).local)
    (Resume ∷ []) halted (Pending Halted)
unfolding steps_due is_idle steps_of read_safe read_mark read_hold read_wait read_owner ring_bits halted
finds = (refl, refl)

-- whether it runs and asks there
pub entered_runs : (entered.known 0).running ≡ true
unfolding steps_due is_idle steps_of read_safe read_mark read_hold read_wait read_owner ring_bits polled entered
entered_runs = refl

pub finished_runs : (finished.known 0).running ≡ true
unfolding steps_due is_idle steps_of read_safe read_mark read_hold read_wait read_owner ring_bits polled entered turned left finished
finished_runs = refl

pub turned_stands : IsStopped (turned.known 0)
unfolding steps_due is_idle steps_of read_safe read_mark read_hold read_wait read_owner ring_bits polled entered turned
turned_stands = record { runs = refl; asks = refl }

pub ended_stands : IsStopped (ended.known 0)
unfolding steps_due is_idle steps_of read_safe read_mark read_hold read_wait read_owner ring_bits polled entered turned left finished ended
ended_stands = record { runs = refl; asks = refl }

pub barred_stands : IsStopped (barred.known 0)
unfolding steps_due is_idle steps_of read_safe read_mark read_hold read_wait read_owner ring_bits halted barred
barred_stands = record { runs = refl; asks = refl }
