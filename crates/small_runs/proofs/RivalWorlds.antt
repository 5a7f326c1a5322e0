-- The turn of a thread that is to enter an object which the other thread holds, by computing.
use Rattle.std.proofs.Common.{◌≡◌, ◌≢◌, ℕ, zero, suc, ◌<◌, [], ◌∷◌, ◌++◌, replicate, true, Ok, refl, sym, subst, arith}
use Rattle.mark_word.specs.Mark.{read_mark}
use Rattle.mark_word.specs.Safe.{read_safe}
use Rattle.mark_word.specs.Owner.{read_owner}
use Rattle.mark_word.specs.Wait.{read_wait}
use Rattle.mark_word.specs.Hold.{read_hold}
use Rattle.core_world.specs.declared.answer.Progress.TheVariants.{Pending}
use Rattle.core_world.specs.declared.heap_call.HeapCall.TheVariants.{Enter, Poll, Stop, Resume}
use Rattle.core_world.specs.Due.{steps_due}
use Rattle.core_world.specs.Steps.{is_idle}
use Rattle.core_world.specs.Threads.ThreadView.{start_of}
use Rattle.core_world.specs.Trees.Calls.{steps_of, side_context}
use Rattle.core_world.specs.Trees.Operations.{enter_steps}
use Rattle.core_world.specs.Trees.SafepointSteps.{stop_steps}
use Rattle.core_world.specs.Words.Shape.{IsInLimits, ring_bits}
use Rattle.core_law.specs.Logic.{heap_of}
use Rattle.core_law.specs.Reached.{IsReachable}
use Rattle.lock_runtime.specs.Standing.{IsStopped}
use Rattle.step_history.specs.Examples.{enters}
use Rattle.step_history.specs.Race.{rivals}
use Rattle.step_history.proofs.Exemplified.{by_turns}
use Rattle.step_history.proofs.Turned.{turns_reach}
use Rattle.turn_progress.specs.Turns.{OthersStand}
use Rattle.small_runs.specs.Rivals.{taken, arrived, pended, kept_out, other_owns}
use Rattle.small_runs.specs.Turns.{turns_of}
use Rattle.small_runs.proofs.Reached.{never_there}
use Rattle.small_runs.proofs.Alone.{Goes, HasMade, goes_by, goes_further, Along}

pub limits : IsInLimits rivals.shape
limits = record { threads = omega arith; classes = omega arith; declared = omega arith; objects = omega arith; each = ((omega arith, omega arith), tt) }

-- THE WORLDS are reached, and thread 1 rests in the second one before its call.
pub taken_comes : IsReachable rivals taken
unfolding steps_due is_idle steps_of read_safe read_mark read_hold read_wait read_owner ring_bits taken
taken_comes = by_turns rivals (enters 0 ++ replicate 2 (0, Stop)) refl

pub arrived_comes : IsReachable rivals arrived
unfolding steps_due is_idle steps_of read_safe read_mark read_hold read_wait read_owner ring_bits taken arrived
arrived_comes = turns_reach rivals taken (turns_of 1 (Resume ∷ Resume ∷ Poll ∷ Poll ∷ [])) taken_comes refl

pub arrived_over : is_idle rivals.shape (arrived.known 1) ≡ true
unfolding steps_due is_idle steps_of read_safe read_mark read_hold read_wait read_owner ring_bits taken arrived
arrived_over = refl

pub arrived_of : heap_of arrived ≡ rivals
unfolding steps_due is_idle steps_of read_safe read_mark read_hold read_wait read_owner ring_bits taken arrived
arrived_of = refl

pub pended_of : heap_of pended ≡ rivals
unfolding steps_due is_idle steps_of read_safe read_mark read_hold read_wait read_owner ring_bits taken arrived pended
pended_of = refl

-- there thread 0 stands still, and there are no more threads
stands_by : (u : ℕ) → u ≢ 1 → IsStopped (taken.known u)
unfolding steps_due is_idle steps_of read_safe read_mark read_hold read_wait read_owner ring_bits taken
stands_by zero other = record { runs = refl; asks = refl }
stands_by (suc zero) other = absurd (other refl)
stands_by (suc (suc u)) other =
    subst IsStopped (sym (never_there rivals taken taken_comes (suc (suc u)) (omega arith))) (record { runs = refl; asks = refl })

within : 1 < taken.shape.threads
unfolding steps_due is_idle steps_of read_safe read_mark read_hold read_wait read_owner ring_bits taken
within = omega arith

pub other_stands : OthersStand taken 1
other_stands = record { within = within; stopped = λ u d. (stands_by u d).runs; unasked = λ u d. (stands_by u d).asks }

-- HOW MANY STEPS thread 1 has made in each of them
made_taken : HasMade 1 taken 0 0
unfolding steps_due is_idle steps_of read_safe read_mark read_hold read_wait read_owner ring_bits taken
made_taken = record { number = refl; polled = refl }

made_arrived : HasMade 1 arrived 4 2
unfolding steps_due is_idle steps_of read_safe read_mark read_hold read_wait read_owner ring_bits taken arrived
made_arrived = record { number = refl; polled = refl }

made_pended : HasMade 1 pended 17 2
unfolding steps_due is_idle steps_of read_safe read_mark read_hold read_wait read_owner ring_bits taken arrived pended
made_pended = record { number = refl; polled = refl }

made_kept_out : HasMade 1 kept_out 19 2
unfolding steps_due is_idle steps_of read_safe read_mark read_hold read_wait read_owner ring_bits taken arrived pended kept_out
made_kept_out = record { number = refl; polled = refl }

-- from each to the next one, and in the turn
pub to_arrived : Goes 1 taken arrived 2
unfolding steps_due is_idle steps_of read_safe read_mark read_hold read_wait read_owner ring_bits taken arrived
to_arrived = goes_by 1 taken (Resume ∷ Resume ∷ Poll ∷ Poll ∷ []) 0 0 4 2 2 refl made_taken made_arrived (omega arith) (omega arith)

pub to_pended : Goes 1 arrived pended 0
unfolding steps_due is_idle steps_of read_safe read_mark read_hold read_wait read_owner ring_bits taken arrived pended
to_pended = goes_by 1 arrived (replicate 13 (Enter 0 0)) 4 2 17 2 0 refl made_arrived made_pended (omega arith) (omega arith)

to_kept_out : Goes 1 pended kept_out 0
unfolding steps_due is_idle steps_of read_safe read_mark read_hold read_wait read_owner ring_bits taken arrived pended kept_out
to_kept_out = goes_by 1 pended (replicate 2 Stop) 17 2 19 2 0 refl made_pended made_kept_out (omega arith) (omega arith)

pub whole_turn : Goes 1 taken kept_out 2
whole_turn =
    goes_further 1 taken arrived kept_out 2 0 2 to_arrived
    (goes_further 1 arrived pended kept_out 0 0 0 to_pended to_kept_out (omega arith)) (omega arith)

-- THE LAST CALL of the turn, and the stop after it
pub finds : Along 1 (enter_steps rivals.shape (start_of rivals.start (arrived.known 1)) 0 0) (replicate 13 (Enter 0 0)) arrived (Ok (Pending other_owns))
unfolding steps_due is_idle steps_of read_safe read_mark read_hold read_wait read_owner ring_bits taken arrived
finds = (refl, (refl, (refl, (refl, (refl, (refl, (refl, (refl, (refl, (refl, (refl, (refl, (refl, refl)))))))))))))

pub stops : Along 1 (stop_steps (side_context Stop (start_of rivals.start (pended.known 1))) (start_of rivals.start (pended.known 1)).local)
    (replicate 2 Stop) pended tt
unfolding steps_due is_idle steps_of read_safe read_mark read_hold read_wait read_owner ring_bits taken arrived pended
stops = (refl, (refl, refl))

pub pended_runs : (pended.known 1).running ≡ true
unfolding steps_due is_idle steps_of read_safe read_mark read_hold read_wait read_owner ring_bits taken arrived pended
pended_runs = refl

pub kept_out_stands : IsStopped (kept_out.known 1)
unfolding steps_due is_idle steps_of read_safe read_mark read_hold read_wait read_owner ring_bits taken arrived pended kept_out
kept_out_stands = record { runs = refl; asks = refl }
