-- Worlds to which these small heaps come, and that their thread rests there, by computing.
use Rattle.std.proofs.Common.{◌≡◌, true, refl, arith}
use Rattle.mark_word.specs.Mark.{read_mark}
use Rattle.mark_word.specs.Safe.{read_safe}
use Rattle.mark_word.specs.Owner.{read_owner}
use Rattle.mark_word.specs.Wait.{read_wait}
use Rattle.mark_word.specs.Hold.{read_hold}
use Rattle.core_world.specs.Due.{steps_due}
use Rattle.core_world.specs.Steps.{is_idle}
use Rattle.core_world.specs.Trees.Calls.{steps_of}
use Rattle.core_world.specs.Words.Shape.{IsInLimits, ring_bits}
use Rattle.core_law.specs.Reached.{IsReachable}
use Rattle.step_history.specs.Examples.{lone, world_of, enters, waits, halts}
use Rattle.step_history.proofs.Exemplified.{by_turns, halted}
use Rattle.small_runs.specs.Runs.{lone_biased, dumps_and_finishes, biased_finishes, has_finished, has_finished_biased}

pub limits : IsInLimits lone.shape
limits = record { threads = omega arith; classes = omega arith; declared = omega arith; objects = omega arith; each = ((omega arith, omega arith), tt) }

pub finished_comes : IsReachable lone has_finished
unfolding steps_due is_idle steps_of read_safe read_mark read_hold read_wait read_owner ring_bits
finished_comes = by_turns lone dumps_and_finishes refl

pub finished_over : is_idle lone.shape (has_finished.known 0) ≡ true
unfolding steps_due is_idle steps_of read_safe read_mark read_hold read_wait read_owner ring_bits
finished_over = refl

pub biased_comes : IsReachable lone_biased has_finished_biased
unfolding steps_due is_idle steps_of read_safe read_mark read_hold read_wait read_owner ring_bits
biased_comes = by_turns lone_biased biased_finishes refl

pub biased_over : is_idle lone_biased.shape (has_finished_biased.known 0) ≡ true
unfolding steps_due is_idle steps_of read_safe read_mark read_hold read_wait read_owner ring_bits
biased_over = refl

pub entered_comes : IsReachable lone (world_of lone (enters 0))
unfolding steps_due is_idle steps_of read_safe read_mark read_hold read_wait read_owner ring_bits
entered_comes = by_turns lone (enters 0) refl

pub entered_over : is_idle lone.shape ((world_of lone (enters 0)).known 0) ≡ true
unfolding steps_due is_idle steps_of read_safe read_mark read_hold read_wait read_owner ring_bits
entered_over = refl

pub waiting_over : is_idle lone.shape ((world_of lone (waits 0)).known 0) ≡ true
unfolding steps_due is_idle steps_of read_safe read_mark read_hold read_wait read_owner ring_bits
waiting_over = refl

pub halted_over : is_idle lone.shape ((world_of lone (halts 0)).known 0) ≡ true
unfolding steps_due is_idle steps_of read_safe read_mark read_hold read_wait read_owner ring_bits
halted_over = refl

pub halted_comes : IsReachable lone (world_of lone (halts 0))
halted_comes = halted.0
