use Rattle.thread_calls.specs.Advances.{rank_with}
use Rattle.thread_calls.specs.Timed.{StaysTimed}
use Rattle.thread_interp.specs.inner.Running.{IsGoing}
use Rattle.thread_interp.proofs.turn.run_quantum.Given as goal

abbrev pub invariant-loop-cause : goal.invariant-loop-cause
invariant-loop-cause g l =
    IsGoing l.run.heap.now l.run.program.now l.run.fuel l.quantum l.fn.pass l.pass l.fn.frame l.frame l.instructions × StaysTimed l.run.tick l.fn.pass l.pass

-- each step makes this fall
abbrev pub decreases-loop-cause : goal.decreases-loop-cause
decreases-loop-cause g l = rank_with l.pass l.frame
