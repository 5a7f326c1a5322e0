use Rattle.std.proofs.Common.{◌≡◌, ◌-◌, length}
use Rattle.object_program.specs.Program.{ProgramText}
use Rattle.outcome_search.specs.Settled.{first_alone}
use Rattle.outcome_search.proofs.walk.make_first.Given as goal

abbrev pub invariant-loop-t : goal.invariant-loop-t
invariant-loop-t g l = record {
  after : g.W.Walker.after l.walker ≡ g.W.Walker.after l.initial.walker;
  trail : (p : ProgramText) → g.W.Walker.trail l.initial.walker p l.initial.machine → g.W.Walker.trail l.walker p l.machine;
  same : l.machine ≡ l.initial.machine;
  end : l.threads ≡ length l.initial.machine.threads;
  first : first_alone l.initial.machine l.t (l.threads - l.t) ≡ first_alone l.initial.machine 0 (length l.initial.machine.threads);
}
