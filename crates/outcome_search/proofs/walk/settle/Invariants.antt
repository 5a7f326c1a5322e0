use Rattle.std.proofs.Common.{◌≡◌, ◌-◌}
use Rattle.object_program.specs.Program.{ProgramText}
use Rattle.outcome_search.specs.Settled.{settled_by}
use Rattle.outcome_search.proofs.walk.settle.Given as goal

abbrev pub invariant-loop : goal.invariant-loop
invariant-loop g l = record {
  after : g.W.Walker.after l.walker ≡ g.W.Walker.after l.initial.walker;
  left : settled_by (g.W.Walker.after l.initial.walker) (l.steps - l.counter) l.machine
      ≡ settled_by (g.W.Walker.after l.initial.walker) l.steps l.initial.machine;
  trail : (p : ProgramText) → g.W.Walker.trail l.initial.walker p l.initial.machine → g.W.Walker.trail l.walker p l.machine;
}
