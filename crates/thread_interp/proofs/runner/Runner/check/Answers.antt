use Rattle.std.proofs.Common.{sym, subst}
use Rattle.thread_calls.specs.Timed.{IsTimed}
use Rattle.thread_interp.specs.Runners.{RunnerSeen}
use Rattle.thread_interp.proofs.runner.Runner.check.Goals as goal

pub returns-clause-timed : goal.returns-clause-timed
returns-clause-timed g c = λ tick timed.
    c.check.ensures.timed tick (subst (λ (r : RunnerSeen). IsTimed tick r.pass.known) (sym c.self.view_is) timed)
