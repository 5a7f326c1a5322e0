use Rattle.outcome_search.specs.Outcomes.{top_steps}
use Rattle.outcome_search.proofs.Choosing.{gone_in}
use Rattle.outcome_search.proofs.witness.choose.Goals as goal

pub returns-clause-machine : goal.returns-clause-machine
unfolding top_steps
returns-clause-machine c =
    gone_in c.go.result (λ m. m) 64 c.args.machine.now c.go.new.machine c.args.t c.go.ensures.made c.go.ensures.machine
