use Rattle.std.proofs.Common.{sym, ◌∙◌}
use Rattle.outcome_search.specs.Settled.{after_next, settled_by}
use Rattle.outcome_search.proofs.Going.{goes_on, goes_nowhere}
use Rattle.outcome_search.proofs.walk.go.Goals as goal

pub returns-then-not-branch-clause-machine : goal.returns-then-not-branch-clause-machine
returns-then-not-branch-clause-machine g c =
    let after = g.W.Walker.after c.args.walker.now in
    let m = c.args.machine.now in
    goes_nowhere (settled_by after c.args.steps) after m c.make_next.new.machine (after_next m c.args.t)
    (sym c.in_ok-make_next.ensures.made ∙ c.if-not-branch.true) c.in_ok-make_next.ensures.machine

pub returns-clause-machine : goal.returns-clause-machine
returns-clause-machine g c =
    let after = g.W.Walker.after c.args.walker.now in
    let m = c.args.machine.now in
    goes_on (settled_by after c.args.steps) after m c.make_next.new.machine c.settle.new.machine (after_next m c.args.t)
    (sym c.in_ok-make_next.ensures.made ∙ c.if-not-branch.false) c.in_ok-make_next.ensures.machine
    (c.in_ok-settle.ensures.machine ∙ (λ i. settled_by (c.make_next.ensures.after_stays i) c.args.steps c.make_next.new.machine))
