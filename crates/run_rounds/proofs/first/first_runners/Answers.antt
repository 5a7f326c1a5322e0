use Rattle.std.proofs.Common.{◌∙◌, sym, ap, map, subst}
use Rattle.run_rounds.specs.Rounds.{AreReady}
use Rattle.run_rounds.specs.inner.First.{runner_on}
use Rattle.run_rounds.proofs.Ready.{are_ready}
use Rattle.run_rounds.proofs.first.first_runners.Goals as goal

pub returns : goal.returns
returns c = λ h p tick is first.
    let fuel = c.args.fuel in
    let same = c.of.ensures ∙ c.in_ok-runners.ensures ∙ ap (map (runner_on fuel)) first.are in
    subst (AreReady h p fuel tick) (sym same) (are_ready c.unused_passes_are_on.ensures h p fuel tick is c.requires first.fresh first.room)
