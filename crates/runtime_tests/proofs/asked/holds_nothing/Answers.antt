use Rattle.runtime_tests.proofs.MayBegin.{none_held}
use Rattle.runtime_tests.proofs.asked.holds_nothing.Goals as goal

pub returns : goal.returns
returns c = λ e. none_held c.args.pass.now.known.holds c.holds.result c.holds.ensures.holds e
