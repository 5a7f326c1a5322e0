use Rattle.std.proofs.Common.{sym, ◌∙◌}
use Rattle.runtime_tests.proofs.MayBegin.{checks}
use Rattle.runtime_tests.proofs.asked.may_check.Goals as goal

pub returns : goal.returns
returns c = λ e. checks c.args.heap.now c.args.pass.now _ c.requires (sym c.said_ended.ensures ∙ c.if-said_ended.false) (sym c.asks_to_check.ensures ∙ e)
