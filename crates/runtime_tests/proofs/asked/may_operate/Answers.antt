use Rattle.std.proofs.Common.{sym, ◌∙◌}
use Rattle.runtime_tests.proofs.MayBegin.{operates}
use Rattle.runtime_tests.proofs.asked.may_operate.Goals as goal

pub returns-then-stands : goal.returns-then-stands
returns-then-stands c = λ e. operates c.args.heap.now c.args.pass.now c.args.going c.requires
    (sym c.stands.ensures ∙ c.if-stands.true) (sym c.said_ended.ensures ∙ c.if-said_ended.false) (sym c.is_short.ensures ∙ e)
