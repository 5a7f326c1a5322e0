use Rattle.std.proofs.Common.{sym, ◌∙◌}
use Rattle.lock_runtime_c.proofs.MayBegin.{may_make}
use Rattle.lock_runtime_c.proofs.calls.barred.Goals as goal

pub returns-else-is_full-clause-may : goal.returns-else-is_full-clause-may
returns-else-is_full-clause-may c = λ e.
    may_make c.args.heap.now c.args.pass.now c.requires c.args.task (sym c.first_reason.ensures ∙ c.in-None.is)
    (sym c.is_full.ensures ∙ c.if-is_full.false)
