use Rattle.std.proofs.Common.{sym, ◌∙◌}
use Rattle.lock_runtime.proofs.Refused.{differs, unheld, held}
use Rattle.lock_runtime.proofs.values.put.Goals as goal

pub put_held-requires-clause-held : goal.put_held-requires-clause-held
put_held-requires-clause-held c =
    held c.args.heap.now c.args.pass.now c.requires.call.rests c.args.object (differs c.held.ensures.held c.if-held-eq0.false)

pub returns-then-held-eq0-clause-owner : goal.returns-then-held-eq0-clause-owner
returns-then-held-eq0-clause-owner c =
    unheld c.args.heap.now c.args.pass.now c.requires.call.rests c.args.object (sym c.held.ensures.held ∙ c.if-held-eq0.true)

pub returns-clause-owner : goal.returns-clause-owner
returns-clause-owner c = held c.args.heap.now c.args.pass.now c.requires.call.rests c.args.object (differs c.held.ensures.held c.if-held-eq0.false)
