use Rattle.std.proofs.Common.{sym, ◌∙◌}
use Rattle.lock_runtime.proofs.Refused.{differs, unheld, held}
use Rattle.lock_runtime.proofs.leaving.exit_slowly.Goals as goal

pub exit_counted-requires-clause-held : goal.exit_counted-requires-clause-held
exit_counted-requires-clause-held c =
    held c.args.heap.now c.args.pass.now c.requires.call.rests c.args.object (differs c.held-depth.ensures.held c.if-depth-eq0.false)

pub returns-then-depth-eq0-clause-owner : goal.returns-then-depth-eq0-clause-owner
returns-then-depth-eq0-clause-owner c =
    unheld c.args.heap.now c.args.pass.now c.requires.call.rests c.args.object (sym c.held-depth.ensures.held ∙ c.if-depth-eq0.true)

pub returns-clause-owner : goal.returns-clause-owner
returns-clause-owner c = held c.args.heap.now c.args.pass.now c.requires.call.rests c.args.object (differs c.held-depth.ensures.held c.if-depth-eq0.false)
