use Rattle.program_syntax.proofs.Written.{err_after}
use Rattle.program_syntax.proofs.write.write_locals.Goals as goal

pub returns-in_err-write_local-clause-err : goal.returns-in_err-write_local-clause-err
returns-in_err-write_local-clause-err c = err_after _ _ _ _ _ c.loop-local.invariant c.in_err-write_local.ensures.err
