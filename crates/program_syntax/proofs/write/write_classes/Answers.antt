use Rattle.program_syntax.proofs.Written.{err_after}
use Rattle.program_syntax.proofs.write.write_classes.Goals as goal

pub returns-in_err-write_class-clause-err : goal.returns-in_err-write_class-clause-err
returns-in_err-write_class-clause-err c = err_after _ _ _ _ _ c.loop-class.invariant c.in_err-write_class.ensures.err
