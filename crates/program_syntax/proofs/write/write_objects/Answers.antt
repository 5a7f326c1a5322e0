use Rattle.program_syntax.proofs.Written.{err_after}
use Rattle.program_syntax.proofs.write.write_objects.Goals as goal

pub returns-in_err-write_object-clause-err : goal.returns-in_err-write_object-clause-err
returns-in_err-write_object-clause-err c = err_after _ _ _ _ _ c.loop-object.invariant c.in_err-write_object.ensures.err
