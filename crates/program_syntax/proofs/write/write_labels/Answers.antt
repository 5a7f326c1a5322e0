use Rattle.program_syntax.proofs.Written.{err_after}
use Rattle.program_syntax.proofs.write.write_labels.Goals as goal

pub returns-in_err-write_label-clause-err : goal.returns-in_err-write_label-clause-err
returns-in_err-write_label-clause-err c = err_after _ _ _ _ _ c.loop-label.invariant c.in_err-write_label.ensures.err
