use Rattle.program_syntax.proofs.Written.{err_after}
use Rattle.program_syntax.proofs.write.write_threads.Goals as goal

pub returns-in_err-write_thread-clause-err : goal.returns-in_err-write_thread-clause-err
returns-in_err-write_thread-clause-err c = err_after _ _ _ _ _ c.loop-thread.invariant c.in_err-write_thread.ensures.err
