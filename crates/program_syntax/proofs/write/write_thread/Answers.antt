use Rattle.std.proofs.Common.{refl}
use Rattle.program_syntax.proofs.Written.{err_after, call_after, written_more}
use Rattle.program_syntax.proofs.write.write_thread.Goals as goal

pub returns-in_err-write_locals-clause-err : goal.returns-in_err-write_locals-clause-err
returns-in_err-write_locals-clause-err c = err_after _ _ _ _ _ c.in_ok-write_line.ensures.ok c.in_err-write_locals.ensures.err

pub returns-clause-err : goal.returns-clause-err
returns-clause-err c =
    let old = c.args.out.now.items in
    call_after _ old _ _ _ (written_more old _ _ _ _ _ c.in_ok-write_line.ensures.ok c.in_ok-write_locals.ensures.ok refl) c.write_code.ensures.err
