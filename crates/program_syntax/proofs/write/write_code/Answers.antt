use Rattle.std.proofs.Common.{refl, ◌+◌}
use Rattle.program_syntax.proofs.Written.{err_after, written_more, code_more}
use Rattle.program_syntax.proofs.write.write_code.Goals as goal

pub loop-i-preserved : goal.loop-i-preserved
loop-i-preserved c =
    written_more _ _ _ _ _ _ c.loop-i.invariant c.in_ok-write_step.ensures.ok
    (code_more c.args.classes.now c.args.objects.now c.args.thread.now c.args.code.now c.loop-i.i (c.loop-i.i + 1) _ c.loop-i-test.true refl)

pub returns-in_err-write_step-clause-err : goal.returns-in_err-write_step-clause-err
returns-in_err-write_step-clause-err c = err_after _ _ _ _ _ c.loop-i.invariant c.in_err-write_step.ensures.err
