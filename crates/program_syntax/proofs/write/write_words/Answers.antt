use Rattle.program_syntax.proofs.Written.{err_after, written_more, join_more}
use Rattle.program_syntax.proofs.write.write_words.Goals as goal

pub loop-i-preserved : goal.loop-i-preserved
loop-i-preserved c =
    written_more _ _ _ _ _ _ c.loop-i.invariant c.in_ok-write_word.ensures.ok (join_more (λ w. w.now) c.args.words.now c.loop-i.i _ c.loop-i-test.true)

pub returns-in_err-write_word-clause-err : goal.returns-in_err-write_word-clause-err
returns-in_err-write_word-clause-err c = err_after _ _ _ _ _ c.loop-i.invariant c.in_err-write_word.ensures.err
