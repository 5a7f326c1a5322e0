use Rattle.std.proofs.lemmas.Bool.{eqb-true}
use Rattle.heap_table.proofs.Own.{own_read}
use Rattle.heap_table.proofs.reads.is_own.Goals as goal

pub returns-then-raised-eq0 : goal.returns-then-raised-eq0
returns-then-raised-eq0 c = λ is.
    own_read c.args.mark c.args.prototype c.args.thread c.requires.biased c.if-low-eq5.true c.if-age-lt16.true c.if-raised-eq0.true (eqb-true _ _ is)
