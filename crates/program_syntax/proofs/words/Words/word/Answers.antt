use Rattle.std.proofs.Common.{sym, ◌∙◌}
use Rattle.program_syntax.proofs.Cuts.{drop-tail}
use Rattle.program_syntax.proofs.words.Words.word.Goals as goal

pub loop-preserved : goal.loop-preserved
loop-preserved c =
    drop-tail c.args.self.now c.loop.counter c.in-Some.field-0.now c.next.new.self (sym c.in-Some.ensures ∙ c.loop.invariant)
