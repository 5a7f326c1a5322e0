use Rattle.std.proofs.Common.{◌∙◌, sym, drop}
use Rattle.program_syntax.specs.inner.Steps.{fails}
use Rattle.program_syntax.proofs.Operands.{some_operand-none}
use Rattle.program_syntax.proofs.cause.some_operand.Goals as goal

pub returns-in_default : goal.returns-in_default
returns-in_default c =
    let none = some_operand-none (λ o w. fails c.args.test c.args.reader.now o w) (drop c.loop-kind.kind-index c.args.kinds.now) in
    sym none ∙ sym (rw c.in_default.ensures at (sym c.loop-kind.invariant))
