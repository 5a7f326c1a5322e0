use Rattle.std.proofs.Common.{◌≡◌, drop}
use Rattle.program_syntax.specs.Refusal.{some_operand}
use Rattle.program_syntax.specs.inner.Steps.{fails}
use Rattle.program_syntax.proofs.cause.some_operand.Given as goal

-- the operands that are left decide
abbrev pub invariant-loop-kind : goal.invariant-loop-kind
invariant-loop-kind l =
    some_operand (λ o w. fails l.test l.reader o w) (drop l.kind-index l.kinds) l.left
    ≡ some_operand (λ o w. fails l.test l.reader o w) l.kinds l.operands
