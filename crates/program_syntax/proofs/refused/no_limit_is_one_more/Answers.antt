use Rattle.std.proofs.Common.{arith}
use Rattle.program_syntax.proofs.refused.no_limit_is_one_more.Goals as goal

pub returns-clause-classes : goal.returns-clause-classes
returns-clause-classes c = λ h. omega (arith, h)

pub returns-clause-threads : goal.returns-clause-threads
returns-clause-threads c = λ h. omega (arith, h)

pub returns-clause-locals : goal.returns-clause-locals
returns-clause-locals c = λ h. omega (arith, h)

pub returns-clause-code : goal.returns-clause-code
returns-clause-code c = λ h. omega (arith, h)
